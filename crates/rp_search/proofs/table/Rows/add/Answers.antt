use Rattle.rp_search.proofs.Tables.{kept_but_one, kept_through, only_through}
use Rattle.rp_search.proofs.table.Rows.add.Goals as goal

pub returns-then-is_ready-clause-kept : goal.returns-then-is_ready-clause-kept
returns-then-is_ready-clause-kept c kept =
    kept_but_one c.args.self.now c.set.new.self c.args.from c.args.row (c.is_free-kept.ensures kept) c.set.ensures.others

pub returns-clause-kept : goal.returns-clause-kept
returns-clause-kept c kept =
    kept_through c.args.self.now c.in_ok-rows.rows c.set-2.new.self c.args.from c.args.row c.in_ok-rows.ensures.same
    (kept_but_one c.in_ok-rows.rows c.set-2.new.self c.args.from c.args.row (c.is_free-kept-2.ensures kept) c.set-2.ensures.others)

pub returns-clause-only : goal.returns-clause-only
returns-clause-only c = only_through c.args.self.now c.in_ok-rows.rows c.set-2.new.self c.args.row c.args.until c.in_ok-rows.ensures.only c.set-2.ensures.only
