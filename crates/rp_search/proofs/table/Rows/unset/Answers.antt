use Rattle.std.proofs.Common.{rules, ◌≡◌, ◌%◌, length, replicate}
use Rattle.rp_search.proofs.Tables.{nothing, nothing_at}
use Rattle.rp_search.proofs.table.Rows.unset.Goals as goal

pub returns-clause-none : goal.returns-clause-none
returns-clause-none c row =
    let all : c.resize.new.self.items ≡ replicate c.args.count nothing = search rules in
    rw all (nothing_at c.args.count (row % length (replicate c.args.count nothing)) row)
