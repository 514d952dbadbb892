use Rattle.std.proofs.Common.{sym, ◌∙◌, arith}
use Rattle.rp_query.specs.declared.item.Item.TheVariants.{End as EndItem}
use Rattle.rp_known.specs.Known.{known_in}
use Rattle.rp_walker.proofs.Ends.{ends_with}
use Rattle.rp_walker.proofs.Begins.{waits_past, end_past, left_past}
use Rattle.rp_walker.proofs.Working.{last_spends, same_spends}
use Rattle.rp_walker.proofs.walker.Walker.at_last.Goals as goal

pub returns-in-Open-clause-keeps : goal.returns-in-Open-clause-keeps
returns-in-Open-clause-keeps g c =
    waits_past c.args.query.now (known_in g.R.Rows.known g.R.Rows.ending c.args.rows.now) c.args.self.now c.requires.going c.requires.stands c.requires.past (sym c.end.ensures ∙ c.in-Open.is)

pub returns-in-Closed-clause-keeps : goal.returns-in-Closed-clause-keeps
returns-in-Closed-clause-keeps g c =
    let w = c.args.self.now in
    let q = c.args.query.now in
    let p = known_in g.R.Rows.known g.R.Rows.ending c.args.rows.now in
    ends_with q p w w.stage w.stage EndItem 0 c.requires.going (omega (arith, left_past q p w.state w.stage c.requires.going.going c.requires.past)) (omega arith)
    (λ within. end_past q p w c.requires.past (sym c.end.ensures ∙ c.in-Closed.is))
    c.end_with.new.self c.end_with.result c.end_with.ensures.given c.end_with.ensures.gives

pub returns-in-Open-clause-works : goal.returns-in-Open-clause-works
returns-in-Open-clause-works g c =
    same_spends c.args.query.now (known_in g.R.Rows.known g.R.Rows.ending c.args.rows.now) c.args.self.now.state c.args.self.now.stage

pub returns-in-Closed-clause-works : goal.returns-in-Closed-clause-works
returns-in-Closed-clause-works g c =
    let w = c.args.self.now in
    let q = c.args.query.now in
    let p = known_in g.R.Rows.known g.R.Rows.ending c.args.rows.now in
    last_spends q p w c.end_with.new.self w.stage w.stage EndItem 0 c.end_with.result c.requires.going.going (λ first row by. by) c.end_with.ensures.given c.end_with.ensures.gives
