use Rattle.std.proofs.Common.{sym, ◌∙◌, arith}
use Rattle.rp_known.specs.Known.{known_in}
use Rattle.rp_walker.proofs.Passing.{passes_hidden, passes_given}
use Rattle.rp_walker.proofs.Working.{pass_spends}
use Rattle.rp_walker.proofs.walker.Walker.give.Goals as goal

pub returns-then-is_hidden-clause-keeps : goal.returns-then-is_hidden-clause-keeps
returns-then-is_hidden-clause-keeps g c =
    let q = c.args.query.now in
    let p = known_in g.R.Rows.known g.R.Rows.ending c.args.rows.now in
    passes_hidden q p c.args.self.now c.args.found c.args.ahead c.requires.going c.requires.gives c.requires.totals c.requires.serves c.requires.not_past (omega (arith, c.requires.gives.ordered, c.if-ahead.false))
    (sym c.is_hidden.ensures ∙ c.if-is_hidden.true) c.pass.new.self c.pass.result c.pass.ensures.went c.pass.ensures.now

pub returns-then-ahead-self-clause-keeps : goal.returns-then-ahead-self-clause-keeps
returns-then-ahead-self-clause-keeps g c =
    let q = c.args.query.now in
    let p = known_in g.R.Rows.known g.R.Rows.ending c.args.rows.now in
    passes_given q p c.args.self.now c.args.found c.args.ahead c.requires.going c.requires.gives c.requires.totals c.requires.serves c.if-ahead-self.true (omega (arith, c.requires.gives.ordered, c.if-ahead.false))
    (sym c.is_hidden.ensures ∙ c.if-is_hidden.false) c.pass-then-ahead-self.new.self c.pass-then-ahead-self.result c.pass-then-ahead-self.ensures.went c.pass-then-ahead-self.ensures.now

pub returns-then-is_hidden-clause-works : goal.returns-then-is_hidden-clause-works
returns-then-is_hidden-clause-works g c =
    let q = c.args.query.now in
    let p = known_in g.R.Rows.known g.R.Rows.ending c.args.rows.now in
    pass_spends q p c.args.self.now c.pass.new.self c.args.found c.args.ahead _ c.pass.result c.requires.going.going (omega (arith, c.requires.gives.ordered, c.if-ahead.false)) c.pass.ensures.went c.pass.ensures.now

pub returns-then-ahead-self-clause-works : goal.returns-then-ahead-self-clause-works
returns-then-ahead-self-clause-works g c =
    let q = c.args.query.now in
    let p = known_in g.R.Rows.known g.R.Rows.ending c.args.rows.now in
    pass_spends q p c.args.self.now c.pass-then-ahead-self.new.self c.args.found c.args.ahead _ c.pass-then-ahead-self.result c.requires.going.going (omega (arith, c.requires.gives.ordered, c.if-ahead.false))
    c.pass-then-ahead-self.ensures.went c.pass-then-ahead-self.ensures.now

pub end_row-requires-clause-going : goal.end_row-requires-clause-going
end_row-requires-clause-going g c = c.requires.going

pub end_row-requires-clause-gives : goal.end_row-requires-clause-gives
end_row-requires-clause-gives g c = c.requires.gives

pub end_row-requires-clause-serves : goal.end_row-requires-clause-serves
end_row-requires-clause-serves g c = c.requires.serves

pub end_row-requires-clause-few : goal.end_row-requires-clause-few
end_row-requires-clause-few g c = c.requires.few

pub give_item-requires-clause-going : goal.give_item-requires-clause-going
give_item-requires-clause-going g c = c.requires.going

pub give_item-requires-clause-gives : goal.give_item-requires-clause-gives
give_item-requires-clause-gives g c = c.requires.gives

pub give_item-requires-clause-serves : goal.give_item-requires-clause-serves
give_item-requires-clause-serves g c = c.requires.serves

pub give_item-requires-clause-few : goal.give_item-requires-clause-few
give_item-requires-clause-few g c = c.requires.few

pub end_row-requires-clause-not_past : goal.end_row-requires-clause-not_past
end_row-requires-clause-not_past g c = c.requires.not_past

pub give_item-requires-clause-totals : goal.give_item-requires-clause-totals
give_item-requires-clause-totals g c = c.requires.totals

pub returns-clause-kept : goal.returns-clause-kept
returns-clause-kept g c = c.give_item.ensures.kept

pub returns-clause-keeps : goal.returns-clause-keeps
returns-clause-keeps g c = c.give_item.ensures.keeps

pub returns-clause-works : goal.returns-clause-works
returns-clause-works g c = c.give_item.ensures.works

pub returns-clause-steps : goal.returns-clause-steps
returns-clause-steps g c = c.tick.ensures

pub returns-then-ahead-clause-keeps : goal.returns-then-ahead-clause-keeps
returns-then-ahead-clause-keeps g c = c.end_row.ensures.keeps

pub returns-then-ahead-clause-works : goal.returns-then-ahead-clause-works
returns-then-ahead-clause-works g c = c.end_row.ensures.works
