use Rattle.std.proofs.Common.{◌∷◌, ap, sym, subst, IfOk}
use Rattle.rp_pattern.specs.Continuations.{continuation_parts, node_part, tail_parts}
use Rattle.rp_pattern.specs.Splits.{TakenUp}
use Rattle.rp_pattern.proofs.Steps.{taken_as}
use Rattle.rp_pattern.proofs.machine.continuation.Continuation.take_up.Goals as goal

pub returns-in-Then : goal.returns-in-Then
returns-in-Then c = subst (λ r. IfOk c.take_up.result (TakenUp c.args.n c.args.end c.args.row (λ n e. continuation_parts n e r) c.take_up.new.split)) (sym c.in-Then.is) c.take_up.ensures

pub returns-in-Row : goal.returns-in-Row
returns-in-Row c =
    let a = c.args in
    let w = c.in-Row in
    taken_as a.n a.end a.row _ (λ n e. continuation_parts n e a.self.now) (λ n e. ap (continuation_parts n e) (sym w.is)) c.take_row.new.split c.take_row.result
    (c.take_row.ensures (λ n e. node_part n e w.next ∷ tail_parts n e w.then))
