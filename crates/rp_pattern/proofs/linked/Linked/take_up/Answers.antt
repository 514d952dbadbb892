use Rattle.std.proofs.Common.{refl}
use Rattle.rp_pattern.proofs.LinkedChoices.{known_row}
use Rattle.rp_pattern.proofs.linked.Linked.take_up.Goals as goal

pub returns-in-Some-label-clause-taken : goal.returns-in-Some-label-clause-taken
returns-in-Some-label-clause-taken c =
    let a = c.args in
    let old = a.self.now.stack in
    known_row _ old old c.in-Some.choice.now a.n a.end a.row c.in-Some-label.label c.in-Some.ensures c.in-Some-label.ensures refl c.if-row-n.false
