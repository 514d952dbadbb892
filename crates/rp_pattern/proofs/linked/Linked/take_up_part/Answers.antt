use Rattle.std.proofs.Common.{ap, ◌∙◌, subst}
use Rattle.rp_pattern.specs.declared.machine.split.Expansion.{Expansion}
use Rattle.rp_pattern.specs.Continuations.{pushed, continuation_parts}
use Rattle.rp_pattern.specs.Splits.{TakenUp}
use Rattle.rp_pattern.proofs.LinkedChoices.{split_taken}
use Rattle.rp_pattern.proofs.linked.Linked.take_up_part.Goals as goal

pub returns-in_ok-push-in-Split-clause-taken : goal.returns-in_ok-push-in-Split-clause-taken
returns-in_ok-push-in-Split-clause-taken c =
    let a = c.args in
    let t = c.in-Some.choice.now in
    let s = c.take_up.new.split in
    let came = subst (λ (z : Expansion). TakenUp a.n a.end a.row (λ n e. continuation_parts n e t.continuation) s z) c.in-Split.is c.in_ok-take_up.ensures in
    split_taken _ a.self.now.stack c.push.new.stack t a.n a.end a.row s c.in-Some.ensures came
    (c.in_ok-push-in-Split.ensures ∙ ap (pushed t.depth s.preferred) c.set_top.ensures)
