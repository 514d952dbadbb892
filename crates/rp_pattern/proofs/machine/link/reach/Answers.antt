use Rattle.std.proofs.Common.{refl, sym, ap, ◌∙◌, subst, Some}
use Rattle.rp_pattern.specs.declared.machine.link.Link.TheViews.{out-Link}
use Rattle.rp_pattern.specs.declared.machine.continuation.Continuation.TheVariants.{Reached}
use Rattle.rp_pattern.specs.Continuations.{tail_parts}
use Rattle.rp_pattern.specs.Splits.{StandsFor}
use Rattle.rp_pattern.proofs.Tails.{follow_stands, IsPassed}
use Rattle.rp_pattern.proofs.machine.link.reach.Goals as goal
use Rattle.rp_pattern.proofs.machine.link.reach.Goals.{in-Some-since+else-row-since, in_default-since}

pub returns : goal.returns
returns c = λ n e.
    let i = c.args.row in
    let l = c.in-Some.link.value in
    let passed : IsPassed (out-Link l).since i =
    elim c.match-deref.branch [
      | in-Some-since+else-row-since w ↦ subst (λ s. IsPassed s i) (sym (ap (λ k. (out-Link k).since) (sym c.deref.ensures) ∙ w.in-Some-since.is)) w.if-row-since.false
      | in_default-since w ↦ subst (λ s. IsPassed s i) (sym (ap (λ k. (out-Link k).since) (sym c.deref.ensures) ∙ w.in_default-since.is)) tt
    ] in
    subst (λ t. StandsFor n e i (tail_parts n e t) (Some (Reached c.in-Some.link))) (sym c.in-Some.is)
    (follow_stands n e i l c.in-Some.link refl passed)
