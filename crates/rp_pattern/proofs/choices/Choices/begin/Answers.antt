use Rattle.std.proofs.Common.{◌+◌, ◌≤◌, [], ◌∙◌, refl, ap, length, subst, arith}
use Rattle.rp_pattern.specs.Choices.{entered}
use Rattle.rp_pattern.specs.Ways.{stack_of, kept_of, origin, whole_cost}
use Rattle.rp_pattern.specs.Rests.{stack_cost, first_weight}
use Rattle.rp_pattern.proofs.ChoiceStacks.{same_whole, same_spared, all_front, none_front, stands_as, rises_more, begun_remaining, begun_left, no_height}
use Rattle.rp_pattern.proofs.Rising.{rises_put}
use Rattle.rp_pattern.proofs.KeptWays.{fewer}
use Rattle.rp_pattern.proofs.Costs.{begins_put, begins_same, same_kept}
use Rattle.rp_pattern.proofs.choices.Choices.begin.Goals as goal

pub returns-then-self-clause-cut : goal.returns-then-self-clause-cut
returns-then-self-clause-cut c = all_front _

pub invariant_of-self : goal.invariant_of-self
invariant_of-self c =
    let old = c.args.self.now in
    record {
      rises = rises_more 0 (length c.clear-2.new.self.items) (stack_of c.begin.new.self) (omega arith)
          (rises_put (origin (kept_of c.clear.new.self)) old.start 0 [] (stack_of c.begin.new.self) c.begin.result refl c.begin.ensures.put c.begin.ensures.refused);
      ends = omega (arith, ap length c.clear-2.ensures.items, old.ends);
    }

pub returns-in_err-begin-clause-whole : goal.returns-in_err-begin-clause-whole
returns-in_err-begin-clause-whole c = same_whole _ _ refl (c.begin.ensures.kept ∙ c.clear.ensures.kept)

pub returns-clause-whole : goal.returns-clause-whole
returns-clause-whole c = same_whole _ _ refl (c.begin.ensures.kept ∙ c.clear.ensures.kept)

pub returns-clause-cut : goal.returns-clause-cut
unfolding entered
returns-clause-cut c = none_front _ _ c.clear-2.ensures.items

pub returns-clause-remaining : goal.returns-clause-remaining
returns-clause-remaining c = λ n e.
    let old = c.args.self.now in
    let kept = c.begin.ensures.kept ∙ c.clear.ensures.kept in
    let put = c.in_ok-begin.ensures.put in
    begun_remaining old _ put.rest n e c.if-self.false
    (record { begun = refl; start = refl; labels = c.clear-2.ensures.items; choices = put.is })
    (stands_as old c.clear.new.self put.rest n e c.clear.ensures.kept (put.stands n e))
    (same_spared old _ refl kept)

pub returns-clause-left : goal.returns-clause-left
returns-clause-left c = λ n e.
    let old = c.args.self.now in
    let kept = c.begin.ensures.kept ∙ c.clear.ensures.kept in
    let put = c.in_ok-begin.ensures.put in
    begun_left old _ put.rest n e c.if-self.false
    (record { begun = refl; start = refl; labels = c.clear-2.ensures.items; choices = put.is })
    (stands_as old c.clear.new.self put.rest n e c.clear.ensures.kept (put.stands n e))
    (same_spared old _ refl kept) (fewer old.ways n e old.start)

pub returns-clause-height : goal.returns-clause-height
returns-clause-height c = λ h lt. absurd (no_height c.args.self.now c.if-self.false h lt)

pub returns-clause-above : goal.returns-clause-above
returns-clause-above c = λ h n e lt. absurd (no_height c.args.self.now c.if-self.false h lt)

pub returns-then-self-clause-costs : goal.returns-then-self-clause-costs
returns-then-self-clause-costs c = begins_same c.args.self.now

pub returns-in_err-begin-clause-keeps : goal.returns-in_err-begin-clause-keeps
returns-in_err-begin-clause-keeps c = same_kept c.args.self.now _ (c.begin.ensures.kept ∙ c.clear.ensures.kept)

pub returns-clause-keeps : goal.returns-clause-keeps
returns-clause-keeps c = same_kept c.args.self.now _ (c.begin.ensures.kept ∙ c.clear.ensures.kept)

pub returns-clause-under : goal.returns-clause-under
returns-clause-under c = λ h n e lt. absurd (no_height c.args.self.now c.if-self.false h lt)

pub returns-clause-costs : goal.returns-clause-costs
returns-clause-costs c =
    let old = c.args.self.now in
    begins_put old _ c.if-self.false refl (subst (λ k. stack_cost (stack_of c.begin.new.self) + first_weight (stack_of c.begin.new.self) ≤ whole_cost k) c.clear.ensures.kept c.in_ok-begin.ensures.costs)
