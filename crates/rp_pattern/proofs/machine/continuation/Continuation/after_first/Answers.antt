use Rattle.std.proofs.Common.{ℕ, Some, refl, sym, ap, ◌∙◌, subst}
use Rattle.rp_words.specs.declared.word.End.{End}
use Rattle.rp_pattern.specs.declared.machine.continuation.Continuation.TheVariants.{Done}
use Rattle.rp_pattern.specs.declared.machine.link.Link.TheViews.{out-Link}
use Rattle.rp_pattern.specs.Continuations.{later_parts, tail_parts}
use Rattle.rp_pattern.specs.Splits.{StandsFor}
use Rattle.rp_pattern.proofs.OrderRests.{IfOk-map}
use Rattle.rp_pattern.proofs.Tails.{later_out}
use Rattle.rp_pattern.proofs.machine.continuation.Continuation.after_first.Goals as goal

pub returns-in-Done : goal.returns-in-Done
returns-in-Done c = λ n e. subst (λ r. StandsFor n e c.args.row (later_parts n e r) (Some Done)) (sym c.in-Done.is) (record { words = refl; turns = refl })

pub returns-in-Then : goal.returns-in-Then
returns-in-Then c =
    IfOk-map _ (λ r. (n : ℕ) (e : End) → StandsFor n e c.args.row (later_parts n e c.args.self.now) r)
    (λ r h n e. subst (λ ps. StandsFor n e c.args.row ps r) (sym (ap (later_parts n e) c.in-Then.is)) (h n e))
    c.reach_shared.result c.reach_shared.ensures

pub returns-in-Reached : goal.returns-in-Reached
returns-in-Reached c =
    let l = c.in-Reached.link.value in
    IfOk-map _ (λ r. (n : ℕ) (e : End) → StandsFor n e c.args.row (later_parts n e c.args.self.now) r)
    (λ r h n e.
    let same = ap (later_parts n e) c.in-Reached.is ∙ later_out n e l ∙ ap (λ k. tail_parts n e (out-Link k).then) (sym c.deref.ensures) in
    subst (λ ps. StandsFor n e c.args.row ps r) (sym same) (h n e))
    c.reach_shared-in-Reached.result c.reach_shared-in-Reached.ensures
