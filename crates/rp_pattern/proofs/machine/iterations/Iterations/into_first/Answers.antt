use Rattle.std.proofs.Common.{◌≡◌, ◌∷◌, ◌+◌, ℕ, suc, List, None, Some, refl, sym, ap, ◌∙◌, subst, arith}
use Rattle.rp_words.specs.declared.word.End.{End}
use Rattle.rp_pattern.specs.declared.machine.link.Part.TheVariants.{Times}
use Rattle.rp_words.specs.Turns.{WordsAndTurns, iterations}
use Rattle.rp_program.specs.Parts.{form_part}
use Rattle.rp_pattern.specs.Continuations.{iterations_part, node_part, still, tail_parts}
use Rattle.rp_pattern.specs.Splits.{AlwaysSplits, Replaces}
use Rattle.rp_program.proofs.Expansions.{Leaves, required_leaves}
use Rattle.rp_pattern.proofs.OrderRests.{IfOk-map}
use Rattle.rp_pattern.proofs.Steps.{linked_parts, node_as, one_splits, replaces_as}
use Rattle.rp_pattern.proofs.machine.iterations.Iterations.into_first.Goals as goal

pub returns : goal.returns
returns c =
    let a = c.args in
    let it = a.self in
    let l = a.lower in
    let then = a.then.now in
    let later = c.in_ok-later.later in
    IfOk-map (λ first. (n : ℕ) (e : End) (i : ℕ) → Replaces n e i (form_part n e a.body.now.value a.excluded ∷ tail_parts n e later) (Some first))
    (λ first. (row : ℕ) → AlwaysSplits row (λ n e. iterations_part n e (l + 1) it ∷ tail_parts n e then) (record { preferred = None; other = Some first }))
    (λ first h row n e.
    let ts = tail_parts n e then in
    let p = node_part n e it.body in
    let qs : List WordsAndTurns = p ∷ iterations l (still n it.further) it.reluctant p ∷ ts in
    let own = sym (node_as n e it.body a.body.now.value a.excluded c.requires) in
    let second = linked_parts n e later c.in_ok-share.field-0 then None (Times l it) c.in_ok-later.ensures c.in_ok-share.ensures in
    let more : suc l ≡ l + 1 = omega arith in
    one_splits n e row _ qs (Some first) _ refl
    (replaces_as n e row _ qs (Some first) (ap (λ z. z ∷ tail_parts n e later) own ∙ ap (λ z. p ∷ z) second) (h n e row))
    (subst (λ k. Leaves row (iterations k (still n it.further) it.reluctant p ∷ ts) qs) more (required_leaves l (still n it.further) it.reluctant p ts row)))
    c.before-2.result c.before-2.ensures
