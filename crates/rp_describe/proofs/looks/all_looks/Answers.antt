use Rattle.std.proofs.Common.{◌≡◌, ℕ, zero, suc, ◌+◌, ◌<◌, ◌≤◌, Bool, true, false, List, [], ◌∷◌, length, vec_len, Some, None, refl, sym, ap, ◌∙◌, subst, arith}
use Rattle.std.specs.Prelude.{nat_lt, slice_get}
use Rattle.std.proofs.lemmas.Bool.Decides.{nat_tests}
use Rattle.rp_query.specs.declared.plan.Condition.{Condition}
use Rattle.rp_query.specs.declared.query.Plan.{Plan}
use Rattle.rp_query.specs.Definitions.{condition_at, definition_of}
use Rattle.rp_describe.specs.Said.{IsSaidOf}
use Rattle.rp_describe.proofs.looks.all_looks.Goals as goal

past : {X : Type 0} (xs : List X) (i : ℕ) → length xs ≤ i → slice_get xs i ≡ None
past [] i far = refl
past (x ∷ xs) zero far = absurd (omega (arith, far))
past (x ∷ xs) (suc i) far = past xs i (omega (arith, far))

none_past : (plan : Plan) (v : ℕ) (d : Condition) → length plan.definitions.items ≤ v → definition_of plan v ≡ Some d → v < length plan.definitions.items
none_past plan v d far defined =
    let none : definition_of plan v ≡ None = ap (condition_at plan.conditions.items) (past plan.definitions.items v far) in
    let never : None ≡ Some d = sym none ∙ defined in
    absurd (cc)

-- what holds below the next number holds below that number and at it
below_next : (P : ℕ → Type 0) (k : ℕ) → ((v : ℕ) → v < k → P v) → P k → (v : ℕ) → v < k + 1 → P v
below_next P k below here v less = go (nat_lt v k) refl
  where
    go : (b : Bool) → nat_lt v k ≡ b → P v
    go true e = below v (grind (arith, nat_tests))
    go false e = let same : k ≡ v = grind (arith, nat_tests) in subst P same here

pub loop-number-preserved : goal.loop-number-preserved
loop-number-preserved c =
    let q = c.args.query.now in
    below_next (λ v. (d : Condition) → definition_of q.plan v ≡ Some d → IsSaidOf q v d c.with_variable-all.result) c.loop-number.number
    (λ v less d defined. c.with_variable-all.ensures.kept v d (c.loop-number.invariant v less d defined)) c.with_variable-all.ensures.said

pub returns : goal.returns
returns c = λ v d defined.
    let q = c.args.query.now in
    let size : c.len-number-end.result ≡ length q.plan.definitions.items =
    c.len-number-end.ensures ∙ ap (λ plan. vec_len plan.definitions) c.plan.ensures.plan ∙ q.plan.definitions.ok.0 in
    let long : length q.plan.definitions.items ≤ c.loop-number.number = omega (arith, size, c.loop-number-test.false) in
    go v d defined long (nat_lt v c.loop-number.number) refl
  where
    go : (v : ℕ) (d : Condition) → definition_of c.args.query.now.plan v ≡ Some d → length c.args.query.now.plan.definitions.items ≤ c.loop-number.number →
        (b : Bool) → nat_lt v c.loop-number.number ≡ b → IsSaidOf c.args.query.now v d c.loop-number.all
    go v d defined long true e = c.loop-number.invariant v (grind (arith, nat_tests)) d defined
    go v d defined long false e = absurd (let far : length c.args.query.now.plan.definitions.items ≤ v = grind (arith, nat_tests) in let near = none_past c.args.query.now.plan v d far defined in omega (arith, far, near))
