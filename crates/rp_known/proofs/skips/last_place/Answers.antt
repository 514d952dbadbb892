use Rattle.std.proofs.Common.{◌≡◌, ℕ, suc, ◌+◌, ◌<◌, Bool, true, false, cond, List, [], ◌∷◌, ◌++◌, length, take, get_or, Option, Some, None, IfSome, refl, sym, ap, ◌∙◌, subst, arith}
use Rattle.std.proofs.lemmas.List.{take_more, length-take}
use Rattle.rp_words.specs.declared.word.Label.{Label}
use Rattle.rp_known.specs.Skips.{is_of, last_passing, or_here}
use Rattle.rp_known.proofs.skips.last_place.Goals as goal
use Rattle.rp_known.proofs.skips.last_place.Goals.{then-includes, else-includes}

last_one : (b : Bool) → or_here b None ≡ cond b (Some 0) None
last_one true = refl
last_one false = refl

last_further : (b here : Bool) (k : ℕ) (before : Option ℕ) → or_here here (cond b (Some k) before) ≡ cond b (Some (suc k)) (or_here here before)
last_further true here k before = refl
last_further false here k before = refl

last_push : (test : Label → Bool) (ls : List Label) (l : Label) → last_passing test (ls ++ l ∷ []) ≡ cond (test l) (Some (length ls)) (last_passing test ls)
last_push test [] l = last_one (test l)
last_push test (m ∷ ls) l = ap (or_here (test m)) (last_push test ls l) ∙ last_further (test l) (test m) (length ls) (last_passing test ls)

last_more : (test : Label → Bool) (ls : List Label) (i : ℕ) (d : Label) → i < length ls → last_passing test (take (i + 1) ls) ≡ cond (test (get_or ls i d)) (Some i) (last_passing test (take i ls))
last_more test ls i d h =
    ap (last_passing test) (take_more ls i d h) ∙ last_push test (take i ls) (get_or ls i d)
    ∙ ap (λ k. cond (test (get_or ls i d)) (Some k) (last_passing test (take i ls))) (omega (arith, length-take i ls, h))

pub loop-place-preserved : goal.loop-place-preserved
loop-place-preserved c =
    let ls = c.args.labels.now in
    let k : ℕ = c.loop-place.place in
    let d : Label = record { var = 0; excluded = false } in
    let before : Option ℕ = last_passing (is_of c.args.variables.now) (take k ls) in
    let h = last_more (is_of c.args.variables.now) ls k d c.loop-place-test.true in
    elim c.if-includes.branch [
      | then-includes w ↦
          let now : last_passing (is_of c.args.variables.now) (take (k + 1) ls) ≡ Some k = h ∙ ap (λ b. cond b (Some k) before) (sym c.includes.ensures ∙ w.if-includes.true) in
          (w.last-is ∙ sym now, subst (λ o. IfSome o (λ j. j < length ls)) (sym w.last-is) c.loop-place-test.true)
      | else-includes w ↦
          let now : last_passing (is_of c.args.variables.now) (take (k + 1) ls) ≡ before = h ∙ ap (λ b. cond b (Some k) before) (sym c.includes.ensures ∙ w.if-includes.false) in
          (w.last-is ∙ c.loop-place.invariant.0 ∙ sym now, subst (λ o. IfSome o (λ j. j < length ls)) (sym w.last-is) c.loop-place.invariant.1)
    ]
