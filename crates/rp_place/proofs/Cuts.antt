-- The last offset at or before another where a text may be cut.
use Rattle.std.proofs.Common.{◌≡◌, ◌<◌, ◌≤◌, ℕ, zero, suc, Bool, true, false, cond, List, length, get_or, refl, arith, ⊎_elim}
use Rattle.std.specs.Str.{IsCharBoundary}
use Rattle.std.proofs.lemmas.Bool.{cases_lt}
use Rattle.std.proofs.lemmas.Bool.Decides.{nat_tests}
use Rattle.std.proofs.lemmas.List.{get_or_past}
use Rattle.rp_place.specs.Places.{cut_at, is_cut}

-- the test says whether the text may be cut
is_cut-boundary : (text : List ℕ) (i : ℕ) → IsCharBoundary text i → is_cut text i ≡ true
is_cut-boundary text i boundary =
    ⊎_elim (λ (below : i < length text). grind (arith, nat_tests, boundary.1 below))
    (λ (past : length text ≤ i). let end : get_or text i 0 ≡ 0 = get_or_past text i 0 past in grind (arith, nat_tests, boundary.0))
    (cases_lt i (length text))

boundary-is_cut : (text : List ℕ) (i : ℕ) → is_cut text i ≡ true → IsCharBoundary text i
boundary-is_cut text i cut = (grind (arith, nat_tests), λ below high. grind (arith, nat_tests))

at_cut : (text : List ℕ) (offset last before : ℕ) (b : Bool) → is_cut text offset ≡ b
    → last ≤ offset → IsCharBoundary text last → ((i : ℕ) → last < i → i ≤ offset → IsCharBoundary text i → ⊥)
    → (last < offset → before ≡ last) → cond b offset before ≡ last
at_cut text offset last before true cut within boundary nearest earlier =
    ⊎_elim (λ (less : last < offset). absurd (nearest offset less (omega arith) (boundary-is_cut text offset cut)))
    (λ (more : offset ≤ last). omega arith) (cases_lt last offset)
at_cut text offset last before false cut within boundary nearest earlier =
    ⊎_elim (λ (less : last < offset). earlier less)
    (λ (more : offset ≤ last). let same : last ≡ offset = omega arith in
    let passes : is_cut text offset ≡ true = rw (← same) (is_cut-boundary text last boundary) in cc)
    (cases_lt last offset)

-- a cut with none between it and the offset is the last one
pub cut_at_is : (text : List ℕ) (offset last : ℕ) → last ≤ offset → IsCharBoundary text last
    → ((i : ℕ) → last < i → i ≤ offset → IsCharBoundary text i → ⊥) → cut_at text offset ≡ last
unfolding cut_at
cut_at_is text zero last within boundary nearest = omega arith
cut_at_is text (suc offset) last within boundary nearest =
    at_cut text (suc offset) last (cut_at text offset) (is_cut text (suc offset)) refl within boundary nearest
    (λ less. cut_at_is text offset last (omega arith) boundary (λ i more up_to. nearest i more (omega arith)))
