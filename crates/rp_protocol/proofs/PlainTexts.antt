-- Texts that stand in a string as they are, and marks at the front of a text.
use Rattle.std.proofs.Common.{◌≡◌, ◌≢◌, ◌≤◌, ◌<◌, ◌+◌, ◌∙◌, ℕ, List, [], ◌∷◌, ◌++◌, length, get_or, take, drop, refl, ap, ap₂, sym, arith, true}
use Rattle.std.specs.Prelude.{nat_eq, Option, Some, None, IfSome, MatchOption}
use Rattle.std.specs.Cmp.Lexicographic.{pointwise, bytes_decides}
use Rattle.std.proofs.lemmas.Bool.{ne_eqb, le-ltb}
use Rattle.std.proofs.lemmas.List.{take_more, take-append-drop}
use Rattle.std.proofs.lemmas.List.Concat.{flat_map-append}
use Rattle.json.specs.Print.{escape, escape_byte}

-- a byte from the space on that is neither a quote nor a backslash stands for itself
pub plain_byte : (x : ℕ) → 32 ≤ x → x ≢ 34 → x ≢ 92 → escape_byte x ≡ x ∷ []
unfolding escape_byte
plain_byte x space quote backslash =
    rw (
      ne_eqb x 34 quote,
      ne_eqb x 92 backslash,
      ne_eqb x 8 (λ e. omega (arith, e, space)),
      ne_eqb x 12 (λ e. omega (arith, e, space)),
      ne_eqb x 10 (λ e. omega (arith, e, space)),
      ne_eqb x 13 (λ e. omega (arith, e, space)),
      ne_eqb x 9 (λ e. omega (arith, e, space)),
      le-ltb x 32 space,
    ) refl

pub plain_more : (text : List ℕ) (i : ℕ) (x : ℕ) → i < length text → x ≡ get_or text i x → escape_byte x ≡ x ∷ [] → escape (take i text) ≡ take i text → escape (take (i + 1) text) ≡ take (i + 1) text
plain_more text i x within is plain so_far =
    rw (take_more text i x within, ← is) (flat_map-append escape_byte (take i text) (x ∷ []) ∙ ap₂ ◌++◌ so_far (ap (λ t. t ++ []) plain))

pub mark_first : (text mark : List ℕ) → pointwise nat_eq (take (length mark) text) mark ≡ true → text ≡ mark ++ drop (length mark) text
mark_first text mark e =
    sym (take-append-drop (length mark) text)
    ∙ ap (λ t. t ++ drop (length mark) text) ((bytes_decides (take (length mark) text) mark).0 e)

-- what follows a mark that was taken off
pub if_prefix : {X : Type 0} (now : X → List ℕ) (text mark : List ℕ) (o : Option X) (N : Type 0) (L : X → Type 0) → MatchOption o N (λ x. (pointwise nat_eq (take (length mark) text) mark ≡ true) × (now x ≡ drop (length mark) text) × L x) → IfSome o (λ x. text ≡ mark ++ now x)
if_prefix now text mark None N L h = tt
if_prefix now text mark (Some x) N L h = mark_first text mark h.0 ∙ ap (λ t. mark ++ t) (sym h.1)
