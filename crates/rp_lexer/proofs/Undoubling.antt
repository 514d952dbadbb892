-- Doubled bytes read from one quote to the next.
use Rattle.std.proofs.Common.{◌≡◌, ℕ, zero, suc, ◌+◌, ◌<◌, List, [], ◌∷◌, ◌++◌, length, get_or, take, drop, sym, refl, ap, ◌∙◌, ⊎_elim, append_assoc, length-drop, get_or-drop, arith}
use Rattle.std.proofs.lemmas.List.{take-append-drop, drop-drop, take_more, length-take-le, get_or-take}
use Rattle.std.proofs.lemmas.Bool.{cases_eq}
use Rattle.rp_lexer.specs.Forms.{doubled}
use Rattle.rp_lexer.proofs.Doubled.{doubled-quote, doubled-other, doubled-append}

-- the first quote in doubled bytes is followed by a second, and by doubled bytes
pub first_double : (q : ℕ) (inside l : List ℕ) (at : ℕ) → l ≡ doubled q inside → at < length l → get_or l at 0 ≡ q → ((i : ℕ) → i < at → get_or l i 0 ≡ q → ⊥) → (later : List ℕ) × (drop at l ≡ q ∷ q ∷ doubled q later)
first_double q [] l at e lt is earlier = absurd (omega (arith, ap length e))
first_double q (b ∷ bytes) l zero e lt is earlier =
    ⊎_elim
    (λ quote. (bytes, e ∙ ap (λ c. doubled q (c ∷ bytes)) quote ∙ doubled-quote q bytes))
    (λ other. absurd (other (sym (ap (λ k. get_or k 0 0) (e ∙ doubled-other q b bytes other)) ∙ is)))
    (cases_eq b q)
first_double q (b ∷ bytes) l (suc at) e lt is earlier =
    ⊎_elim
    (λ quote. absurd (earlier 0 (omega arith) (ap (λ k. get_or k 0 0) (e ∙ ap (λ c. doubled q (c ∷ bytes)) quote ∙ doubled-quote q bytes))))
    (λ other.
    let spelled : l ≡ b ∷ doubled q bytes = e ∙ doubled-other q b bytes other in
    let rest = first_double q bytes (doubled q bytes) at refl (omega (arith, ap length spelled)) (sym (ap (λ k. get_or k (suc at) 0) spelled) ∙ is)
    (λ i below same. earlier (suc i) (omega arith) (ap (λ k. get_or k (suc i) 0) spelled ∙ same)) in
    (rest.0, ap (λ k. drop (suc at) k) spelled ∙ rest.1))
    (cases_eq b q)

-- bytes with no quote stay as they are
pub doubled_none : (q : ℕ) (bytes : List ℕ) → ((i : ℕ) → i < length bytes → get_or bytes i 0 ≡ q → ⊥) → doubled q bytes ≡ bytes
doubled_none q [] none' = refl
doubled_none q (b ∷ bytes) none' =
    doubled-other q b bytes (none' 0 (omega arith)) ∙ ap (λ l. b ∷ l) (doubled_none q bytes (λ i lt. none' (suc i) (omega arith)))

-- a step to behind the first double quote
module _ (q : ℕ) (inside rest : List ℕ) (at : ℕ) (left : rest ≡ doubled q inside) (lt : at < length rest) (is : get_or rest at 0 ≡ q) (earlier : (i : ℕ) → i < at → get_or rest i 0 ≡ q → ⊥) where
  pub later_part : List ℕ
  later_part = (first_double q inside rest at left lt is earlier).0

  pub drop_at : drop at rest ≡ q ∷ q ∷ doubled q later_part
  unfolding later_part
  drop_at = (first_double q inside rest at left lt is earlier).1

  pub second_within : at + 1 < length rest
  second_within = omega (arith, ap length drop_at, length-drop at rest)

  pub second_quote : get_or rest (at + 1) 0 ≡ q
  second_quote = sym (get_or-drop at rest 1 0) ∙ ap (λ l. get_or l 1 0) drop_at

  pub left_more : drop (at + 2) rest ≡ doubled q later_part
  left_more = sym (drop-drop 2 at rest) ∙ ap (λ l. drop 2 l) drop_at

  pub so_far_more : (whole text : List ℕ) → whole ≡ doubled q text ++ rest → whole ≡ doubled q (text ++ take (at + 1) rest) ++ drop (at + 2) rest
  so_far_more whole text so_far =
      let front = take at rest in
      let plain : doubled q front ≡ front = doubled_none q front (λ i below same. earlier i (omega (arith, length-take-le at rest (omega arith))) (sym (get_or-take at rest i 0 (omega (arith, length-take-le at rest (omega arith)))) ∙ same)) in
      let one : take (at + 1) rest ≡ front ++ q ∷ [] = take_more rest at 0 lt ∙ ap (λ b. front ++ b ∷ []) is in
      let twice : doubled q (take (at + 1) rest) ≡ front ++ q ∷ q ∷ [] =
      ap (λ l. doubled q l) one ∙ doubled-append q front (q ∷ []) ∙ ap (λ l. l ++ doubled q (q ∷ [])) plain ∙ ap (λ l. front ++ l) (doubled-quote q []) in
      let split : rest ≡ (front ++ q ∷ q ∷ []) ++ drop (at + 2) rest =
      sym (take-append-drop at rest) ∙ ap (λ l. front ++ l) (drop_at ∙ ap (λ l. q ∷ q ∷ l) (sym left_more)) ∙ sym (append_assoc front (q ∷ q ∷ []) (drop (at + 2) rest)) in
      so_far ∙ ap (λ l. doubled q text ++ l) (split ∙ ap (λ l. l ++ drop (at + 2) rest) (sym twice))
      ∙ sym (append_assoc (doubled q text) (doubled q (take (at + 1) rest)) (drop (at + 2) rest))
      ∙ ap (λ l. l ++ drop (at + 2) rest) (sym (doubled-append q text (take (at + 1) rest)))

-- at the end no quote is left
pub all_undoubled : (q : ℕ) (rest whole text : List ℕ) → ((i : ℕ) → i < length rest → get_or rest i 0 ≡ q → ⊥) → whole ≡ doubled q text ++ rest → whole ≡ doubled q (text ++ rest)
all_undoubled q rest whole text none' so_far =
    so_far ∙ ap (λ l. doubled q text ++ l) (sym (doubled_none q rest none')) ∙ sym (doubled-append q text rest)
