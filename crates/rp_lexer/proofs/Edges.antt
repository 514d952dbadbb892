-- Where tokens may be cut out of a text: each begins and ends with an ASCII byte.
use Rattle.std.proofs.Common.{◌≡◌, ℕ, ◌+◌, ◌-◌, ◌<◌, ◌≤◌, true, List, [], ◌∷◌, ◌++◌, length, get_or, take, drop, IsUtf8, sym, refl, ap, ◌∙◌, subst, arith}
use Rattle.std.proofs.lemmas.List.{get_or_at, take_at, take-take, drop-take, drop-drop}
use Rattle.std.proofs.lemmas.Bool.Decides.{nat_tests}
use Rattle.std.proofs.lemmas.Str.{IsCharBoundary-before_ascii, IsCharBoundary-after_ascii}
use Rattle.std.specs.List.{slice_range}
use Rattle.std.specs.Str.{IsCharBoundary}
use Rattle.rp_lexer.specs.Forms.{is_name_byte, doubled, enclosed}
use Rattle.rp_lexer.specs.Lexes.{IsLongest}
use Rattle.rp_lexer.proofs.OneAtPlace.{length_part, at_part, first_of_part}
use Rattle.rp_lexer.proofs.Tokens.{enclosed_length}
use Rattle.rp_lexer.specs.declared.kind.TokenKind.TheVariants as kind

pub name_byte_ascii : (b : ℕ) → is_name_byte b ≡ true → b < 128
name_byte_ascii b is = grind (arith, nat_tests)

pub last_place : (start end : ℕ) → start < end → start + (end - start - 1) ≡ end - 1
last_place start end lt = omega arith

-- a name may be cut out
module _ (text : List ℕ) (utf8 : IsUtf8 text) (start end : ℕ) (h : IsLongest text kind.Name start end) where
  name_byte : (i : ℕ) → i < end - start → get_or text (start + i) 0 < 128
  name_byte i lt =
      let each = h.form.0.each i 0 (omega (arith, length_part text start end h.within)) in
      subst (λ b. b < 128) (at_part text start end i lt) (name_byte_ascii (get_or (slice_range text start end) i 0) each)

  pub name_end : IsCharBoundary text end
  name_end =
      let last = subst (λ i. get_or text i 0 < 128) (last_place start end h.order) (name_byte (end - start - 1) (omega (arith, h.order))) in
      let e : end - 1 + 1 ≡ end = omega (arith, h.order) in
      subst (IsCharBoundary text) e (IsCharBoundary-after_ascii text (end - 1) utf8 (omega (arith, h.order, h.within)) last)

-- so may what stands between the quotes of a token
module _ (text : List ℕ) (utf8 : IsUtf8 text) (start end quote : ℕ) (ascii : quote < 128) (order : start < end) (within : end ≤ length text) (inside : List ℕ) (spelled : slice_range text start end ≡ enclosed quote inside) where
  pub quoted_length : end ≡ start + (2 + length (doubled quote inside))
  quoted_length = omega (arith, length_part text start end within, ap length spelled, enclosed_length quote inside)

  open_quote : get_or text start 0 ≡ quote
  open_quote = sym (first_of_part text start end order) ∙ ap (λ l. get_or l 0 0) spelled

  close_quote : get_or text (end - 1) 0 ≡ quote
  close_quote =
      let n = length (doubled quote inside) in
      let at : get_or (enclosed quote inside) (1 + n) 0 ≡ quote = get_or_at (quote ∷ doubled quote inside) quote [] 0 (1 + n) (omega arith) in
      let lens = quoted_length in
      let place : start + (1 + n) ≡ end - 1 = omega arith in
      ap (λ i. get_or text i 0) (sym place) ∙ sym (at_part text start end (1 + n) (omega arith)) ∙ ap (λ l. get_or l (1 + n) 0) spelled ∙ at

  pub inside_start : IsCharBoundary text (start + 1)
  inside_start = IsCharBoundary-after_ascii text start utf8 (omega (arith, order, within)) (omega (arith, open_quote, ascii))

  pub inside_end : IsCharBoundary text (end - 1)
  inside_end = IsCharBoundary-before_ascii text (end - 1) (omega (arith, order, within)) (omega (arith, close_quote, ascii))

  -- the bytes between the quotes
  pub between_quotes : slice_range text (start + 1) (end - 1) ≡ doubled quote inside
  between_quotes =
      let n = length (doubled quote inside) in
      let lens = quoted_length in
      let all : end - 1 - (start + 1) ≡ n = omega arith in
      let len : end - start ≡ 1 + (n + 1) = omega arith in
      let rest : drop 1 (take (1 + (n + 1)) (drop start text)) ≡ take (n + 1) (drop 1 (drop start text)) = drop-take 1 (n + 1) (drop start text) in
      let tail : take (n + 1) (drop (start + 1) text) ≡ doubled quote inside ++ quote ∷ [] =
      ap (λ l. take (n + 1) l) (sym (drop-drop 1 start text)) ∙ sym rest ∙ ap (λ k. drop 1 (take k (drop start text))) (sym len) ∙ ap (λ l. drop 1 l) spelled in
      ap (λ k. take k (drop (start + 1) text)) all ∙ sym (take-take n (n + 1) (drop (start + 1) text) (omega arith)) ∙ ap (λ l. take n l) tail ∙ take_at (doubled quote inside) (quote ∷ []) n refl
