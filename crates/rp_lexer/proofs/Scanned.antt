-- What the scanners return at a place of a text, from what they found in the rest of it.
use Rattle.std.proofs.Common.{◌≡◌, ℕ, ◌+◌, ◌-◌, ◌<◌, Bool, true, List, length, get_or, take, drop, sym, refl, ap, ◌∙◌, subst, inl, inr, arith, length-drop}
use Rattle.std.proofs.lemmas.List.{take_rest}
use Rattle.std.proofs.lemmas.Bool.{both_ways}
use Rattle.std.specs.Prelude.{All}
use Rattle.std.specs.List.{slice_range}
use Rattle.std.specs.Char.{is_ascii_digit}
use Rattle.rp_lexer.specs.Spelling.{keyword_spelling}
use Rattle.rp_lexer.specs.Forms.{is_name_start, is_name_byte, SpellsAlike, HasForm}
use Rattle.rp_lexer.specs.Lexes.{is_separator, IsToken, IsInRange}
use Rattle.rp_lexer.specs.Faults.{IsFault, IsStray}
use Rattle.rp_lexer.specs.Scan.{Stops, IsRun, Closes, IsLongestMark, BeginsNoMark, IsSign}
use Rattle.rp_lexer.proofs.OneAtPlace.{Longest, longest_at, part_is_front, rest_first}
use Rattle.rp_lexer.proofs.Tokens.{token_from, no_comment_at, identifier_from, name_longest, digits_from, number_longest, text_longest, quoted_longest, empty_quoted, mark_longest, no_mark_stray}
use Rattle.rp_lexer.specs.declared.fault.LexFault.TheVariants.{BadChar, NumberRange}
use Rattle.rp_lexer.specs.declared.kind.Keyword.{Keyword}
use Rattle.rp_lexer.specs.declared.kind.Mark.{Mark}
use Rattle.rp_lexer.specs.declared.kind.TokenKind.{TokenKind}
use Rattle.rp_lexer.specs.declared.kind.TokenKind.TheVariants as kind

-- `&text[start..]`
abbrev pub rest_of : List ℕ → ℕ → List ℕ
rest_of text start = take (length text - start) (drop start text)

module _ (text : List ℕ) (start : ℕ) (within : start < length text) where
  first_is : get_or (drop start text) 0 0 ≡ get_or text start 0
  first_is = rest_first text start

  rest_some : 0 < length (drop start text)
  rest_some = omega (arith, length-drop start text)

  pub text_token : (len : ℕ) → get_or text start 0 ≡ 39 → Closes (get_or (rest_of text start) 0 0) (rest_of text start) len → IsToken text (record { kind = kind.Text; start = start; end = start + len })
  text_token len quote closes =
      let rest = drop start text in
      let here : Closes (get_or rest 0 0) rest len = subst (λ l. Closes (get_or l 0 0) l len) (take_rest text start) closes in
      let first : get_or rest 0 0 ≡ 39 = first_is ∙ quote in
      token_from text start kind.Text len (omega arith) (text_longest rest len first (subst (λ q. Closes q rest len) first here)) (no_comment_at text start 39 quote (λ e. omega arith)) (λ e. absurd (cc))

  pub quoted_token : (len : ℕ) → get_or text start 0 ≡ 34 → Closes (get_or (rest_of text start) 0 0) (rest_of text start) len → (len ≡ 2 → ⊥) → IsToken text (record { kind = kind.Quoted; start = start; end = start + len })
  quoted_token len quote closes some =
      let rest = drop start text in
      let here : Closes (get_or rest 0 0) rest len = subst (λ l. Closes (get_or l 0 0) l len) (take_rest text start) closes in
      let first : get_or rest 0 0 ≡ 34 = first_is ∙ quote in
      token_from text start kind.Quoted len (omega arith) (quoted_longest rest len first (subst (λ q. Closes q rest len) first here) some) (no_comment_at text start 34 quote (λ e. omega arith)) (λ e. absurd (cc))

  pub empty_fault : get_or text start 0 ≡ 34 → Closes (get_or (rest_of text start) 0 0) (rest_of text start) 2 → IsFault text (BadChar start)
  empty_fault quote closes =
      let rest = drop start text in
      let here : Closes (get_or rest 0 0) rest 2 = subst (λ l. Closes (get_or l 0 0) l 2) (take_rest text start) closes in
      let first : get_or rest 0 0 ≡ 34 = first_is ∙ quote in
      (within, inr (empty_quoted text start quote (subst (λ q. Closes q rest 2) first here)))

  -- names
  run_here : (p : ℕ → Bool) (len : ℕ) → IsRun p (rest_of text start) len → IsRun p (drop start text) len
  run_here p len run = subst (λ l. IsRun p l len) (take_rest text start) run

  word_longest : (len : ℕ) (found : TokenKind) → is_name_start (get_or text start 0) ≡ true → IsRun is_name_byte (rest_of text start) len → HasForm found (take len (drop start text)) → (found ≡ kind.Number → ⊥) → IsToken text (record { kind = found; start = start; end = start + len })
  word_longest len found begins run form other =
      let first = ap is_name_start first_is ∙ begins in
      token_from text start found len (omega arith)
      (name_longest (drop start text) len found (run_here is_name_byte len run) rest_some first form)
      (λ comment'. both_ways (is_name_start 45) refl (sym (ap is_name_start comment'.0) ∙ begins))
      (λ is. absurd (other is))

  pub name_token : (len : ℕ) → is_name_start (get_or text start 0) ≡ true → IsRun is_name_byte (rest_of text start) len → ((word : Keyword) → SpellsAlike (slice_range text start (start + len)) (keyword_spelling word) → ⊥) → IsToken text (record { kind = kind.Name; start = start; end = start + len })
  name_token len begins run none' =
      let identifier = identifier_from (drop start text) len (run_here is_name_byte len run) rest_some (ap is_name_start first_is ∙ begins) in
      word_longest len kind.Name begins run (identifier, subst (λ l. (word : Keyword) → SpellsAlike l (keyword_spelling word) → ⊥) (part_is_front text start len) none') (λ e. cc)

  pub word_token : (len : ℕ) (word : Keyword) → is_name_start (get_or text start 0) ≡ true → IsRun is_name_byte (rest_of text start) len → SpellsAlike (slice_range text start (start + len)) (keyword_spelling word) → IsToken text (record { kind = kind.Keyword word; start = start; end = start + len })
  word_token len word begins run alike =
      let identifier = identifier_from (drop start text) len (run_here is_name_byte len run) rest_some (ap is_name_start first_is ∙ begins) in
      word_longest len (kind.Keyword word) begins run (identifier, subst (λ l. SpellsAlike l (keyword_spelling word)) (part_is_front text start len) alike) (λ e. cc)

  -- numbers
  pub number_here : (len : ℕ) → is_ascii_digit (get_or text start 0) ≡ true → IsRun is_ascii_digit (rest_of text start) len → Longest (drop start text) kind.Number len
  number_here len digit run = number_longest (drop start text) len (run_here is_ascii_digit len run) rest_some (ap is_ascii_digit first_is ∙ digit)

  pub number_digits : (len : ℕ) → is_ascii_digit (get_or text start 0) ≡ true → IsRun is_ascii_digit (rest_of text start) len → All (λ b. is_ascii_digit b ≡ true) (slice_range text start (start + len))
  number_digits len digit run =
      let digits = digits_from (drop start text) len (run_here is_ascii_digit len run) rest_some (ap is_ascii_digit first_is ∙ digit) in
      subst (λ l. All (λ b. is_ascii_digit b ≡ true) l) (sym (part_is_front text start len)) digits.each

  pub number_token : (len : ℕ) → is_ascii_digit (get_or text start 0) ≡ true → IsRun is_ascii_digit (rest_of text start) len → IsInRange (slice_range text start (start + len)) → IsToken text (record { kind = kind.Number; start = start; end = start + len })
  number_token len digit run in_range =
      token_from text start kind.Number len (omega arith) (number_here len digit run)
      (λ comment'. both_ways (is_ascii_digit 45) refl (sym (ap is_ascii_digit comment'.0) ∙ digit))
      (λ is. subst IsInRange (part_is_front text start len) in_range)

  pub number_fault : (len : ℕ) → is_ascii_digit (get_or text start 0) ≡ true → IsRun is_ascii_digit (rest_of text start) len → (IsInRange (slice_range text start (start + len)) → ⊥) → IsFault text (NumberRange start)
  number_fault len digit run above = (start + len, longest_at text start kind.Number len (omega arith) (number_here len digit run), above)

  -- marks
  sign_here : IsSign (get_or text start 0) → IsSign (get_or (drop start text) 0 0)
  sign_here sign = subst IsSign (sym first_is) sign

  pub mark_token : (m : Mark) (len : ℕ) → Stops text start → IsSign (get_or text start 0) → IsLongestMark (rest_of text start) m len → IsToken text (record { kind = kind.Mark m; start = start; end = start + len })
  mark_token m len stops sign found =
      token_from text start (kind.Mark m) len (omega arith)
      (mark_longest (drop start text) m len (sign_here sign) (subst (λ l. IsLongestMark l m len) (take_rest text start) found))
      stops.no_comment (λ e. absurd (cc))

  pub mark_fault : Stops text start → IsSign (get_or text start 0) → BeginsNoMark (rest_of text start) → IsFault text (BadChar start)
  mark_fault stops sign none' =
      let stray = no_mark_stray (drop start text) rest_some (ap (λ b. is_separator b) first_is ∙ stops.no_separator) (sign_here sign) (subst BeginsNoMark (take_rest text start) none') in
      (within, inl (subst IsStray first_is stray))
