-- Tokens, separators and comments end where a character does.
use Rattle.std.proofs.Common.{◌≡◌, ℕ, suc, ◌+◌, ◌-◌, ◌<◌, true, List, [], ◌∷◌, length, get_or, IsUtf8, sym, refl, ap, ◌∙◌, subst, ⊎_elim, add-one, arith, lit<}
use Rattle.std.proofs.lemmas.List.{get_or_at, get_or_past}
use Rattle.std.proofs.lemmas.Bool.{both_ways, cases_lt}
use Rattle.std.proofs.lemmas.Bool.Decides.{nat_tests}
use Rattle.std.proofs.lemmas.Str.{IsCharBoundary-start, IsCharBoundary-end, IsCharBoundary-before_ascii, IsCharBoundary-after_ascii}
use Rattle.std.specs.List.{slice_range}
use Rattle.std.specs.Str.{IsCharBoundary}
use Rattle.rp_lexer.specs.Spelling.{mark_spelling}
use Rattle.rp_lexer.specs.Forms.{doubled, enclosed, HasForm}
use Rattle.rp_lexer.specs.Lexes.{is_separator, IsGap, nothing, separator, comment, IsComment, IsToken, LexesUpTo}
use Rattle.rp_lexer.proofs.FormLemmas.{form_some}
use Rattle.rp_lexer.proofs.Numbers.{digit_bounds}
use Rattle.rp_lexer.proofs.OneAtPlace.{length_part, at_part}
use Rattle.rp_lexer.proofs.Edges.{name_byte_ascii, last_place}
use Rattle.rp_lexer.proofs.Tokens.{enclosed_length}
use Rattle.rp_lexer.specs.Faults.{offset}
use Rattle.rp_lexer.specs.declared.fault.LexFault.{LexFault}
use Rattle.rp_lexer.specs.declared.kind.Mark.{Mark}
use Rattle.rp_lexer.specs.declared.kind.Mark.TheVariants as mark
use Rattle.rp_lexer.specs.declared.kind.TokenKind.{TokenKind}
use Rattle.rp_lexer.specs.declared.kind.TokenKind.TheVariants as kind
use Rattle.rp_lexer.specs.declared.token.Token.{Token}

separator_ascii : (b : ℕ) → is_separator b ≡ true → b < 128
separator_ascii b is = grind (arith, nat_tests)

mark_last_ascii : (m : Mark) → get_or (mark_spelling m) (length (mark_spelling m) - 1) 0 < 128
mark_last_ascii mark.LeftBraceMinus = lit< tt
mark_last_ascii mark.RightBraceMinus = lit< tt
mark_last_ascii mark.NotEquals = lit< tt
mark_last_ascii mark.LessThanOrEquals = lit< tt
mark_last_ascii mark.GreaterThanOrEquals = lit< tt
mark_last_ascii mark.LeftParenthesis = lit< tt
mark_last_ascii mark.RightParenthesis = lit< tt
mark_last_ascii mark.Comma = lit< tt
mark_last_ascii mark.Period = lit< tt
mark_last_ascii mark.Asterisk = lit< tt
mark_last_ascii mark.Plus = lit< tt
mark_last_ascii mark.Minus = lit< tt
mark_last_ascii mark.QuestionMark = lit< tt
mark_last_ascii mark.LeftBrace = lit< tt
mark_last_ascii mark.RightBrace = lit< tt
mark_last_ascii mark.VerticalBar = lit< tt
mark_last_ascii mark.Circumflex = lit< tt
mark_last_ascii mark.DollarSign = lit< tt
mark_last_ascii mark.Equals = lit< tt
mark_last_ascii mark.LessThan = lit< tt
mark_last_ascii mark.GreaterThan = lit< tt

some_length : (bytes : List ℕ) → (bytes ≡ [] → ⊥) → 0 < length bytes
some_length [] some = absurd (some refl)
some_length (b ∷ bytes) some = omega arith

enclosed_last : (q : ℕ) (inside bytes : List ℕ) → bytes ≡ enclosed q inside → q < 128 → get_or bytes (length bytes - 1) 0 < 128
enclosed_last q inside bytes is ascii =
    let n = length (doubled q inside) in
    let last : get_or (enclosed q inside) (1 + n) 0 ≡ q = get_or_at (q ∷ doubled q inside) q [] 0 (1 + n) (omega arith) in
    let lens = ap length is ∙ enclosed_length q inside in
    let place : length bytes - 1 ≡ 1 + n = omega arith in
    omega (arith, ap (λ l. get_or l (length bytes - 1) 0) is ∙ ap (λ i. get_or (enclosed q inside) i 0) place ∙ last, ascii)

-- each token ends with an ASCII byte
form_last_ascii : (found : TokenKind) (bytes : List ℕ) → HasForm found bytes → get_or bytes (length bytes - 1) 0 < 128
form_last_ascii kind.Name bytes form = let some = some_length bytes (form_some kind.Name bytes form) in name_byte_ascii (get_or bytes (length bytes - 1) 0) (form.0.each (length bytes - 1) 0 (omega arith))
form_last_ascii (kind.Keyword word) bytes form = let some = some_length bytes (form_some (kind.Keyword word) bytes form) in name_byte_ascii (get_or bytes (length bytes - 1) 0) (form.0.each (length bytes - 1) 0 (omega arith))
form_last_ascii kind.Quoted bytes form = enclosed_last 34 form.0 bytes form.2 (lit< tt)
form_last_ascii kind.Text bytes form = enclosed_last 39 form.0 bytes form.1 (lit< tt)
form_last_ascii kind.Number bytes form = omega (arith, digit_bounds (get_or bytes (length bytes - 1) 0) (form.each (length bytes - 1) 0 (omega (arith, form.some))))
form_last_ascii (kind.Mark m) bytes form = subst (λ l. get_or l (length l - 1) 0 < 128) (sym form) (mark_last_ascii m)

module _ (text : List ℕ) (utf8 : IsUtf8 text) where
  token_end : (token : Token) → IsToken text token → IsCharBoundary text token.end
  token_end token is =
      let h = is.longest in
      let bytes = slice_range text token.start token.end in
      let last = form_last_ascii token.kind bytes h.form in
      let lens = length_part text token.start token.end h.within in
      let n : length bytes - 1 ≡ token.end - token.start - 1 = omega arith in
      let at : get_or bytes (length bytes - 1) 0 ≡ get_or text (token.end - 1) 0 =
      ap (λ i. get_or bytes i 0) n ∙ at_part text token.start token.end (token.end - token.start - 1) (omega (arith, h.order)) ∙ ap (λ i. get_or text i 0) (last_place token.start token.end h.order) in
      let e : token.end - 1 + 1 ≡ token.end = omega (arith, h.order) in
      subst (IsCharBoundary text) e (IsCharBoundary-after_ascii text (token.end - 1) utf8 (omega (arith, h.order, h.within)) (omega (arith, at, last)))

  comment_end : (start end : ℕ) → IsComment text start end → IsCharBoundary text end
  comment_end start end is =
      ⊎_elim
      (λ inside. ⊎_elim (λ all. absurd (omega (arith, all))) (λ feed. IsCharBoundary-before_ascii text end inside (omega (arith, feed))) is.ends)
      (λ past. let all : length text ≡ end = omega (arith, is.within) in subst (IsCharBoundary text) all (IsCharBoundary-end text))
      (cases_lt end (length text))

  after_separator : (at : ℕ) → is_separator (get_or text at 0) ≡ true → IsCharBoundary text (suc at)
  after_separator at is =
      ⊎_elim
      (λ inside. rw add-one at (IsCharBoundary-after_ascii text at utf8 inside (separator_ascii (get_or text at 0) is)))
      (λ past. absurd (both_ways _ (ap is_separator (get_or_past text at 0 past)) is))
      (cases_lt at (length text))

gap_end : {text : List ℕ} {at end : ℕ} → IsUtf8 text → IsGap text at end → IsCharBoundary text at → IsCharBoundary text end
gap_end utf8 nothing here = here
gap_end {text} {at} utf8 (separator is gap) here = gap_end utf8 gap (after_separator text utf8 at is)
gap_end {text} {at} utf8 (comment next is gap) here = gap_end utf8 gap (comment_end text utf8 at next is)

-- where tokens and gaps end, a character does
pub lexed_boundary : (text : List ℕ) → IsUtf8 text → (at : ℕ) (tokens : List Token) (end : ℕ) → LexesUpTo text at tokens end → IsCharBoundary text at → IsCharBoundary text end
lexed_boundary text utf8 at [] end lexed here = gap_end utf8 lexed here
lexed_boundary text utf8 at (token ∷ tokens) end lexed here = lexed_boundary text utf8 token.end tokens end lexed.2 (token_end text utf8 token lexed.1)

pub fault_boundary : (text : List ℕ) → IsUtf8 text → (tokens : List Token) (end : ℕ) → LexesUpTo text 0 tokens end → IsCharBoundary text end
fault_boundary text utf8 tokens end lexed = lexed_boundary text utf8 0 tokens end lexed (IsCharBoundary-start text utf8)

pub fault_character : (text bytes : List ℕ) → bytes ≡ text → IsUtf8 text → (tokens : List Token) (at : ℕ) → LexesUpTo bytes 0 tokens at → (fault : LexFault) → offset fault ≡ at → IsCharBoundary text (offset fault)
fault_character text bytes same utf8 tokens at lexed fault is =
    subst (IsCharBoundary text) (sym is) (fault_boundary text utf8 tokens at (subst (λ l. LexesUpTo l 0 tokens at) same lexed))
