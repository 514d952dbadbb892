-- What a scan finds at the front of what is left is the token there.
use Rattle.std.proofs.Common.{◌≡◌, ℕ, zero, suc, ◌+◌, ◌<◌, ◌≤◌, Bool, true, false, List, [], ◌∷◌, ◌++◌, length, get_or, take, drop, sym, refl, ap, ◌∙◌, subst, ⊎_elim, arith, append_assoc, length-append, length-drop, get_or-drop, get_or-take, lit≤}
use Rattle.std.proofs.lemmas.List.{append-nil, length-take, length-take-le, take-append-drop, take-take, get_or_append_left, get_or_past, take_more, nil_from_length}
use Rattle.std.proofs.lemmas.List.Elements.{All-from_get_or}
use Rattle.std.proofs.lemmas.Bool.{both_ways, ne_eqb, cases_lt}
use Rattle.std.proofs.lemmas.Bool.Decides.{nat_tests}
use Rattle.std.specs.Char.{is_ascii_digit}
use Rattle.rp_lexer.specs.Spelling.{mark_spelling}
use Rattle.rp_lexer.specs.Forms.{is_name_start, is_name_byte, IsIdentifier, IsDigits, doubled, enclosed, HasForm}
use Rattle.rp_lexer.specs.Lexes.{is_separator, CommentBegins, IsToken, IsInRange}
use Rattle.rp_lexer.specs.Faults.{IsStray, IsEmptyQuoted}
use Rattle.rp_lexer.specs.Scan.{IsRun, Closes, IsLongestMark, BeginsNoMark, IsSign}
use Rattle.rp_lexer.proofs.Doubled.{closed_same}
use Rattle.rp_lexer.proofs.FormLemmas.{class_of, class_of_kind, class_of_form, mark_some}
use Rattle.rp_lexer.proofs.OneAtPlace.{Longest, longest_at, part_is_front, rest_first}
use Rattle.rp_lexer.specs.declared.kind.Mark.{Mark}
use Rattle.rp_lexer.specs.declared.kind.Mark.TheVariants as mark
use Rattle.rp_lexer.specs.declared.kind.TokenKind.{TokenKind}
use Rattle.rp_lexer.specs.declared.kind.TokenKind.TheVariants as kind

-- a token of the text, from what is left of it
pub token_from : (text : List ℕ) (start : ℕ) (found : TokenKind) (len : ℕ) → start ≤ length text → Longest (drop start text) found len → (CommentBegins text start → ⊥) → (found ≡ kind.Number → IsInRange (take len (drop start text))) → IsToken text (record { kind = found; start = start; end = start + len })
token_from text start found len within longest no_comment in_range = record {
  longest = longest_at text start found len within longest;
  no_comment = no_comment;
  in_range = λ is. subst IsInRange (sym (part_is_front text start len)) (in_range is);
}

pub no_comment_at : (text : List ℕ) (start b : ℕ) → get_or text start 0 ≡ b → (b ≡ 45 → ⊥) → CommentBegins text start → ⊥
no_comment_at text start b is other begins = other (sym is ∙ begins.0)

front_at : (rest tail : List ℕ) (more i : ℕ) → i < more → more ≤ length rest → get_or (take more rest ++ tail) i 0 ≡ get_or rest i 0
front_at rest tail more i lt within =
    get_or_append_left (take more rest) tail 0 i (omega (arith, length-take-le more rest within)) ∙ get_or-take more rest i 0 lt

-- the class of what begins a token is that of its first byte
front_class : (rest tail : List ℕ) (more : ℕ) (found : TokenKind) → 0 < more → more ≤ length rest → HasForm found (take more rest ++ tail) → class_of (get_or rest 0 0) ≡ class_of_kind found
front_class rest tail more found some within form =
    ap class_of (sym (front_at rest tail more 0 some within)) ∙ class_of_form found (take more rest ++ tail) form

-- ---- names and reserved words

identifier_of : (found : TokenKind) (bytes : List ℕ) → 0 ≡ class_of_kind found → HasForm found bytes → IsIdentifier bytes
identifier_of kind.Name bytes e form = form.0
identifier_of (kind.Keyword word) bytes e form = form.0
identifier_of kind.Quoted bytes e form = absurd (omega arith)
identifier_of kind.Text bytes e form = absurd (omega arith)
identifier_of kind.Number bytes e form = absurd (omega arith)
identifier_of (kind.Mark mark) bytes e form = absurd (omega arith)

start_is_byte : (b : ℕ) → is_name_start b ≡ true → is_name_byte b ≡ true
start_is_byte b start = grind (arith, nat_tests)

start_class : (b : ℕ) → is_name_start b ≡ true → class_of b ≡ 0
start_class b start = rw start refl

run_some : (p : ℕ → Bool) (rest : List ℕ) (len : ℕ) → IsRun p rest len → 0 < length rest → p (get_or rest 0 0) ≡ true → 0 < len
run_some p rest zero run some first = absurd (both_ways _ (run.stops some) first)
run_some p rest (suc len) run some first = omega arith

run_all : (p : ℕ → Bool) (rest : List ℕ) (len : ℕ) → IsRun p rest len → (i : ℕ) → i < length (take len rest) → p (get_or (take len rest) i 0) ≡ true
run_all p rest len run i lt =
    let below : i < len = omega (arith, length-take-le len rest run.within) in
    ap p (get_or-take len rest i 0 below) ∙ run.each i below

pub identifier_from : (rest : List ℕ) (len : ℕ) → IsRun is_name_byte rest len → 0 < length rest → is_name_start (get_or rest 0 0) ≡ true → IsIdentifier (take len rest)
identifier_from rest len run some start =
    let positive = run_some is_name_byte rest len run some (start_is_byte (get_or rest 0 0) start) in
    record {
      start = ap is_name_start (get_or-take len rest 0 0 positive) ∙ start;
      each = All-from_get_or (λ b. is_name_byte b ≡ true) (take len rest) 0 (run_all is_name_byte rest len run);
    }

pub name_longest : (rest : List ℕ) (len : ℕ) (found : TokenKind) → IsRun is_name_byte rest len → 0 < length rest → is_name_start (get_or rest 0 0) ≡ true → HasForm found (take len rest) → Longest rest found len
name_longest rest len found run some start form = record {
  some = run_some is_name_byte rest len run some (start_is_byte (get_or rest 0 0) start);
  within = run.within;
  form = form;
  longest = λ more past within other tail longer.
      let class = front_class rest tail more other (omega arith) within longer in
      let identifier = identifier_of other (take more rest ++ tail) (sym (start_class (get_or rest 0 0) start) ∙ class) longer in
      let lens = length-append (take more rest) tail in
      let passes = identifier.each len 0 (omega (arith, lens, length-take-le more rest within)) in
      both_ways _ (run.stops (omega arith)) (ap is_name_byte (sym (front_at rest tail more len past within)) ∙ passes);
}

-- ---- numbers

digits_of : (found : TokenKind) (bytes : List ℕ) → 1 ≡ class_of_kind found → HasForm found bytes → IsDigits bytes
digits_of kind.Name bytes e form = absurd (omega arith)
digits_of (kind.Keyword word) bytes e form = absurd (omega arith)
digits_of kind.Quoted bytes e form = absurd (omega arith)
digits_of kind.Text bytes e form = absurd (omega arith)
digits_of kind.Number bytes e form = form
digits_of (kind.Mark mark) bytes e form = absurd (omega arith)

digit_class : (b : ℕ) → is_ascii_digit b ≡ true → class_of b ≡ 1
digit_class b digit = let no_name : is_name_start b ≡ false = grind (arith, nat_tests) in rw (no_name, digit) refl

pub digits_from : (rest : List ℕ) (len : ℕ) → IsRun is_ascii_digit rest len → 0 < length rest → is_ascii_digit (get_or rest 0 0) ≡ true → IsDigits (take len rest)
digits_from rest len run some first = record {
  some = let positive = run_some is_ascii_digit rest len run some first in omega (arith, length-take-le len rest run.within);
  each = All-from_get_or (λ b. is_ascii_digit b ≡ true) (take len rest) 0 (run_all is_ascii_digit rest len run);
}

pub number_longest : (rest : List ℕ) (len : ℕ) → IsRun is_ascii_digit rest len → 0 < length rest → is_ascii_digit (get_or rest 0 0) ≡ true → Longest rest kind.Number len
number_longest rest len run some first = record {
  some = run_some is_ascii_digit rest len run some first;
  within = run.within;
  form = digits_from rest len run some first;
  longest = λ more past within other tail longer.
      let class = front_class rest tail more other (omega arith) within longer in
      let digits = digits_of other (take more rest ++ tail) (sym (digit_class (get_or rest 0 0) first) ∙ class) longer in
      let lens = length-append (take more rest) tail in
      let passes = digits.each len 0 (omega (arith, lens, length-take-le more rest within)) in
      both_ways _ (run.stops (omega arith)) (ap is_ascii_digit (sym (front_at rest tail more len past within)) ∙ passes);
}

-- ---- texts and quoted names

pub enclosed_length : (q : ℕ) (inside : List ℕ) → length (enclosed q inside) ≡ 2 + length (doubled q inside)
enclosed_length q inside = omega (arith, length-append (doubled q inside) (q ∷ []))

pub closes_length : (q : ℕ) (rest : List ℕ) (len : ℕ) (closes : Closes q rest len) → len ≡ 2 + length (doubled q closes.inside)
closes_length q rest len closes =
    omega (arith, length-take-le len rest closes.within, ap length closes.front, enclosed_length q closes.inside)

closed_next : (q : ℕ) (rest : List ℕ) (len : ℕ) → Closes q rest len → (0 ≡ q → ⊥) → get_or rest len 0 ≡ q → ⊥
closed_next q rest len closes some is =
    ⊎_elim (λ more. closes.closed more is) (λ past. some (sym (get_or_past rest len 0 past) ∙ is)) (cases_lt len (length rest))

-- no longer front begins what the quote encloses
pub closes_longest : (q : ℕ) (rest : List ℕ) (len : ℕ) → Closes q rest len → (0 ≡ q → ⊥) → (more : ℕ) → len < more → more ≤ length rest → (tail other : List ℕ) → take more rest ++ tail ≡ enclosed q other → ⊥
closes_longest q rest len closes some more past within tail other longer =
    let x = drop len (take more rest) in
    let split : take more rest ≡ take len rest ++ x = sym (take-append-drop len (take more rest)) ∙ ap (λ l. l ++ x) (take-take len more rest (omega arith)) in
    let first : get_or (x ++ tail) 0 0 ≡ get_or rest len 0 =
    get_or_append_left x tail 0 0 (omega (arith, length-drop len (take more rest), length-take-le more rest within))
    ∙ rest_first (take more rest) len ∙ get_or-take more rest len 0 past in
    let whole : enclosed q closes.inside ++ (x ++ tail) ≡ enclosed q other =
    ap (λ l. l ++ (x ++ tail)) (sym closes.front) ∙ sym (append_assoc (take len rest) x tail) ∙ ap (λ l. l ++ tail) (sym split) ∙ longer in
    let inner : doubled q closes.inside ++ q ∷ (x ++ tail) ≡ doubled q other ++ q ∷ [] =
    sym (append_assoc (doubled q closes.inside) (q ∷ []) (x ++ tail)) ∙ ap (λ l. drop 1 l) whole in
    let same = closed_same q closes.inside other (x ++ tail) [] (λ is. closed_next q rest len closes some (sym first ∙ is)) some inner in
    omega (arith, ap length same.1, length-append x tail, length-drop len (take more rest), length-take-le more rest within)

text_of_class : (found : TokenKind) (bytes : List ℕ) → 3 ≡ class_of_kind found → HasForm found bytes → (inside : List ℕ) × (bytes ≡ enclosed 39 inside)
text_of_class kind.Name bytes e form = absurd (omega arith)
text_of_class (kind.Keyword word) bytes e form = absurd (omega arith)
text_of_class kind.Quoted bytes e form = absurd (omega arith)
text_of_class kind.Text bytes e form = form
text_of_class kind.Number bytes e form = absurd (omega arith)
text_of_class (kind.Mark mark) bytes e form = absurd (omega arith)

quoted_of_class : (found : TokenKind) (bytes : List ℕ) → 2 ≡ class_of_kind found → HasForm found bytes → (inside : List ℕ) × (bytes ≡ enclosed 34 inside)
quoted_of_class kind.Name bytes e form = absurd (omega arith)
quoted_of_class (kind.Keyword word) bytes e form = absurd (omega arith)
quoted_of_class kind.Quoted bytes e form = (form.0, form.2)
quoted_of_class kind.Text bytes e form = absurd (omega arith)
quoted_of_class kind.Number bytes e form = absurd (omega arith)
quoted_of_class (kind.Mark mark) bytes e form = absurd (omega arith)

pub text_longest : (rest : List ℕ) (len : ℕ) → get_or rest 0 0 ≡ 39 → Closes 39 rest len → Longest rest kind.Text len
text_longest rest len first closes = record {
  some = omega (arith, closes_length 39 rest len closes);
  within = closes.within;
  form = (closes.inside, closes.front);
  longest = λ more past within other tail longer.
      let class = front_class rest tail more other (omega arith) within longer in
      let enclosed' = text_of_class other (take more rest ++ tail) (sym (ap class_of first) ∙ class) longer in
      closes_longest 39 rest len closes (λ e. omega arith) more past within tail enclosed'.0 enclosed'.1;
}

pub quoted_longest : (rest : List ℕ) (len : ℕ) → get_or rest 0 0 ≡ 34 → Closes 34 rest len → (len ≡ 2 → ⊥) → Longest rest kind.Quoted len
quoted_longest rest len first closes some = record {
  some = omega (arith, closes_length 34 rest len closes);
  within = closes.within;
  form = (closes.inside, λ none'. some (closes_length 34 rest len closes ∙ ap (λ l. 2 + length (doubled 34 l)) none'), closes.front);
  longest = λ more past within other tail longer.
      let class = front_class rest tail more other (omega arith) within longer in
      let enclosed' = quoted_of_class other (take more rest ++ tail) (sym (ap class_of first) ∙ class) longer in
      closes_longest 34 rest len closes (λ e. omega arith) more past within tail enclosed'.0 enclosed'.1;
}

empty_second : (bytes : List ℕ) → 2 ≡ 2 + length bytes → get_or (34 ∷ (bytes ++ 34 ∷ [])) 1 0 ≡ 34
empty_second [] e = refl
empty_second (b ∷ bytes) e = absurd (omega arith)

-- two quotes that close at once
pub empty_quoted : (text : List ℕ) (start : ℕ) → get_or text start 0 ≡ 34 → Closes 34 (drop start text) 2 → IsEmptyQuoted text start
empty_quoted text start first closes =
    let rest = drop start text in
    let len = closes_length 34 rest 2 closes in
    let second : get_or (enclosed 34 closes.inside) 1 0 ≡ 34 = empty_second (doubled 34 closes.inside) (omega (arith, len)) in (
      first,
      sym (get_or-drop start text 1 0) ∙ sym (get_or-take 2 rest 1 0 (omega arith)) ∙ ap (λ l. get_or l 1 0) closes.front ∙ second,
      λ third. closed_next 34 rest 2 closes (λ e. omega arith) (get_or-drop start text 2 0 ∙ third),
    )

-- ---- marks

pub mark_short : (mark : Mark) → length (mark_spelling mark) ≤ 2
mark_short mark.LeftBraceMinus = lit≤ tt
mark_short mark.RightBraceMinus = lit≤ tt
mark_short mark.NotEquals = lit≤ tt
mark_short mark.LessThanOrEquals = lit≤ tt
mark_short mark.GreaterThanOrEquals = lit≤ tt
mark_short mark.LeftParenthesis = lit≤ tt
mark_short mark.RightParenthesis = lit≤ tt
mark_short mark.Comma = lit≤ tt
mark_short mark.Period = lit≤ tt
mark_short mark.Asterisk = lit≤ tt
mark_short mark.Plus = lit≤ tt
mark_short mark.Minus = lit≤ tt
mark_short mark.QuestionMark = lit≤ tt
mark_short mark.LeftBrace = lit≤ tt
mark_short mark.RightBrace = lit≤ tt
mark_short mark.VerticalBar = lit≤ tt
mark_short mark.Circumflex = lit≤ tt
mark_short mark.DollarSign = lit≤ tt
mark_short mark.Equals = lit≤ tt
mark_short mark.LessThan = lit≤ tt
mark_short mark.GreaterThan = lit≤ tt

-- the mark of the first byte alone
first_mark : Mark → Mark
first_mark mark.LeftBraceMinus = mark.LeftBrace
first_mark mark.RightBraceMinus = mark.Minus
first_mark mark.NotEquals = mark.LessThan
first_mark mark.LessThanOrEquals = mark.LessThan
first_mark mark.GreaterThanOrEquals = mark.GreaterThan
first_mark mark.LeftParenthesis = mark.LeftParenthesis
first_mark mark.RightParenthesis = mark.RightParenthesis
first_mark mark.Comma = mark.Comma
first_mark mark.Period = mark.Period
first_mark mark.Asterisk = mark.Asterisk
first_mark mark.Plus = mark.Plus
first_mark mark.Minus = mark.Minus
first_mark mark.QuestionMark = mark.QuestionMark
first_mark mark.LeftBrace = mark.LeftBrace
first_mark mark.RightBrace = mark.RightBrace
first_mark mark.VerticalBar = mark.VerticalBar
first_mark mark.Circumflex = mark.Circumflex
first_mark mark.DollarSign = mark.DollarSign
first_mark mark.Equals = mark.Equals
first_mark mark.LessThan = mark.LessThan
first_mark mark.GreaterThan = mark.GreaterThan

first_mark-spelling : (mark : Mark) → mark_spelling (first_mark mark) ≡ get_or (mark_spelling mark) 0 0 ∷ []
unfolding first_mark
first_mark-spelling mark.LeftBraceMinus = refl
first_mark-spelling mark.RightBraceMinus = refl
first_mark-spelling mark.NotEquals = refl
first_mark-spelling mark.LessThanOrEquals = refl
first_mark-spelling mark.GreaterThanOrEquals = refl
first_mark-spelling mark.LeftParenthesis = refl
first_mark-spelling mark.RightParenthesis = refl
first_mark-spelling mark.Comma = refl
first_mark-spelling mark.Period = refl
first_mark-spelling mark.Asterisk = refl
first_mark-spelling mark.Plus = refl
first_mark-spelling mark.Minus = refl
first_mark-spelling mark.QuestionMark = refl
first_mark-spelling mark.LeftBrace = refl
first_mark-spelling mark.RightBrace = refl
first_mark-spelling mark.VerticalBar = refl
first_mark-spelling mark.Circumflex = refl
first_mark-spelling mark.DollarSign = refl
first_mark-spelling mark.Equals = refl
first_mark-spelling mark.LessThan = refl
first_mark-spelling mark.GreaterThan = refl

mark_of_class : (found : TokenKind) (bytes : List ℕ) → 4 ≡ class_of_kind found → HasForm found bytes → (m : Mark) × (bytes ≡ mark_spelling m)
mark_of_class kind.Name bytes e form = absurd (omega arith)
mark_of_class (kind.Keyword word) bytes e form = absurd (omega arith)
mark_of_class kind.Quoted bytes e form = absurd (omega arith)
mark_of_class kind.Text bytes e form = absurd (omega arith)
mark_of_class kind.Number bytes e form = absurd (omega arith)
mark_of_class (kind.Mark m) bytes e form = (m, form)

sign_class : (b : ℕ) → IsSign b → class_of b ≡ 4
sign_class b sign = rw (sign.no_name, sign.no_number, ne_eqb b 34 sign.no_quoted, ne_eqb b 39 sign.no_text) refl

pub mark_longest : (rest : List ℕ) (m : Mark) (len : ℕ) → IsSign (get_or rest 0 0) → IsLongestMark rest m len → Longest rest (kind.Mark m) len
mark_longest rest m len sign found =
    let form : take len rest ≡ mark_spelling m = ap (λ n. take n rest) found.len_is ∙ found.begins in
    let lens = ap length form in
    let room = length-take len rest in
    record {
      some = omega (arith, mark_some m, found.len_is);
      within = omega (arith, lens, room, found.len_is);
      form = form;
      longest = λ more past within other tail longer.
          let class = front_class rest tail more other (omega arith) within longer in
          let spelled = mark_of_class other (take more rest ++ tail) (sym (sign_class (get_or rest 0 0) sign) ∙ class) longer in
          let short = mark_short spelled.0 in
          let all = length-append (take more rest) tail in
          let front = length-take-le more rest within in
          let total = ap length spelled.1 in
          let some = mark_some m in
          let no_tail : length tail ≡ 0 = omega (arith, found.len_is) in
          let whole : take more rest ≡ mark_spelling spelled.0 = sym (append-nil (take more rest)) ∙ ap (λ l. take more rest ++ l) (sym (nil_from_length tail no_tail)) ∙ spelled.1 in
          let len' : length (mark_spelling spelled.0) ≡ more = omega arith in
          found.longest spelled.0 (omega arith) (ap (λ n. take n rest) len' ∙ whole);
    }

pub no_mark_stray : (rest : List ℕ) → 0 < length rest → is_separator (get_or rest 0 0) ≡ false → IsSign (get_or rest 0 0) → BeginsNoMark rest → IsStray (get_or rest 0 0)
no_mark_stray rest some no_separator sign none' = (
  no_separator,
  λ found more form.
      let b = get_or rest 0 0 in
      let spelled = mark_of_class found (b ∷ more) (sym (sign_class b sign) ∙ class_of_form found (b ∷ more) form) form in
      let one : mark_spelling (first_mark spelled.0) ≡ b ∷ [] = first_mark-spelling spelled.0 ∙ ap (λ l. get_or l 0 0 ∷ []) (sym spelled.1) in
      let front : take 1 rest ≡ b ∷ [] = take_more rest 0 0 some in
      none' (first_mark spelled.0) (ap (λ l. take (length l) rest) one ∙ front ∙ sym one),
)
