-- The forms of two kinds have no bytes in common.
use Rattle.std.proofs.Common.{◌≡◌, ◌≢◌, ℕ, ◌<◌, true, false, cond, eqb, List, [], ◌∷◌, length, map, get_or, Option, Some, None, sym, refl, ap, ◌∙◌, arith, lit<}
use Rattle.std.specs.Char.{is_ascii_digit, to_ascii_lowercase}
use Rattle.std.specs.Str.{bytes_eq}
use Rattle.std.proofs.lemmas.Bool.Decides.{nat_tests}
use Rattle.rp_lexer.specs.Spelling.{keyword_spelling, mark_spelling}
use Rattle.rp_lexer.specs.Forms.{is_name_start, SpellsAlike, enclosed, HasForm}
use Rattle.rp_lexer.specs.Lexes.{is_separator}
use Rattle.rp_lexer.specs.declared.kind.Keyword.{Keyword}
use Rattle.rp_lexer.specs.declared.kind.Keyword.TheVariants as keyword
use Rattle.rp_lexer.specs.declared.kind.Mark.{Mark}
use Rattle.rp_lexer.specs.declared.kind.Mark.TheVariants as mark
use Rattle.rp_lexer.specs.declared.kind.TheConstants.{KEYWORDS, MARKS}
use Rattle.rp_lexer.specs.declared.kind.TokenKind.{TokenKind}
use Rattle.rp_lexer.specs.declared.kind.TokenKind.TheVariants as kind

-- what a table has at the bytes
abbrev look_up : {X : Type 0} → List (List ℕ × X) → List ℕ → Option X
look_up [] bytes = None
look_up (e ∷ es) bytes = cond (bytes_eq (map to_ascii_lowercase e.0) bytes) (Some e.1) (look_up es bytes)

unfoldable word_of : List ℕ → Option Keyword
word_of bytes = look_up (map (λ e. (e.0.now, e.1)) KEYWORDS) bytes

unfoldable mark_of : List ℕ → Option Mark
mark_of bytes = look_up (map (λ e. (e.0.now, e.1)) MARKS) bytes

word_of-spelling : (word : Keyword) → word_of (map to_ascii_lowercase (keyword_spelling word)) ≡ Some word
unfolding word_of
word_of-spelling keyword.After = refl
word_of-spelling keyword.All = refl
word_of-spelling keyword.And = refl
word_of-spelling keyword.As = refl
word_of-spelling keyword.Asc = refl
word_of-spelling keyword.By = refl
word_of-spelling keyword.Classifier = refl
word_of-spelling keyword.Count = refl
word_of-spelling keyword.Define = refl
word_of-spelling keyword.Desc = refl
word_of-spelling keyword.Empty = refl
word_of-spelling keyword.Final = refl
word_of-spelling keyword.First = refl
word_of-spelling keyword.Is = refl
word_of-spelling keyword.Last = refl
word_of-spelling keyword.Match = refl
word_of-spelling keyword.Matches = refl
word_of-spelling keyword.MatchNumber = refl
word_of-spelling keyword.MatchRecognize = refl
word_of-spelling keyword.Max = refl
word_of-spelling keyword.Measures = refl
word_of-spelling keyword.Min = refl
word_of-spelling keyword.Next = refl
word_of-spelling keyword.Not = refl
word_of-spelling keyword.Null = refl
word_of-spelling keyword.Omit = refl
word_of-spelling keyword.One = refl
word_of-spelling keyword.Or = refl
word_of-spelling keyword.Order = refl
word_of-spelling keyword.Partition = refl
word_of-spelling keyword.Past = refl
word_of-spelling keyword.Pattern = refl
word_of-spelling keyword.Per = refl
word_of-spelling keyword.Permute = refl
word_of-spelling keyword.Prev = refl
word_of-spelling keyword.Row = refl
word_of-spelling keyword.Rows = refl
word_of-spelling keyword.Running = refl
word_of-spelling keyword.Show = refl
word_of-spelling keyword.Skip = refl
word_of-spelling keyword.Subset = refl
word_of-spelling keyword.Sum = refl
word_of-spelling keyword.To = refl
word_of-spelling keyword.Unmatched = refl
word_of-spelling keyword.With = refl

mark_of-spelling : (mark : Mark) → mark_of (mark_spelling mark) ≡ Some mark
unfolding mark_of
mark_of-spelling mark.LeftBraceMinus = refl
mark_of-spelling mark.RightBraceMinus = refl
mark_of-spelling mark.NotEquals = refl
mark_of-spelling mark.LessThanOrEquals = refl
mark_of-spelling mark.GreaterThanOrEquals = refl
mark_of-spelling mark.LeftParenthesis = refl
mark_of-spelling mark.RightParenthesis = refl
mark_of-spelling mark.Comma = refl
mark_of-spelling mark.Period = refl
mark_of-spelling mark.Asterisk = refl
mark_of-spelling mark.Plus = refl
mark_of-spelling mark.Minus = refl
mark_of-spelling mark.QuestionMark = refl
mark_of-spelling mark.LeftBrace = refl
mark_of-spelling mark.RightBrace = refl
mark_of-spelling mark.VerticalBar = refl
mark_of-spelling mark.Circumflex = refl
mark_of-spelling mark.DollarSign = refl
mark_of-spelling mark.Equals = refl
mark_of-spelling mark.LessThan = refl
mark_of-spelling mark.GreaterThan = refl

-- no two reserved words are spelled alike, and no two marks
pub words_same : (word other : Keyword) → SpellsAlike (keyword_spelling word) (keyword_spelling other) → word ≡ other
words_same word other alike =
    let e : Some word ≡ Some other = sym (word_of-spelling word) ∙ ap word_of alike ∙ word_of-spelling other in cc

pub marks_same : (mark other : Mark) → mark_spelling mark ≡ mark_spelling other → mark ≡ other
marks_same mark other same =
    let e : Some mark ≡ Some other = sym (mark_of-spelling mark) ∙ ap mark_of same ∙ mark_of-spelling other in cc

-- which kinds of tokens begin with the byte: names and reserved words, numbers, quoted names, texts, or marks
abbrev pub class_of : ℕ → ℕ
class_of b = cond (is_name_start b) 0 (cond (is_ascii_digit b) 1 (cond (eqb b 34) 2 (cond (eqb b 39) 3 4)))

abbrev pub class_of_kind : TokenKind → ℕ
class_of_kind kind.Name = 0
class_of_kind (kind.Keyword word) = 0
class_of_kind kind.Number = 1
class_of_kind kind.Quoted = 2
class_of_kind kind.Text = 3
class_of_kind (kind.Mark mark) = 4

pub digit_no_name : (b : ℕ) → is_ascii_digit b ≡ true → is_name_start b ≡ false
digit_no_name b digit = grind (arith, nat_tests)

class_of-mark : (mark : Mark) → class_of (get_or (mark_spelling mark) 0 0) ≡ 4
class_of-mark mark.LeftBraceMinus = refl
class_of-mark mark.RightBraceMinus = refl
class_of-mark mark.NotEquals = refl
class_of-mark mark.LessThanOrEquals = refl
class_of-mark mark.GreaterThanOrEquals = refl
class_of-mark mark.LeftParenthesis = refl
class_of-mark mark.RightParenthesis = refl
class_of-mark mark.Comma = refl
class_of-mark mark.Period = refl
class_of-mark mark.Asterisk = refl
class_of-mark mark.Plus = refl
class_of-mark mark.Minus = refl
class_of-mark mark.QuestionMark = refl
class_of-mark mark.LeftBrace = refl
class_of-mark mark.RightBrace = refl
class_of-mark mark.VerticalBar = refl
class_of-mark mark.Circumflex = refl
class_of-mark mark.DollarSign = refl
class_of-mark mark.Equals = refl
class_of-mark mark.LessThan = refl
class_of-mark mark.GreaterThan = refl

class_of-digit : (b : ℕ) → is_ascii_digit b ≡ true → class_of b ≡ 1
class_of-digit b digit = rw (digit_no_name b digit, digit) refl

class_of-start : (b : ℕ) → is_name_start b ≡ true → class_of b ≡ 0
class_of-start b start = rw start refl

-- a token's first byte is of its kind's class
pub class_of_form : (kind : TokenKind) (bytes : List ℕ) → HasForm kind bytes → class_of (get_or bytes 0 0) ≡ class_of_kind kind
class_of_form kind.Name bytes form = class_of-start (get_or bytes 0 0) form.0.start
class_of_form (kind.Keyword word) bytes form = class_of-start (get_or bytes 0 0) form.0.start
class_of_form kind.Quoted bytes form = ap (λ l. class_of (get_or l 0 0)) form.2
class_of_form kind.Text bytes form = ap (λ l. class_of (get_or l 0 0)) form.1
class_of_form kind.Number bytes form = class_of-digit (get_or bytes 0 0) (form.each 0 0 form.some)
class_of_form (kind.Mark mark) bytes form = ap (λ l. class_of (get_or l 0 0)) form ∙ class_of-mark mark

same_class : (k l : TokenKind) (bytes : List ℕ) → class_of_kind k ≡ class_of_kind l → HasForm k bytes → HasForm l bytes → k ≡ l
same_class kind.Name kind.Name bytes e form form' = refl
same_class kind.Name (kind.Keyword other) bytes e form form' = absurd (form.1 other form'.1)
same_class kind.Name kind.Quoted bytes e form form' = absurd (omega arith)
same_class kind.Name kind.Text bytes e form form' = absurd (omega arith)
same_class kind.Name kind.Number bytes e form form' = absurd (omega arith)
same_class kind.Name (kind.Mark other) bytes e form form' = absurd (omega arith)
same_class (kind.Keyword word) kind.Name bytes e form form' = absurd (form'.1 word form.1)
same_class (kind.Keyword word) (kind.Keyword other) bytes e form form' = ap kind.Keyword (words_same word other (sym form.1 ∙ form'.1))
same_class (kind.Keyword word) kind.Quoted bytes e form form' = absurd (omega arith)
same_class (kind.Keyword word) kind.Text bytes e form form' = absurd (omega arith)
same_class (kind.Keyword word) kind.Number bytes e form form' = absurd (omega arith)
same_class (kind.Keyword word) (kind.Mark other) bytes e form form' = absurd (omega arith)
same_class kind.Quoted kind.Name bytes e form form' = absurd (omega arith)
same_class kind.Quoted (kind.Keyword other) bytes e form form' = absurd (omega arith)
same_class kind.Quoted kind.Quoted bytes e form form' = refl
same_class kind.Quoted kind.Text bytes e form form' = absurd (omega arith)
same_class kind.Quoted kind.Number bytes e form form' = absurd (omega arith)
same_class kind.Quoted (kind.Mark other) bytes e form form' = absurd (omega arith)
same_class kind.Text kind.Name bytes e form form' = absurd (omega arith)
same_class kind.Text (kind.Keyword other) bytes e form form' = absurd (omega arith)
same_class kind.Text kind.Quoted bytes e form form' = absurd (omega arith)
same_class kind.Text kind.Text bytes e form form' = refl
same_class kind.Text kind.Number bytes e form form' = absurd (omega arith)
same_class kind.Text (kind.Mark other) bytes e form form' = absurd (omega arith)
same_class kind.Number kind.Name bytes e form form' = absurd (omega arith)
same_class kind.Number (kind.Keyword other) bytes e form form' = absurd (omega arith)
same_class kind.Number kind.Quoted bytes e form form' = absurd (omega arith)
same_class kind.Number kind.Text bytes e form form' = absurd (omega arith)
same_class kind.Number kind.Number bytes e form form' = refl
same_class kind.Number (kind.Mark other) bytes e form form' = absurd (omega arith)
same_class (kind.Mark mark) kind.Name bytes e form form' = absurd (omega arith)
same_class (kind.Mark mark) (kind.Keyword other) bytes e form form' = absurd (omega arith)
same_class (kind.Mark mark) kind.Quoted bytes e form form' = absurd (omega arith)
same_class (kind.Mark mark) kind.Text bytes e form form' = absurd (omega arith)
same_class (kind.Mark mark) kind.Number bytes e form form' = absurd (omega arith)
same_class (kind.Mark mark) (kind.Mark other) bytes e form form' = ap kind.Mark (marks_same mark other (sym form ∙ form'))

pub mark_some : (mark : Mark) → 0 < length (mark_spelling mark)
mark_some mark.LeftBraceMinus = lit< tt
mark_some mark.RightBraceMinus = lit< tt
mark_some mark.NotEquals = lit< tt
mark_some mark.LessThanOrEquals = lit< tt
mark_some mark.GreaterThanOrEquals = lit< tt
mark_some mark.LeftParenthesis = lit< tt
mark_some mark.RightParenthesis = lit< tt
mark_some mark.Comma = lit< tt
mark_some mark.Period = lit< tt
mark_some mark.Asterisk = lit< tt
mark_some mark.Plus = lit< tt
mark_some mark.Minus = lit< tt
mark_some mark.QuestionMark = lit< tt
mark_some mark.LeftBrace = lit< tt
mark_some mark.RightBrace = lit< tt
mark_some mark.VerticalBar = lit< tt
mark_some mark.Circumflex = lit< tt
mark_some mark.DollarSign = lit< tt
mark_some mark.Equals = lit< tt
mark_some mark.LessThan = lit< tt
mark_some mark.GreaterThan = lit< tt

-- bytes have the form of one kind
pub one_kind : (k l : TokenKind) (bytes : List ℕ) → HasForm k bytes → HasForm l bytes → k ≡ l
one_kind k l bytes form form' = same_class k l bytes (sym (class_of_form k bytes form) ∙ class_of_form l bytes form') form form'

-- no token is empty
pub form_some : (kind : TokenKind) (bytes : List ℕ) → HasForm kind bytes → bytes ≢ []
form_some kind.Name bytes form e = let at_nil : is_name_start 0 ≡ true = ap (λ l. is_name_start (get_or l 0 0)) (sym e) ∙ form.0.start in let h : ⊥ = cc in h
form_some (kind.Keyword word) bytes form e = let at_nil : is_name_start 0 ≡ true = ap (λ l. is_name_start (get_or l 0 0)) (sym e) ∙ form.0.start in let h : ⊥ = cc in h
form_some kind.Quoted bytes form e = let h : enclosed 34 form.0 ≡ [] = sym form.2 ∙ e in let no' : ⊥ = cc in no'
form_some kind.Text bytes form e = let h : enclosed 39 form.0 ≡ [] = sym form.1 ∙ e in let no' : ⊥ = cc in no'
form_some kind.Number bytes form e = omega (arith, form.some, ap length e)
form_some (kind.Mark mark) bytes form e = omega (arith, mark_some mark, ap length (sym form ∙ e))

start_no_separator : (b : ℕ) → is_name_start b ≡ true → is_separator b ≡ false
start_no_separator b start = grind (arith, nat_tests)

digit_no_separator : (b : ℕ) → is_ascii_digit b ≡ true → is_separator b ≡ false
digit_no_separator b digit = grind (arith, nat_tests)

mark_no_separator : (mark : Mark) → is_separator (get_or (mark_spelling mark) 0 0) ≡ false
mark_no_separator mark.LeftBraceMinus = refl
mark_no_separator mark.RightBraceMinus = refl
mark_no_separator mark.NotEquals = refl
mark_no_separator mark.LessThanOrEquals = refl
mark_no_separator mark.GreaterThanOrEquals = refl
mark_no_separator mark.LeftParenthesis = refl
mark_no_separator mark.RightParenthesis = refl
mark_no_separator mark.Comma = refl
mark_no_separator mark.Period = refl
mark_no_separator mark.Asterisk = refl
mark_no_separator mark.Plus = refl
mark_no_separator mark.Minus = refl
mark_no_separator mark.QuestionMark = refl
mark_no_separator mark.LeftBrace = refl
mark_no_separator mark.RightBrace = refl
mark_no_separator mark.VerticalBar = refl
mark_no_separator mark.Circumflex = refl
mark_no_separator mark.DollarSign = refl
mark_no_separator mark.Equals = refl
mark_no_separator mark.LessThan = refl
mark_no_separator mark.GreaterThan = refl

-- no token begins with a separator
pub form_no_separator : (kind : TokenKind) (bytes : List ℕ) → HasForm kind bytes → is_separator (get_or bytes 0 0) ≡ false
form_no_separator kind.Name bytes form = start_no_separator (get_or bytes 0 0) form.0.start
form_no_separator (kind.Keyword word) bytes form = start_no_separator (get_or bytes 0 0) form.0.start
form_no_separator kind.Quoted bytes form = ap (λ l. is_separator (get_or l 0 0)) form.2
form_no_separator kind.Text bytes form = ap (λ l. is_separator (get_or l 0 0)) form.1
form_no_separator kind.Number bytes form = digit_no_separator (get_or bytes 0 0) (form.each 0 0 form.some)
form_no_separator (kind.Mark mark) bytes form = ap (λ l. is_separator (get_or l 0 0)) form ∙ mark_no_separator mark
