-- Inside: what the scanners find in what is left of a text. No public contract cites it: it stands here since a contract may name
-- only what is in specs/.
use Rattle.std.specs.Prelude.{◌≡◌, ◌≢◌, ℕ, ◌<◌, ◌≤◌, Bool, true, false, if◌then◌else◌, Option, Some, None, List, [], ◌∷◌, length, map, take, slice_index}
use Rattle.std.specs.Borrow.{Bor}
use Rattle.std.specs.Str.{bytes_eq, str_eq_ignore_ascii_case}
use Rattle.std.specs.Char.{is_ascii_digit}
use Rattle.rp_lexer.specs.Spelling.{mark_spelling}
use Rattle.rp_lexer.specs.Forms.{is_name_start, doubled, enclosed, single_quote, double_quote}
use Rattle.rp_lexer.specs.Lexes.{is_separator, CommentBegins, IsGap}
use Rattle.rp_lexer.specs.declared.kind.Keyword.{Keyword}
use Rattle.rp_lexer.specs.declared.kind.Mark.{Mark}

-- neither a separator nor a comment begins at the place
pub record Stops (text : List ℕ) (at : ℕ) : Type 0 where
  pub no_separator : is_separator (slice_index text at) ≡ false
  pub no_comment : CommentBegins text at → ⊥

-- a separator or a comment stands from one place up to another
pub record IsStep (text : List ℕ) (at end : ℕ) : Type 0 where
  pub order : at < end
  pub within : end ≤ length text
  pub gap : (last : ℕ) → IsGap text end last → IsGap text at last

-- the first `len` bytes pass, and the next one doesn't
pub record IsRun (passes : ℕ → Bool) (rest : List ℕ) (len : ℕ) : Type 0 where
  pub within : len ≤ length rest
  pub each : (k : ℕ) → k < len → passes (slice_index rest k) ≡ true
  pub stops : len < length rest → passes (slice_index rest len) ≡ false

-- a table of spellings, without where they lie in memory
abbrev pub entries : {X : Type 0} → List (Bor (List ℕ) × X) → List (List ℕ × X)
entries table = map (λ e. (e.0.now, e.1)) table

-- the first word of a table that the name spells, in any case
abbrev pub word_in : List (List ℕ × Keyword) → List ℕ → Option Keyword
word_in [] name = None
word_in (e ∷ table) name = if str_eq_ignore_ascii_case e.0 name then Some e.1 else word_in table name

-- whether the bytes begin with a front
abbrev pub begins_with : List ℕ → List ℕ → Bool
begins_with rest front = bytes_eq front (take (length front) rest)

-- the first mark of a table that the bytes begin with, and its length
abbrev pub mark_in : List (List ℕ × Mark) → List ℕ → Option (Mark × ℕ)
mark_in [] rest = None
mark_in (e ∷ table) rest = if begins_with rest e.0 then Some (e.1, length e.0) else mark_in table rest

-- The first `len` bytes are enclosed in quotes: the last is a quote, and no second one follows directly.
pub record Closes (quote : ℕ) (rest : List ℕ) (len : ℕ) : Type 0 where
  pub inside : List ℕ
  pub front : take len rest ≡ enclosed quote inside
  pub within : len ≤ length rest
  pub closed : len < length rest → slice_index rest len ≢ quote

-- the quote at the front is never closed
abbrev pub NeverCloses : ℕ → List ℕ → Type 0
NeverCloses quote rest = (inside : List ℕ) × (rest ≡ quote ∷ doubled quote inside)

-- the bytes begin with the mark
abbrev pub BeginsWithMark : List ℕ → Mark → Type 0
BeginsWithMark rest mark = take (length (mark_spelling mark)) rest ≡ mark_spelling mark

-- the bytes begin with the mark, and with no longer one
pub record IsLongestMark (rest : List ℕ) (mark : Mark) (len : ℕ) : Type 0 where
  pub len_is : len ≡ length (mark_spelling mark)
  pub begins : BeginsWithMark rest mark
  pub longest : (other : Mark) → len < length (mark_spelling other) → BeginsWithMark rest other → ⊥

-- the bytes begin with no mark
abbrev pub BeginsNoMark : List ℕ → Type 0
BeginsNoMark rest = (mark : Mark) → BeginsWithMark rest mark → ⊥

-- no name, number, text or quoted name begins with the byte
pub record IsSign (b : ℕ) : Type 0 where
  pub no_name : is_name_start b ≡ false
  pub no_number : is_ascii_digit b ≡ false
  pub no_text : b ≢ single_quote
  pub no_quoted : b ≢ double_quote
