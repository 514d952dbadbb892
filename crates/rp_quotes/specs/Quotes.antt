-- The quotes of a CSV text (RFC 4180, part 2), in terms of the states in which csv reads it.
use Rattle.std.specs.Prelude.{◌≡◌, ◌==◌, ◌+◌, ◌-◌, ◌^◌, min, ℕ, Bool, true, false, List, [], ◌∷◌, ◌++◌, count_by, Option, Some, None}
use Rattle.csv.specs.Machine.{step}
use Rattle.csv.specs.Reading.{strip_bom}
use Rattle.csv.specs.declared.parser.Config.{Config}
use Rattle.csv.specs.declared.parser.State.{State}
use Rattle.csv.specs.declared.parser.State.TheVariants as st
use Rattle.rp_input.specs.Layouts.{config_with}
use Rattle.rp_quotes.specs.declared.quoting.Quoting.{Quoting}
use Rattle.rp_quotes.specs.declared.quoting.Quoting.TheVariants as quoting
use Rattle.rp_quotes.specs.declared.watch.Stray.{Stray}

-- what a state of csv is, as far as quotes go; it has no other states where there are neither escapes nor comments
abbrev pub quoting_of : State → Option Quoting
quoting_of st.StartRecord = Some quoting.Begin
quoting_of st.StartField = Some quoting.Begin
quoting_of st.AfterCr = Some quoting.Begin
quoting_of st.InField = Some quoting.Plain
quoting_of st.InQuoted = Some quoting.Inside
quoting_of st.AfterQuote = Some quoting.AtQuote
quoting_of st.InEscape = None
quoting_of st.InComment = None

abbrev pub IsAt : Quoting → State → Type 0
IsAt quoting s = quoting_of s ≡ Some quoting

-- where csv's machine stands behind these bytes, from a state on
unfoldable pub state_behind : Config → State → List ℕ → State
state_behind config s [] = s
state_behind config s (byte ∷ rest) = state_behind config (step config s byte).0 rest

-- where it stands behind a text with this byte between fields, without the byte order mark that the text may begin with
abbrev pub state_of : ℕ → List ℕ → State
state_of delimiter text = state_behind (config_with delimiter) st.StartRecord (strip_bom text)

-- the text ends between quotes: one that opens a field doesn't close, and all that follows belongs to that field
abbrev pub LeavesQuoteOpen : ℕ → List ℕ → Type 0
LeavesQuoteOpen delimiter text = state_of delimiter text ≡ st.InQuoted

-- whether csv is before the first byte of a field
abbrev pub begins_field : State → Bool
begins_field st.StartRecord = true
begins_field st.StartField = true
begins_field st.AfterCr = true
begins_field _ = false

-- the number of the line in which a text ends, from 1: one more than its line feeds, and a count that is full stays
abbrev pub line_of_end : List ℕ → ℕ
line_of_end text = min (count_by (λ byte. byte == 10) (strip_bom text) + 1) (2 ^ 64 - 1)

-- The last field of a text is quoted, and its quote is in this line: the quote comes where csv is before a field, and behind no part of what
-- follows it is csv before one again.
pub record IsQuotedFrom (delimiter : ℕ) (text : List ℕ) (line : ℕ) : Type 0 where
  pub front : List ℕ
  pub inside : List ℕ
  pub parts : text ≡ front ++ 34 ∷ inside
  pub begins : begins_field (state_of delimiter front) ≡ true
  pub within : (part rest : List ℕ) → inside ≡ part ++ rest → begins_field (state_of delimiter (front ++ 34 ∷ part)) ≡ false
  pub in_line : line ≡ line_of_end front

-- whether csv comes from behind a quote between quotes into the field itself: the quote closed it, and it goes on
abbrev pub goes_on : State → State → Bool
goes_on st.AfterQuote st.InField = true
goes_on _ _ = false

-- no field of a text goes on behind its closing quote
abbrev pub HasNoStray : ℕ → List ℕ → Type 0
HasNoStray delimiter text =
    (front : List ℕ) (byte : ℕ) (rest : List ℕ) → text ≡ front ++ byte ∷ rest
    → goes_on (state_of delimiter front) (state_of delimiter (front ++ byte ∷ [])) ≡ true → ⊥

-- The first field of a text that goes on behind its closing quote: a front ends with that quote, and no field of it has gone on before. The
-- field begins and goes on in these lines.
pub record IsFirstStray (delimiter : ℕ) (text : List ℕ) (stray : Stray) : Type 0 where
  pub front : List ℕ
  pub byte : ℕ
  pub rest : List ℕ
  pub parts : text ≡ front ++ byte ∷ rest
  pub goes : goes_on (state_of delimiter front) (state_of delimiter (front ++ byte ∷ [])) ≡ true
  pub first : HasNoStray delimiter front
  pub begins : IsQuotedFrom delimiter front stray.begins
  pub in_line : stray.goes_on ≡ line_of_end front

-- whether csv takes what follows into a field without quotes
abbrev pub is_in_field : State → Bool
is_in_field st.InField = true
is_in_field _ = false

-- The last field of a text is blanks alone, and at least one: csv is before a field and takes a blank into it, or the field was so before
-- and it takes one more.
pub data IsBlankField (delimiter : ℕ) : List ℕ → Type 0 where
  first : {text : List ℕ} (front : List ℕ) → text ≡ front ++ 32 ∷ [] → begins_field (state_of delimiter front) ≡ true
      → is_in_field (state_of delimiter text) ≡ true → IsBlankField delimiter text
  further : {text : List ℕ} (front : List ℕ) → text ≡ front ++ 32 ∷ [] → IsBlankField delimiter front
      → is_in_field (state_of delimiter text) ≡ true → IsBlankField delimiter text

-- in a text no quote comes behind blanks with which a field begins: such a quote doesn't open the field, and blanks and quote are parts of it
abbrev pub HasNoQuoteBehindBlanks : ℕ → List ℕ → Type 0
HasNoQuoteBehindBlanks delimiter text = (front rest : List ℕ) → text ≡ front ++ 34 ∷ rest → IsBlankField delimiter front → ⊥

-- the first one of a text is in this line
pub record IsFirstQuoteBehindBlanks (delimiter : ℕ) (text : List ℕ) (line : ℕ) : Type 0 where
  pub front : List ℕ
  pub rest : List ℕ
  pub parts : text ≡ front ++ 34 ∷ rest
  pub blanks : IsBlankField delimiter front
  pub first : HasNoQuoteBehindBlanks delimiter front
  pub in_line : line ≡ line_of_end front
