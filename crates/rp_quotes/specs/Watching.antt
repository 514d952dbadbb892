-- Inside: what a watch has of the text that it has seen.
use Rattle.std.specs.Prelude.{◌≡◌, ⊤, ◌+◌, ◌-◌, ◌^◌, min, ◌||◌, ◌&&◌, ◌==◌, if◌then◌else◌, Bool, true, false, ℕ, Option, Some, None, MatchOption, List, [], ◌∷◌, ◌++◌}
use Rattle.csv.specs.Reading.{strip_bom}
use Rattle.rp_quotes.specs.Quotes.{
  IsAt,
  HasNoQuoteBehindBlanks,
  HasNoStray,
  IsBlankField,
  IsFirstQuoteBehindBlanks,
  IsFirstStray,
  IsQuotedFrom,
  line_of_end,
  state_of,
}
use Rattle.rp_quotes.specs.declared.mark.Mark.{Mark}
use Rattle.rp_quotes.specs.declared.mark.Mark.TheVariants as mark
use Rattle.rp_quotes.specs.declared.quoting.Quoting.{Quoting}
use Rattle.rp_quotes.specs.declared.quoting.Quoting.TheVariants as quoting
use Rattle.rp_quotes.specs.declared.watch.QuoteWatch.{QuoteWatch}
use Rattle.rp_quotes.specs.declared.watch.Stray.{Stray}

-- whatever follows, the text begins with a byte order mark or not
abbrev pub IsSettled : List ℕ → Type 0
IsSettled text = (rest : List ℕ) → strip_bom (text ++ rest) ≡ strip_bom text ++ rest

-- the first bytes of a byte order mark are all that there is, or it is settled whether the text begins with one
abbrev pub HasMark : Mark → List ℕ → Type 0
HasMark mark.Nothing text = text ≡ []
HasMark mark.First text = text ≡ 0xEF ∷ []
HasMark mark.Second text = text ≡ 0xEF ∷ 0xBB ∷ []
HasMark mark.Settled text = IsSettled text

-- between the quotes of a field, or behind a quote there
abbrev pub is_quoted : Quoting → Bool
is_quoted quoting.Inside = true
is_quoted quoting.AtQuote = true
is_quoted _ = false

-- it has seen the text, byte by byte
pub record HasSeen (delimiter : ℕ) (text : List ℕ) (watch : QuoteWatch) : Type 0 where
  pub same : watch.delimiter ≡ delimiter
  pub mark : HasMark watch.mark text
  pub at : IsAt watch.quoting (state_of delimiter text)
  pub opened : is_quoted watch.quoting ≡ true → IsQuotedFrom delimiter text watch.opened
  pub line : watch.line ≡ line_of_end text
  pub stray : MatchOption watch.stray (HasNoStray delimiter text) (IsFirstStray delimiter text)
  pub blank : watch.blank ≡ true → IsBlankField delimiter text
  pub blank_only : IsBlankField delimiter text → watch.blank ≡ true
  pub behind_blank : MatchOption watch.behind_blank (HasNoQuoteBehindBlanks delimiter text) (IsFirstQuoteBehindBlanks delimiter text)

-- whether a field goes on behind its closing quote, by where the text ends before and behind one byte more
abbrev pub is_stray : Quoting → Quoting → Bool
is_stray quoting.AtQuote quoting.Plain = true
is_stray _ _ = false

-- A byte leads between quotes by opening a field, or from there.
abbrev pub LeadsToQuoted : Quoting → ℕ → Quoting → Type 0
LeadsToQuoted quoting.Begin byte quoting.Inside = byte ≡ 34
LeadsToQuoted quoting.Begin byte quoting.AtQuote = ⊥
LeadsToQuoted quoting.Plain byte quoting.Inside = ⊥
LeadsToQuoted quoting.Plain byte quoting.AtQuote = ⊥
LeadsToQuoted _ byte _ = ⊤

-- the line of the quote that opened the last quoted field, where this line's may be one
abbrev pub opened_by : Quoting → Quoting → ℕ → ℕ → ℕ
opened_by quoting.Begin quoting.Inside opened line = line
opened_by _ _ opened line = opened

-- the first field that does, where this one may with one byte more
abbrev pub stray_behind : Quoting → Quoting → Option Stray → Stray → Option Stray
stray_behind old new (Some first) here = Some first
stray_behind old new None here = if is_stray old new then Some here else None

-- before the first byte of a field
abbrev pub is_begin : Quoting → Bool
is_begin quoting.Begin = true
is_begin _ = false

-- in a field without quotes, or behind a closing one
abbrev pub is_plain : Quoting → Bool
is_plain quoting.Plain = true
is_plain _ = false

-- whether the last field is blanks alone, and at least one, with one byte more
abbrev pub is_blank_by : Bool → Quoting → ℕ → Quoting → Bool
is_blank_by blank old byte new = (byte == 32) && ((blank || is_begin old) && is_plain new)

-- the line of the first quote behind blanks with which a field begins, where this line's may be one
abbrev pub behind_blank_by : Bool → ℕ → Option ℕ → ℕ → Option ℕ
behind_blank_by blank byte (Some first) line = Some first
behind_blank_by blank byte None line = if blank && (byte == 34) then Some line else None

-- the number of a line with one byte more; a count that is full stays
abbrev pub line_with : ℕ → ℕ → ℕ
line_with line byte = if byte == 10 then min (line + 1) (2 ^ 64 - 1) else line

-- one byte more leads from there to here
pub record LeadsTo (delimiter : ℕ) (text : List ℕ) (byte : ℕ) (old new : Quoting) : Type 0 where
  pub at : IsAt new (state_of delimiter (text ++ byte ∷ []))
  pub quoted : LeadsToQuoted old byte new
  pub line : line_of_end (text ++ byte ∷ []) ≡ line_with (line_of_end text) byte
