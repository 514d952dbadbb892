-- What is written for the lines of `trace`.
use Rattle.std.specs.Prelude.{ℕ, ◌+◌, List, [], ◌∷◌, ◌++◌, length, map, Bool, ◌&&◌, nat_le, codes, if◌then◌else◌, Option, IfSome}
use Rattle.std.specs.List.{list_all, flat_map}
use Rattle.std.specs.Io.KnownBytes.{Appends}
use Rattle.rp_io.specs.Devices.{AppendsFront}
use Rattle.rp_io.specs.Lines.{lines_of}
use Rattle.rp_words.specs.declared.word.Label.{Label}
use Rattle.rp_words.specs.declared.word.End.TheVariants.{Closed}
use Rattle.rp_words.specs.declared.form.Form.{Form}
use Rattle.rp_words.specs.Words.{words}
use Rattle.rp_trace.specs.Bytes.{lower_a, lower_z, upper_a}
use Rattle.rp_trace.specs.Limits.{longest_line}
use Rattle.rp_trace.specs.LetterTest.{letter_test}
use Rattle.rp_search.specs.Found.{Found, Match, Waits, NoMatch, found}

-- whether the byte is a letter of a row, a to z
abbrev pub is_letter : ℕ → Bool
is_letter byte = nat_le lower_a byte && nat_le byte lower_z

-- whether a line's match is looked for: it has no more bytes than the longest, each a letter
abbrev pub is_looked_at : List ℕ → Bool
is_looked_at line = nat_le (length line) longest_line && list_all is_letter line

-- the letters of a match's variables, or `empty` where it maps no row
abbrev pub match_text : List Label → List ℕ
match_text [] = codes "empty"
match_text (label ∷ labels) = map (λ l. l.var + upper_a) (label ∷ labels)

-- what is written for what a search found. Over a closed partition none waits for more rows, so for that there is no text.
abbrev pub found_text : Found → List ℕ
found_text (Match labels) = match_text labels
found_text Waits = []
found_text NoMatch = codes "none"

-- what is written for what the search from row 1 on over a closed partition with these letters finds; `none` for an empty line, which has no row 1
abbrev pub search_text : Form → List ℕ → List ℕ
search_text form [] = codes "none"
search_text form (letter ∷ letters) = found_text (found (letter_test (letter ∷ letters) 1) (words (length (letter ∷ letters)) Closed form 1))

-- what is written for a line, without the LF behind it: a line that isn't looked at is refused
abbrev pub reply_text : Form → List ℕ → List ℕ
reply_text form line = if is_looked_at line then search_text form line else codes "refused"

-- the reply to a line
abbrev pub reply_to : Form → List ℕ → List ℕ
reply_to form line = reply_text form line ++ codes "\n"

-- the reply to the part behind the last LF, which is a line unless it is empty
abbrev pub last_reply : Form → List ℕ → List ℕ
last_reply form [] = []
last_reply form (byte ∷ part) = reply_to form (byte ∷ part)

-- a reply for each line
abbrev pub replies_to : Form → List (List ℕ) → List ℕ
replies_to form lines = flat_map (reply_to form) lines

-- Where the bytes of the input are known: those written, where they are known too, grow by the replies to all of its lines.
abbrev pub WritesReplies : Form → Option (List ℕ) → Option (List ℕ) → Option (List ℕ) → Type 0
WritesReplies form input old new = IfSome input (λ bytes. Appends old new (replies_to form (lines_of bytes)))

-- Where the bytes of the input are known: those written, where they are known too, grow by the first bytes of these
-- replies, perhaps none or all.
abbrev pub WritesFront : Form → Option (List ℕ) → Option (List ℕ) → Option (List ℕ) → Type 0
WritesFront form input old new = IfSome input (λ bytes. AppendsFront old new (replies_to form (lines_of bytes)))
