-- Inside: parts of a pattern one after another, each as its words and its turns.
use Rattle.std.specs.Prelude.{◌≡◌, ℕ, zero, suc, ◌+◌, ◌≤◌, Bool, List, [], ◌∷◌, map, get_or, sum_by, nat_le, nat_lt, if◌then◌else◌}
use Rattle.std.specs.declared.rc.Rc.{Rc}
use Rattle.std.specs.declared.alloc.Global.{Global}
use Rattle.rp_words.specs.declared.form.Form.{Form}
use Rattle.rp_words.specs.declared.word.End.{End}
use Rattle.rp_words.specs.declared.word.End.TheVariants.{Open as OpenEnd, Closed as ClosedEnd}
use Rattle.rp_words.specs.Mapping.{Mapping, Open}
use Rattle.rp_words.specs.Words.{words, nothing_mapped, concatenation, alternation, sequence}
use Rattle.rp_words.specs.Turns.{WordsAndTurns, turns, turns_after, within, one_turn, words_of, chain_turns}

-- a part of a pattern, inside an exclusion or outside of one
abbrev pub form_part : ℕ → End → Form → Bool → WordsAndTurns
form_part n e f excluded = within excluded (words n e f, turns n e f)

-- nothing is left of the pattern
abbrev pub nothing_left : WordsAndTurns
nothing_left = (nothing_mapped, λ i. 0)

-- there is no way to go on
abbrev pub no_way : WordsAndTurns
no_way = (λ i. [], λ i. 0)

-- a part, and then what follows it. Joining them takes no turn
abbrev pub joined : WordsAndTurns → WordsAndTurns → WordsAndTurns
joined p later = (concatenation p.0 later.0, λ i. p.1 i + sum_by (turns_after later.1 i) (p.0 i))

-- either of two, the first one preferred, in a turn
abbrev pub either : WordsAndTurns → WordsAndTurns → WordsAndTurns
either p q = (alternation p.0 q.0, λ i. 1 + (p.1 i + q.1 i))

-- so many open words, each of which takes no row
abbrev pub open_words : ℕ → List Mapping
open_words zero = []
open_words (suc k) = Open [] ∷ open_words k

-- the words of parts that begin with a row each, past the last known row: over an open end one for each part, of
-- which there are one and these others, and over a closed end none
abbrev pub may_begin : End → ℕ → List Mapping
may_begin OpenEnd others = open_words (suc others)
may_begin ClosedEnd others = []

-- a part that begins with a known row; past the last known one it waits for a row, which takes a turn
abbrev pub from_row : ℕ → End → ℕ → WordsAndTurns → WordsAndTurns
from_row n e others p = (
  λ i. if nat_le i n then p.0 i else may_begin e others,
  λ i. if nat_le i n then p.1 i else 1,
)

-- what follows, by whether a row has been taken since this one
abbrev pub forked : ℕ → WordsAndTurns → WordsAndTurns → WordsAndTurns
forked since unmoved moved = (
  λ i. if nat_lt since i then moved.0 i else unmoved.0 i,
  λ i. if nat_lt since i then moved.1 i else unmoved.1 i,
)

-- from this row it has the words of a part, and takes no more turns
pub record Replaces (i : ℕ) (p q : WordsAndTurns) : Type 0 where
  pub words : q.0 i ≡ p.0 i
  pub turns : q.1 i ≤ p.1 i

-- parts one after another
abbrev pub chained : List WordsAndTurns → WordsAndTurns
chained ps = (sequence (map words_of ps), chain_turns ps)

-- parts at these places
abbrev pub in_order : List WordsAndTurns → List ℕ → List WordsAndTurns
in_order ps order = map (λ k. get_or ps k (nothing_mapped, one_turn)) order

-- parts of a pattern that have owners of their own, inside an exclusion or outside of one
abbrev pub form_parts : ℕ → End → List (Rc Form Global) → Bool → List WordsAndTurns
form_parts n e forms excluded = map (λ f. form_part n e f.value excluded) forms
