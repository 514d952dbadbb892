-- Inside: what a choice comes to when it is taken up.
use Rattle.std.specs.Prelude.{◌≡◌, ℕ, Bool, ◌+◌, ◌<◌, ◌≤◌, List, [], ◌∷◌, ◌++◌, map, drop, Option, Some, None}
use Rattle.rp_words.specs.declared.word.End.{End}
use Rattle.rp_words.specs.declared.word.End.TheVariants.{Open as OpenEnd}
use Rattle.rp_words.specs.declared.word.Label.{Label}
use Rattle.rp_pattern.specs.declared.machine.continuation.Continuation.{Continuation}
use Rattle.rp_pattern.specs.declared.machine.split.Split.{Split}
use Rattle.rp_pattern.specs.declared.machine.split.Expansion.{Expansion}
use Rattle.rp_pattern.specs.declared.machine.split.Expansion.TheVariants.{Full as FullExpansion, Row as RowExpansion, Open as OpenExpansion, Split as SplitExpansion}
use Rattle.rp_words.specs.Mapping.{Mapping, Full, Open, preceded}
use Rattle.rp_words.specs.Turns.{WordsAndTurns, chain_turns, iterations, past}
use Rattle.rp_pattern.specs.declared.machine.iterations.Iterations.{Iterations}
use Rattle.rp_words.specs.Later.{IsLater}
use Rattle.rp_pattern.specs.Continuations.{continuation_parts, chain_words, node_part, still}

-- the words of what is left of a pattern, if anything is
abbrev pub option_words : ℕ → End → Option Continuation → ℕ → List Mapping
option_words n e None i = []
option_words n e (Some r) i = chain_words (continuation_parts n e r) i

-- their turns
abbrev pub option_turns : ℕ → End → Option Continuation → ℕ → ℕ
option_turns n e None i = 0
option_turns n e (Some r) i = chain_turns (continuation_parts n e r) i

-- the words of the choices that a choice gives way to, those of the preferred one first
abbrev pub split_words : ℕ → End → Split → ℕ → List Mapping
split_words n e s i = option_words n e s.preferred i ++ option_words n e s.other i

-- their turns
abbrev pub split_turns : ℕ → End → Split → ℕ → ℕ
split_turns n e s i = option_turns n e s.preferred i + option_turns n e s.other i

-- another iteration, and then further ones if it has taken a row
abbrev pub repeated : ℕ → Bool → WordsAndTurns → List WordsAndTurns → ℕ → List WordsAndTurns
repeated h reluctant p later i = p ∷ past i (iterations 0 h reluctant p) ∷ later

-- it stands for these parts
pub record StandsFor (n : ℕ) (e : End) (i : ℕ) (ps : List WordsAndTurns) (r : Option Continuation) : Type 0 where
  pub words : option_words n e r i ≡ chain_words ps i
  pub turns : option_turns n e r i ≡ chain_turns ps i

-- It has the words of these parts, and takes no more turns.
pub record Replaces (n : ℕ) (e : End) (i : ℕ) (ps : List WordsAndTurns) (r : Option Continuation) : Type 0 where
  pub words : option_words n e r i ≡ chain_words ps i
  pub turns : option_turns n e r i ≤ chain_turns ps i

-- These choices have the words of the parts, and take fewer turns.
pub record SplitsAt (n : ℕ) (e : End) (i : ℕ) (ps : List WordsAndTurns) (s : Split) : Type 0 where
  pub words : split_words n e s i ≡ chain_words ps i
  pub turns : split_turns n e s i < chain_turns ps i

-- After an iteration at this row come further ones, if it has taken a row, and then what follows them.
pub record ComesAgain (n : ℕ) (e : End) (i : ℕ) (it : Iterations) (further : Option ℕ) (later again : List WordsAndTurns) : Type 0 where
  pub words : chain_words (node_part n e it.body ∷ again) i ≡ chain_words (repeated (still n further) it.reluctant (node_part n e it.body) later i) i
  pub turns : chain_turns (node_part n e it.body ∷ again) i ≡ chain_turns (repeated (still n further) it.reluctant (node_part n e it.body) later i) i

-- The same, over all rows and either end.
abbrev pub AlwaysSplits : ℕ → (ℕ → End → List WordsAndTurns) → Split → Type 0
AlwaysSplits i ps s = (n : ℕ) (e : End) → SplitsAt n e i (ps n e) s

-- The same, over the known rows and whatever comes later.
pub record Splits (n : ℕ) (e : End) (i : ℕ) (ps : ℕ → End → List WordsAndTurns) (s : Split) : Type 0 where
  pub words : (n' : ℕ) (e' : End) → IsLater n e n' e' → split_words n' e' s i ≡ chain_words (ps n' e') i
  pub turns : (n' : ℕ) (e' : End) → IsLater n e n' e' → split_turns n' e' s i < chain_turns (ps n' e') i

-- A known row is mapped, and the later parts follow.
pub record TakesRow (n : ℕ) (e : End) (i : ℕ) (ps : ℕ → End → List WordsAndTurns) (l : Label) : Type 0 where
  pub known : i ≤ n
  pub words : (n' : ℕ) (e' : End) → n ≤ n' → chain_words (ps n' e') i ≡ map (preceded (l ∷ [])) (chain_words (drop 1 (ps n' e')) (i + 1))
  pub turns : (n' : ℕ) (e' : End) → n ≤ n' → chain_turns (ps n' e') i ≡ 1 + chain_turns (drop 1 (ps n' e')) (i + 1)

-- It runs into the row after the last known one.
pub record Waits (n : ℕ) (e : End) (i : ℕ) (ps : ℕ → End → List WordsAndTurns) : Type 0 where
  pub end : e ≡ OpenEnd
  pub words : chain_words (ps n e) i ≡ Open [] ∷ []
  pub turns : (n' : ℕ) (e' : End) → 0 < chain_turns (ps n' e') i

-- What parts came to at a row, by their words and turns over the rows that are known and over later ones.
abbrev pub TakenUp : ℕ → End → ℕ → (ℕ → End → List WordsAndTurns) → Split → Expansion → Type 0
TakenUp n e i ps s FullExpansion = (n' : ℕ) (e' : End) → chain_words (ps n' e') i ≡ Full [] ∷ []
TakenUp n e i ps s (RowExpansion l) = TakesRow n e i ps l
TakenUp n e i ps s OpenExpansion = Waits n e i ps
TakenUp n e i ps s SplitExpansion = Splits n e i ps s
