-- Inside: ways to go on, by their words and their turns: what the choices on a stack come to, however a pattern is kept.
use Rattle.std.specs.Prelude.{◌≡◌, ℕ, ◌+◌, ◌<◌, ◌≤◌, Bool, true, false, ◌&&◌, ◌||◌, List, [], ◌∷◌, ◌++◌, map, length, take, Option, Some, None, nat_le, nat_lt}
use Rattle.std.specs.List.{AllByRecursion}
use Rattle.rp_words.specs.declared.word.End.{End}
use Rattle.rp_words.specs.declared.word.End.TheVariants.{Open as OpenEnd}
use Rattle.rp_words.specs.declared.word.Label.{Label}
use Rattle.rp_words.specs.Mapping.{Mapping, Full, Open, preceded}
use Rattle.rp_words.specs.Turns.{WordsAndTurns}
use Rattle.rp_words.specs.Later.{IsLater}
use Rattle.rp_program.specs.Parts.{no_way}
use Rattle.rp_pattern.specs.declared.machine.split.Expansion.{Expansion}
use Rattle.rp_pattern.specs.declared.machine.split.Expansion.TheVariants.{Full as FullExpansion, Row as RowExpansion, Open as OpenExpansion, Split as SplitExpansion}

-- what is left of a pattern over the rows 1 to n and an end, and what of that follows the row that it maps first
pub record Rest : Type 0 where
  pub left : ℕ → End → WordsAndTurns
  pub later : ℕ → End → WordsAndTurns
  -- how many turns it takes where each split that it comes to has failed before
  pub cost : ℕ
  -- how many more it takes where it splits and hasn't failed
  pub weight : ℕ
  -- where it waits for a row, it has one open word, and no more
  pub single : Bool

-- a way to go on: so many labels come before it, and this is left
pub record Way : Type 0 where
  pub depth : ℕ
  pub rest : Rest

-- the turns from a row, and one more for each word
abbrev pub left_at : WordsAndTurns → ℕ → ℕ
left_at p i = p.1 i + length (p.0 i)

-- the words of a way: those of what is left from its row on, with the labels before it
abbrev pub way_words : ℕ → End → ℕ → List Label → Way → List Mapping
way_words n e start labels w = map (preceded (take w.depth labels)) ((w.rest.left n e).0 (start + w.depth))

-- the words of ways in order
abbrev pub stack_words : ℕ → End → ℕ → List Label → List Way → List Mapping
stack_words n e start labels [] = []
stack_words n e start labels (w ∷ ws) = way_words n e start labels w ++ stack_words n e start labels ws

-- the turns of ways in order, and one more for each of their words
abbrev pub stack_left : ℕ → End → ℕ → List Way → ℕ
stack_left n e start [] = 0
stack_left n e start (w ∷ ws) = left_at (w.rest.left n e) (start + w.depth) + stack_left n e start ws

-- the turns of ways, where each split that they come to has failed before
abbrev pub stack_cost : List Way → ℕ
stack_cost [] = 0
stack_cost (w ∷ ws) = w.rest.cost + stack_cost ws

-- how many more the first one takes, where it splits and hasn't failed
abbrev pub first_weight : List Way → ℕ
first_weight [] = 0
first_weight (w ∷ ws) = w.rest.weight

-- how many words ways have together
abbrev pub stack_count : ℕ → End → ℕ → List Way → ℕ
stack_count n e start [] = 0
stack_count n e start (w ∷ ws) = length ((w.rest.left n e).0 (start + w.depth)) + stack_count n e start ws

-- a way has a word, and fewer turns are left for it than so many
abbrev pub has_fewer : ℕ → ℕ → End → ℕ → Way → Bool
has_fewer turns n e start w =
    nat_lt 0 (length ((w.rest.left n e).0 (start + w.depth)))
    && nat_lt (left_at (w.rest.left n e) (start + w.depth)) turns

-- one of these ways is such a one
abbrev pub any_has_fewer : ℕ → ℕ → End → ℕ → List Way → Bool
any_has_fewer turns n e start [] = false
any_has_fewer turns n e start (w ∷ ws) = has_fewer turns n e start w || any_has_fewer turns n e start ws

-- no way has more labels before it than there are, or than the one above it
abbrev pub rises : ℕ → List Way → Bool
rises depth [] = true
rises depth (w ∷ ws) = nat_le w.depth depth && rises w.depth ws

-- a way on a stack, if anything is left
abbrev pub pushed : ℕ → Option Rest → List Way → List Way
pushed depth None ws = ws
pushed depth (Some r) ws = (record { depth = depth; rest = r }) ∷ ws

-- the words of what is left, if anything is
abbrev pub option_words : ℕ → End → Option Rest → ℕ → List Mapping
option_words n e None i = []
option_words n e (Some r) i = (r.left n e).0 i

-- their turns
abbrev pub option_turns : ℕ → End → Option Rest → ℕ → ℕ
option_turns n e None i = 0
option_turns n e (Some r) i = (r.left n e).1 i

-- there is a first way, and this holds of it
abbrev pub OfFirst : (Way → Type 0) → List Way → Type 0
OfFirst P [] = ⊥
OfFirst P (w ∷ ws) = P w

-- what follows the row that the first way maps
abbrev pub first_later : List Way → ℕ → End → WordsAndTurns
first_later [] n e = no_way
first_later (w ∷ ws) n e = w.rest.later n e

-- the first of these ways has so many labels before it
pub record HasDepth (depth : ℕ) (ws : List Way) (below : List Way) : Type 0 where
  pub rest : Rest
  pub is : ws ≡ (record { depth = depth; rest = rest }) ∷ below

-- ---- what a way comes to when it is taken up

-- From this row it has these words, in as many turns.
pub record StandsFor (n : ℕ) (e : End) (i : ℕ) (p : WordsAndTurns) (r : Option Rest) : Type 0 where
  pub words : option_words n e r i ≡ p.0 i
  pub turns : option_turns n e r i ≡ p.1 i

-- A way has been put on others, with so many labels before it, that stands for these words and turns from a row.
pub record IsPut (p : ℕ → End → WordsAndTurns) (i depth : ℕ) (under new : List Way) : Type 0 where
  pub rest : Option Rest
  pub is : new ≡ pushed depth rest under
  pub stands : (n : ℕ) (e : End) → StandsFor n e i (p n e) rest

-- Two others have its words, and take fewer turns, over the known rows and whatever comes later.
pub record Splits (n : ℕ) (e : End) (i : ℕ) (r : Rest) (preferred other : Option Rest) : Type 0 where
  pub words : (n' : ℕ) (e' : End) → IsLater n e n' e' → option_words n' e' preferred i ++ option_words n' e' other i ≡ (r.left n' e').0 i
  pub turns : (n' : ℕ) (e' : End) → IsLater n e n' e' → option_turns n' e' preferred i + option_turns n' e' other i < (r.left n' e').1 i

-- They have been put in its place.
pub record GivesWay (n : ℕ) (e : End) (i : ℕ) (w : Way) (below new : List Way) : Type 0 where
  pub preferred : Option Rest
  pub other : Option Rest
  pub is : new ≡ pushed w.depth preferred (pushed w.depth other below)
  pub splits : Splits n e i w.rest preferred other

-- A known row is mapped, and what is later follows.
pub record TakesRow (n : ℕ) (e : End) (i : ℕ) (r : Rest) (l : Label) : Type 0 where
  pub known : i ≤ n
  pub words : (n' : ℕ) (e' : End) → n ≤ n' → (r.left n' e').0 i ≡ map (preceded (l ∷ [])) ((r.later n' e').0 (i + 1))
  pub turns : (n' : ℕ) (e' : End) → n ≤ n' → (r.left n' e').1 i ≡ 1 + (r.later n' e').1 (i + 1)

-- It runs into the row after the last known one, in one way or in more that are alike.
pub record Waits (n : ℕ) (e : End) (i : ℕ) (r : Rest) : Type 0 where
  pub end : e ≡ OpenEnd
  pub more : List Mapping
  pub alone : r.single ≡ true → more ≡ []
  pub alike : AllByRecursion (λ w. w ≡ Open []) more
  pub words : (r.left n e).0 i ≡ Open [] ∷ more
  pub turns : (n' : ℕ) (e' : End) → 0 < (r.left n' e').1 i

-- It is a full word.
abbrev pub IsDone : ℕ → Rest → Type 0
IsDone i r = (n : ℕ) (e : End) → (r.left n e).0 i ≡ Full [] ∷ []

-- What the first way of a stack came to at a row: it stays, or it gives way to others.
abbrev pub TakenUp : Type 0 → ℕ → End → ℕ → List Way → List Way → Expansion → Type 0
TakenUp Stays n e i [] new x = ⊥
TakenUp Stays n e i (w ∷ ws) new FullExpansion = Stays × IsDone i w.rest
TakenUp Stays n e i (w ∷ ws) new (RowExpansion l) = Stays × TakesRow n e i w.rest l
TakenUp Stays n e i (w ∷ ws) new OpenExpansion = Stays × Waits n e i w.rest
TakenUp Stays n e i (w ∷ ws) new SplitExpansion = GivesWay n e i w ws new

-- Where the first way gives way to others, the turns of all fall, but for what a split takes that hasn't failed.
abbrev pub SpendsWays : List Way → List Way → Expansion → Type 0
SpendsWays old new FullExpansion = Unit {0}
SpendsWays old new (RowExpansion l) = Unit {0}
SpendsWays old new OpenExpansion = Unit {0}
SpendsWays old new SplitExpansion = stack_cost new < stack_cost old + first_weight old
