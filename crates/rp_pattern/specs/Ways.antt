-- Inside: a stack of choices, however the pattern is kept: the ways to go on, and the words and turns of the pattern.
use Rattle.std.specs.Prelude.{◌≡◌, ℕ, zero, suc, ◌+◌, ◌<◌, List, [], ◌∷◌, drop, length, Option}
use Rattle.std.specs.declared.rc.Rc.{Rc}
use Rattle.std.specs.declared.alloc.Global.{Global}
use Rattle.rp_words.specs.declared.form.Form.{Form}
use Rattle.rp_words.specs.declared.word.End.{End}
use Rattle.rp_words.specs.Mapping.{Mapping}
use Rattle.rp_words.specs.Words.{words}
use Rattle.rp_words.specs.Turns.{WordsAndTurns, turns}
use Rattle.rp_program.specs.declared.program.Program.{Program}
use Rattle.rp_program.specs.Programs as programs
use Rattle.rp_program.specs.Costs.{place_cost, place_weight}
use Rattle.rp_pattern.specs.declared.machine.link.Link.{Link}
use Rattle.rp_pattern.specs.declared.compiled.TopSplit.{TopSplit}
use Rattle.rp_pattern.specs.declared.ways.Ways.{Ways}
use Rattle.rp_pattern.specs.declared.ways.Ways.TheVariants as ways
use Rattle.rp_pattern.specs.Rests.{Way, HasDepth, left_at}
use Rattle.rp_pattern.specs.Linked.{tail_chain, linked_ways}
use Rattle.rp_pattern.specs.Placed.{placed_ways}

-- how a pattern is kept: as linked parts, or as a program, beside its form
pub data Kept : Type 0 where
  Parts : Option (Rc Link Global) → Kept
  Places : Program → Form → Kept

-- how its pattern is kept
abbrev pub kept_of : Ways → Kept
kept_of (ways.Linked l) = Parts l.origin
kept_of (ways.Compiled c) = Places c.program.value c.form.value

-- the choices on the stack, the preferred one first
abbrev pub stack_of : Ways → List Way
stack_of (ways.Linked l) = linked_ways l.stack
stack_of (ways.Compiled c) = placed_ways c.program.value c.stack

-- the words of the pattern from each row, over the rows 1 to n and an end, and the turns that they take when it is gone through
abbrev pub origin : Kept → ℕ → End → WordsAndTurns
origin (Parts tail) n e = tail_chain tail n e
origin (Places p f) n e = (programs.place_words p n e (programs.first_place p), programs.place_turns p n e (programs.first_place p))

-- the turns that these words take at most: as many, or, of a program, as many as its pattern has
abbrev pub most_turns : Kept → ℕ → End → ℕ → ℕ
most_turns (Parts tail) n e row = (tail_chain tail n e).1 row
most_turns (Places p f) n e row = turns n e f row

-- the words of a place of the pattern from a row, over the rows 1 to n and that end. Linked parts have no places.
abbrev pub kept_place_words : Kept → ℕ → ℕ → End → ℕ → List Mapping
kept_place_words (Parts tail) place n e row = []
kept_place_words (Places p f) place n e row = programs.place_words p n e place row

-- its places are numbered
abbrev pub IsNumbered : Kept → Type 0
IsNumbered (Parts tail) = ⊥
IsNumbered (Places p f) = Unit {0}

-- how many places it has
abbrev pub kept_places : Kept → ℕ
kept_places (Parts tail) = 0
kept_places (Places p f) = programs.place_count p

-- how many turns both sides of a place take that splits, where each split in them has failed before. None at another place.
abbrev pub kept_weight : Kept → ℕ → ℕ
kept_weight (Parts tail) place = 0
kept_weight (Places p f) place = place_weight p place

-- the same of all its places
abbrev pub weight_below : ℕ → (ℕ → ℕ) → ℕ
weight_below zero weight = 0
weight_below (suc places) weight = weight_below places weight + weight places

abbrev pub all_weight : Kept → ℕ
all_weight k = weight_below (kept_places k) (kept_weight k)

-- how many turns the whole takes, where each split after the first choice has failed before
abbrev pub whole_cost : Kept → ℕ
whole_cost (Parts tail) = 3
whole_cost (Places p f) = place_cost p (programs.first_place p) + place_weight p (programs.first_place p)

-- the turns of a place of the pattern from a row at most, and one more for each of its words
abbrev pub kept_place_left : Kept → ℕ → ℕ → End → ℕ → ℕ
kept_place_left (Parts tail) place n e row = 0
kept_place_left (Places p f) place n e row = programs.place_turns p n e place row + length (programs.place_words p n e place row)

-- it keeps this pattern
pub record Keeps (f : Form) (k : Kept) : Type 0 where
  pub words : (n : ℕ) (e : End) (row : ℕ) → (origin k n e).0 row ≡ words n e f row
  pub turns : (n : ℕ) (e : End) (row : ℕ) → most_turns k n e row ≡ turns n e f row

-- The first way is at this place, and takes a turn.
pub record IsAtWayPlace (place : ℕ) (k : Kept) (ws : List Way) : Type 0 where
  pub way : Way
  pub below : List Way
  pub on : ws ≡ way ∷ below
  pub words : (n : ℕ) (e : End) (row : ℕ) → (way.rest.left n e).0 row ≡ kept_place_words k place n e row
  pub turns : (n : ℕ) (e : End) (row : ℕ) → 0 < (way.rest.left n e).1 row
  pub there : place < kept_places k
  pub takes : (n : ℕ) (e : End) (row : ℕ) → left_at (way.rest.left n e) row ≡ kept_place_left k place n e row
  pub weighs : way.rest.weight ≡ kept_weight k place

-- The first way is at the place of a split, behind as many labels and on as many others as it says.
pub record IsTopSplit (k : Kept) (ws : List Way) (s : TopSplit) : Type 0 where
  pub at : IsAtWayPlace s.place k ws
  pub depth : HasDepth s.depth ws (drop 1 ws)
  pub height : s.height + 1 ≡ length ws
