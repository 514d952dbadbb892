-- Inside: what a program says: from each place and row it has words, which depend on the place and the row alone.
use Rattle.std.specs.Prelude.{◌≡◌, ℕ, ◌+◌, ◌<◌, ◌≤◌, List, [], ◌∷◌, ◌++◌, map, length, Option, Some, None, ⊤}
use Rattle.std.specs.List.{AllByRecursion}
use Rattle.rp_words.specs.declared.form.Form.{Form}
use Rattle.rp_words.specs.declared.word.End.{End}
use Rattle.rp_words.specs.declared.word.End.TheVariants.{Open as OpenEnd, Closed as ClosedEnd}
use Rattle.rp_words.specs.declared.word.Label.{Label}
use Rattle.rp_words.specs.Mapping.{Mapping, Full, Open, preceded}
use Rattle.rp_words.specs.Words.{words}
use Rattle.rp_words.specs.Turns.{turns}
use Rattle.rp_program.specs.declared.place.Place.{Place}
use Rattle.rp_program.specs.declared.place.Place.TheVariants.{Row}
use Rattle.rp_program.specs.declared.program.Program.{Program}
use Rattle.rp_program.specs.declared.program.Instruction.{Instruction}
use Rattle.rp_program.specs.declared.program.Instruction.TheVariants as is
use Rattle.rp_program.specs.Places.{at, parts}
use Rattle.rp_program.specs.Drafts.{place_at}

-- how many places it has, which are numbered from 0
unfoldable pub place_count : Program → ℕ
place_count p = length p.places.items

-- it is the number of a place of the program
abbrev pub IsPlace : Program → ℕ → Type 0
IsPlace p place = place < place_count p

-- the place that a search begins with
unfoldable pub first_place : Program → ℕ
first_place p = p.first

-- the words from that row on, over the rows 1 to n and that end, of what is left of the pattern at a place
unfoldable pub place_words : Program → ℕ → End → ℕ → ℕ → List Mapping
place_words p n e place row = (at (parts n e p.places.items) place).0 row

-- how many turns these words take at most
unfoldable pub place_turns : Program → ℕ → End → ℕ → ℕ → ℕ
place_turns p n e place row = (at (parts n e p.places.items) place).1 row

-- what follows the row that a place maps, if it maps one
abbrev pub row_next : Place → Option ℕ
row_next (Row var excluded next) = Some next
row_next _ = None

-- the same, of a place of the program
unfoldable pub next_place : Program → ℕ → Option ℕ
next_place p place = row_next (place_at p.places.items place)

-- From each row the first place has the words of the pattern, and takes no more turns.
pub record IsProgramOf (f : Form) (p : Program) : Type 0 where
  pub first : IsPlace p (first_place p)
  pub words : (n : ℕ) (e : End) (row : ℕ) → place_words p n e (first_place p) row ≡ words n e f row
  pub turns : (n : ℕ) (e : End) (row : ℕ) → place_turns p n e (first_place p) row ≤ turns n e f row

-- One word, which maps no row.
abbrev pub IsMatch : Program → ℕ → Type 0
IsMatch p place = (n : ℕ) (e : End) (row : ℕ) → place_words p n e place row ≡ Full [] ∷ []

-- A known row is mapped, and what is left follows. Past the last known row it waits for one, or there are no words.
pub record IsRow (p : Program) (place : ℕ) (l : Label) (next : ℕ) : Type 0 where
  pub there : IsPlace p next
  pub follows : next_place p place ≡ Some next
  pub words : (n : ℕ) (e : End) (row : ℕ) → row ≤ n → place_words p n e place row ≡ map (preceded (l ∷ [])) (place_words p n e next (row + 1))
  pub turns : (n : ℕ) (e : End) (row : ℕ) → row ≤ n → place_turns p n e place row ≡ 1 + place_turns p n e next (row + 1)
  pub waits : (n : ℕ) (row : ℕ) → n < row → place_words p n OpenEnd place row ≡ Open [] ∷ []
  pub closed : (n : ℕ) (row : ℕ) → n < row → place_words p n ClosedEnd place row ≡ []
  pub some : (n : ℕ) (e : End) (row : ℕ) → 0 < place_turns p n e place row

-- The words of two places, those of the preferred one first. Together they take fewer turns.
pub record IsSplit (p : Program) (place preferred other : ℕ) : Type 0 where
  pub there : IsPlace p preferred
  pub other_there : IsPlace p other
  pub words : (n : ℕ) (e : End) (row : ℕ) → place_words p n e place row ≡ place_words p n e preferred row ++ place_words p n e other row
  pub turns : (n : ℕ) (e : End) (row : ℕ) → place_turns p n e preferred row + place_turns p n e other row < place_turns p n e place row

-- From a known row it has the words of two places, those of the preferred one first; together they take fewer turns.
-- Past the last known row it waits for one, in one way or in more that are alike, or there are no words.
pub record IsRowSplit (p : Program) (place preferred other : ℕ) : Type 0 where
  pub there : IsPlace p preferred
  pub other_there : IsPlace p other
  pub words : (n : ℕ) (e : End) (row : ℕ) → row ≤ n → place_words p n e place row ≡ place_words p n e preferred row ++ place_words p n e other row
  pub turns : (n : ℕ) (e : End) (row : ℕ) → row ≤ n → place_turns p n e preferred row + place_turns p n e other row < place_turns p n e place row
  pub more : List Mapping
  pub alike : AllByRecursion (λ w. w ≡ Open []) more
  pub waits : (n : ℕ) (row : ℕ) → n < row → place_words p n OpenEnd place row ≡ Open [] ∷ more
  pub closed : (n : ℕ) (row : ℕ) → n < row → place_words p n ClosedEnd place row ≡ []
  pub some : (n : ℕ) (e : End) (row : ℕ) → 0 < place_turns p n e place row

-- At row 1 what is left follows, in fewer turns. From no other row are there words.
pub record IsStart (p : Program) (place next : ℕ) : Type 0 where
  pub there : IsPlace p next
  pub words : (n : ℕ) (e : End) → place_words p n e place 1 ≡ place_words p n e next 1
  pub turns : (n : ℕ) (e : End) → place_turns p n e next 1 < place_turns p n e place 1
  pub none : (n : ℕ) (e : End) (row : ℕ) → (row ≡ 1 → ⊥) → place_words p n e place row ≡ []
  pub some : (n : ℕ) (e : End) (row : ℕ) → 0 < place_turns p n e place row

-- the place, if there is one, is one of the program
abbrev pub IsPlaceOption : Program → Option ℕ → Type 0
IsPlaceOption p None = ⊤
IsPlaceOption p (Some place) = IsPlace p place

-- the words of what is left at a place, if anything may follow
abbrev pub option_words : Program → ℕ → End → Option ℕ → ℕ → List Mapping
option_words p n e None row = []
option_words p n e (Some place) row = place_words p n e place row

-- their turns
abbrev pub option_turns : Program → ℕ → End → Option ℕ → ℕ → ℕ
option_turns p n e None row = 0
option_turns p n e (Some place) row = place_turns p n e place row

-- Past the last row of a closed partition what is left follows, if anything may, in fewer turns. Past the last known row
-- of an open one it waits, and from a known row there are no words.
pub record IsEnd (p : Program) (place : ℕ) (next : Option ℕ) : Type 0 where
  pub there : IsPlaceOption p next
  pub words : (n : ℕ) (row : ℕ) → n < row → place_words p n ClosedEnd place row ≡ option_words p n ClosedEnd next row
  pub turns : (n : ℕ) (row : ℕ) → n < row → option_turns p n ClosedEnd next row < place_turns p n ClosedEnd place row
  pub waits : (n : ℕ) (row : ℕ) → n < row → place_words p n OpenEnd place row ≡ Open [] ∷ []
  pub none : (n : ℕ) (e : End) (row : ℕ) → row ≤ n → place_words p n e place row ≡ []
  pub some : (n : ℕ) (e : End) (row : ℕ) → 0 < place_turns p n e place row

-- what an instruction says of its place
abbrev pub StandsAs : Program → ℕ → Instruction → Type 0
StandsAs p place is.Match = IsMatch p place
StandsAs p place (is.Row var excluded next) = IsRow p place (record { var = var; excluded = excluded }) next
StandsAs p place (is.Split preferred other) = IsSplit p place preferred other
StandsAs p place (is.RowSplit preferred other) = IsRowSplit p place preferred other
StandsAs p place (is.PartitionStart next) = IsStart p place next
StandsAs p place (is.PartitionEnd next) = IsEnd p place next
