-- Inside: what a search spends on a program that remembers where it failed: what it takes where each choice that splits has failed before,
-- and what the two sides of one that hasn't take.
use Rattle.std.specs.Prelude.{◌≡◌, ℕ, suc, ◌+◌, ◌<◌, List, [], ◌∷◌, ◌++◌, get_or, Option, Some, None}
use Rattle.rp_program.specs.declared.place.Place.{Place}
use Rattle.rp_program.specs.declared.place.Place.TheVariants.{Match, Row, Split, RowSplit, PartitionStart, PartitionEnd, Loop}
use Rattle.rp_program.specs.declared.program.Program.{Program}
use Rattle.rp_program.specs.declared.program.Instruction.{Instruction}
use Rattle.rp_program.specs.declared.program.Instruction.TheVariants as is
use Rattle.rp_program.specs.Drafts.{place_at}

-- the turns of a choice at a place where each split has failed, by how many follow the first of other places: one, and those of what
-- comes next
abbrev pub next_turns : List ℕ → ℕ → ℕ
next_turns following next = suc (get_or following next 0)

-- how many follow the first: none where it splits
abbrev pub following_of : List ℕ → Place → ℕ
following_of following Match = 0
following_of following (Row var excluded next) = next_turns following next
following_of following (Split preferred other) = 0
following_of following (RowSplit preferred other others) = 0
following_of following (PartitionStart next) = next_turns following next
following_of following (PartitionEnd None) = 0
following_of following (PartitionEnd (Some next)) = next_turns following next
following_of following (Loop preferred other body excluded reluctant next) = 0

-- the same of these places, behind those of earlier ones
abbrev pub following_behind : List ℕ → List Place → List ℕ
following_behind following [] = following
following_behind following (place ∷ places) = following_behind (following ++ following_of following place ∷ []) places

-- the same of each place
abbrev pub following_in : List Place → List ℕ
following_in places = following_behind [] places

-- the turns of both sides of a split, where each split in them has failed. None elsewhere.
abbrev pub sides_of : List ℕ → Place → ℕ
sides_of following (Split preferred other) = next_turns following preferred + next_turns following other
sides_of following (RowSplit preferred other others) = next_turns following preferred + next_turns following other
sides_of following (Loop preferred other body excluded reluctant next) = next_turns following preferred + next_turns following other
sides_of following _ = 0

-- how many turns a choice at a place takes, where each split that it comes to has failed before
unfoldable pub place_cost : Program → ℕ → ℕ
place_cost p place = next_turns (following_in p.places.items) place

-- how many turns more it takes, where it splits and hasn't failed: those of both sides
unfoldable pub place_weight : Program → ℕ → ℕ
place_weight p place = sides_of (following_in p.places.items) (place_at p.places.items place)

-- the turns of what is left at a place, if anything may follow
abbrev pub option_cost : Program → Option ℕ → ℕ
option_cost p None = 0
option_cost p (Some place) = place_cost p place

-- what an instruction takes at its place
abbrev pub TakesAs : Program → ℕ → Instruction → Type 0
TakesAs p place is.Match = place_weight p place ≡ 0
TakesAs p place (is.Row var excluded next) = place_weight p place ≡ 0
TakesAs p place (is.Split preferred other) = place_weight p place ≡ place_cost p preferred + place_cost p other
TakesAs p place (is.RowSplit preferred other) = place_weight p place ≡ place_cost p preferred + place_cost p other
TakesAs p place (is.PartitionStart next) = (place_weight p place ≡ 0) × (place_cost p next < place_cost p place)
TakesAs p place (is.PartitionEnd next) = (place_weight p place ≡ 0) × (option_cost p next < place_cost p place)
