-- Inside: choices at places of a program.
use Rattle.std.specs.Prelude.{◌≡◌, ℕ, ◌<◌, Bool, true, false, ◌&&◌, List, [], ◌∷◌, map, length, nat_lt, Option, Some, None}
use Rattle.rp_words.specs.declared.word.End.{End}
use Rattle.rp_program.specs.declared.program.Program.{Program}
use Rattle.rp_program.specs.Programs.{place_count, place_words, place_turns, next_place, option_words, option_turns}
use Rattle.rp_program.specs.Costs.{place_cost, place_weight}
use Rattle.rp_pattern.specs.declared.compiled.PlacedChoice.{PlacedChoice}
use Rattle.rp_pattern.specs.declared.compiled.TopSplit.{TopSplit}
use Rattle.rp_pattern.specs.Rests.{Rest, Way}

-- each of them is at one of the first k places
abbrev pub are_placed : ℕ → List PlacedChoice → Bool
are_placed k [] = true
are_placed k (c ∷ cs) = nat_lt c.place k && are_placed k cs

-- what is left of the pattern at a place, and after the row that it maps
abbrev pub place_rest : Program → ℕ → Rest
place_rest p place = record {
  left = λ n e. (place_words p n e place, place_turns p n e place);
  later = λ n e. (option_words p n e (next_place p place), option_turns p n e (next_place p place));
  cost = place_cost p place;
  weight = place_weight p place;
  single = false;
}

-- the choices, as ways to go on
abbrev pub placed_ways : Program → List PlacedChoice → List Way
placed_ways p cs = map (λ c. record { depth = c.depth; rest = place_rest p c.place }) cs

-- a choice on others, if there is a place
abbrev pub placed : ℕ → Option ℕ → List PlacedChoice → List PlacedChoice
placed depth None cs = cs
placed depth (Some q) cs = (record { depth = depth; place = q }) ∷ cs

-- The first choice is at this place, behind so many labels and on so many others, and the place takes a turn.
pub record IsAtSplit (p : Program) (cs : List PlacedChoice) (s : TopSplit) : Type 0 where
  pub below : List PlacedChoice
  pub on : cs ≡ (record { depth = s.depth; place = s.place }) ∷ below
  pub height : length below ≡ s.height
  pub there : s.place < place_count p
  pub turns : (n : ℕ) (e : End) (row : ℕ) → 0 < place_turns p n e s.place row
