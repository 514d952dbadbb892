-- Inside: which places an outlook has come to.
use Rattle.std.specs.Prelude.{◌≡◌, ℕ, ◌+◌, ◌<◌, Bool, IsTrue, true, false, List, length, Option, Some, None, slice_get}
use Rattle.rp_pattern.specs.declared.visited.VisitedPlaces.{VisitedPlaces}
use Rattle.rp_pattern.specs.declared.visited.Visited.{Visited}
use Rattle.rp_words.specs.Later.{AtEachLater}
use Rattle.rp_pattern.specs.Rests.{Way, any_has_fewer}
use Rattle.rp_pattern.specs.Ways.{Kept, kept_place_words, kept_place_left}

-- whether a flag is there and set
abbrev pub is_set : Option Bool → Bool
is_set None = false
is_set (Some flag) = flag

-- whether the place is among those that were come to behind one number of labels
abbrev pub has_place : VisitedPlaces → ℕ → Bool
has_place places place = is_set (slice_get places.flags.items place)

-- the same, if any were
abbrev pub has_in : Option VisitedPlaces → ℕ → Bool
has_in None place = false
has_in (Some places) place = has_place places place

-- whether the place was come to behind so many labels
unfoldable pub was_at : Visited → ℕ → ℕ → Bool
was_at visited place depth = has_in (slice_get visited.depths.items depth) place

-- the same of a place, if there is one
abbrev pub was_at_option : Visited → Option ℕ → ℕ → Bool
was_at_option visited None depth = false
was_at_option visited (Some place) depth = was_at visited place depth

-- Each place that was come to is served by these ways: over the known rows and whatever comes later, if it has a word,
-- one of the ways has one too, and fewer turns are left for that way than for the place.
abbrev pub AreServed : Visited → Kept → ℕ → List Way → Type 0
AreServed visited kept start ws = AtEachLater visited.known visited.end (λ n e.
    (place depth : ℕ) → was_at visited place depth ≡ true →
    0 < length (kept_place_words kept place n e (start + depth)) →
    IsTrue (any_has_fewer (kept_place_left kept place n e (start + depth)) n e start ws))
