-- Where the marks of a drawing stand.
use Rattle.std.specs.Prelude.{◌≡◌, ℕ, ◌<◌, ◌^◌, false, List, max}
use Rattle.unicode_width.specs.Width.{str_width}
use Rattle.rp_place.specs.Shown.{shown_part}
use Rattle.rp_place.specs.Drawn.{before_marks, before_place, marks}

-- The first mark stands under the place: before it there are as many columns as before the place in the line above.
abbrev pub StandUnderTheirPlace : Type 0
StandUnderTheirPlace = (line : ℕ) (front : List ℕ) → line < 2 ^ 64
    → str_width false (before_marks line front) ≡ str_width false (before_place line front)

-- The marks take as many columns as what is meant, and one where that takes none.
abbrev pub AreAsWideAsTheirPart : Type 0
AreAsWideAsTheirPart = (part : List ℕ) → str_width false (marks part) ≡ max 1 (str_width false (shown_part part))
