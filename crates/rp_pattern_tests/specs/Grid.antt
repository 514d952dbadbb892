-- For the tests alone: what is written down for rows and variables, and when a row's test is open.
use Rattle.std.specs.Prelude.{ℕ, ◌+◌, ◌-◌, Bool, true, false, ◌&&◌, ◌==◌, List, length, nat_lt, Option, Some, None, if◌then◌else◌, slice_get}
use Rattle.rp_words.specs.declared.form.Form.{Form}
use Rattle.rp_words.specs.declared.word.Label.{Label}
use Rattle.rp_words.specs.declared.word.End.{End}
use Rattle.rp_words.specs.declared.word.End.TheVariants.{Open as OpenEnd, Closed as ClosedEnd}
use Rattle.rp_words.specs.declared.word.Seen.{Seen}
use Rattle.rp_words.specs.declared.word.Seen.TheVariants.{True, NotTrue, Open as OpenTest}
use Rattle.rp_search.specs.Asked.{Asked}

-- whether further rows may come
abbrev pub may_go_on : End → Bool
may_go_on OpenEnd = true
may_go_on ClosedEnd = false

-- open, or what is seen otherwise
abbrev pub open_if : Bool → Seen → Seen
open_if true seen = OpenTest
open_if false seen = seen

-- what is written down, where an open one is true from the close on, and so is a row without one
abbrev pub written : Bool → Option Seen → Seen
written waits None = True
written waits (Some True) = True
written waits (Some NotTrue) = NotTrue
written waits (Some OpenTest) = open_if waits True

-- A's test is open where it reaches past the known rows
abbrev pub row_answer : List Seen → List Seen → ℕ → ℕ → End → ℕ → ℕ → Seen
row_answer first second reach known e row var =
    if var == 0
    then open_if (may_go_on e && nat_lt (known - row) reach) (written (may_go_on e) (slice_get first row))
    else written (may_go_on e) (slice_get second row)

-- what is answered for the variable of the last label
abbrev pub last_answer : (ℕ → Seen) → Option Label → Seen
last_answer answer None = NotTrue
last_answer answer (Some l) = answer l.var

-- the answer for the last label at its row
abbrev pub grid_outcome : List Seen → List Seen → ℕ → ℕ → End → ℕ → List Label → Seen
grid_outcome first second reach known e start labels = last_answer (row_answer first second reach known e (start + length labels - 1)) (slice_get labels (length labels - 1))

-- two variables are tested, of this pattern, if one is named
abbrev pub grid_asked : List Seen → List Seen → ℕ → ℕ → End → Option Form → Asked
grid_asked first second reach known e named =
    record { known = known; end = e; variables = 2; outcome = grid_outcome first second reach known e; pattern = named }
