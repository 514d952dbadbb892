-- What two queries that are the same agree on: the known answer, where its walk comes to, and the records that fit.
use Rattle.std.specs.Prelude.{◌≡◌, ◌↔◌, ℕ, List}
use Rattle.rp_value.specs.declared.value.Value.{Value}
use Rattle.rp_query.specs.declared.query.QueryData.{QueryData}
use Rattle.rp_query.specs.Keys.{key_of, key_kinds}
use Rattle.rp_query.specs.Sound.{IsSound}
use Rattle.rp_same_query.specs.SameQuery.{IsSameQuery}
use Rattle.rp_known.specs.declared.place.Place.{Place}
use Rattle.rp_known.specs.Known.{Known}
use Rattle.rp_known.specs.Plans.{first_read}
use Rattle.rp_known.specs.Walk.{known, ComesTo}
use Rattle.rp_query.specs.declared.item.Item.{Item}
use Rattle.rp_schedules.specs.Schedules.{Event}
use Rattle.rp_schedules.specs.Records.{Row, Held, Fits, Nodes, Calls}

-- They are the same either way round.
abbrev pub SameEitherWay : Type 0
SameEitherWay = (q r : QueryData) → IsSameQuery q r → IsSameQuery r q

-- What is known of a partition is the same, and so is the answer on a whole one.
abbrev pub KnownIsSame : Type 0
KnownIsSame = (q r : QueryData) (p : Known) → IsSameQuery q r → IsSound q → IsSound r → known r p ≡ known q p

-- The walks come to the same places.
abbrev pub WalkIsSame : Type 0
WalkIsSame =
    (q r : QueryData) (p : Known) (d : ℕ) (from to : Place) → IsSameQuery q r → IsSound q → IsSound r
    → ComesTo q p from d to ↔ ComesTo r p from d to

-- A record fits a whole partition by the one exactly where it does by the other.
abbrev pub FitIsSame : Type 0
FitIsSame =
    (q r : QueryData) (whole : List Row) (held : Held) → IsSameQuery q r → IsSound q → IsSound r
    → Fits q whole held ↔ Fits r whole held

-- What a call does by the one it does by the other.
abbrev pub CallsAreSame : Type 0 → Type 0
CallsAreSame Key =
    (q r : QueryData) (whole : Key → List Row) (old new : Nodes Key) (e : Event Key Item) → IsSameQuery q r → IsSound q → IsSound r
    → Calls q whole old e new ↔ Calls r whole old e new

-- A row has the same key.
abbrev pub KeyIsSame : Type 0
KeyIsSame = (q r : QueryData) (row : List Value) → IsSameQuery q r → key_of r row ≡ key_of q row

-- The values of a key have the same kinds.
abbrev pub KindsAreSame : Type 0
KindsAreSame = (q r : QueryData) → IsSameQuery q r → key_kinds r ≡ key_kinds q

-- The first row that is read for a match from a row on is the same.
abbrev pub FirstReadIsSame : Type 0
FirstReadIsSame = (q r : QueryData) (start : ℕ) → IsSameQuery q r → first_read r start ≡ first_read q start
