-- The laws of nodes, for the query of every checked clause.
use Rattle.std.specs.Prelude.{◌≡◌, ℕ, List, Contains}
use Rattle.rp_query.specs.declared.query.QueryData.{QueryData}
use Rattle.rp_query.specs.Sound.{IsSound}
use Rattle.rp_query.specs.declared.item.Item.{Item}
use Rattle.rp_schedules.specs.Schedules.{Schedule, GivesFront, World, Standing, Event, Done, Gives}
use Rattle.rp_schedules.specs.Records.{Row, known_of_rows, RecordsStay, Nodes, Runs, RunGivesFront}

-- Of every schedule, at each node and key.
abbrev pub SchedulesGiveFronts : Type 0 → Type 0
SchedulesGiveFronts Key =
    (q : QueryData) (whole : Key → List Row) (events : List (Event Key Item)) (w : World Key Standing)
    (a : ℕ) (key : Key)
    → IsSound q → Schedule (known_of_rows q) whole events w → GivesFront (known_of_rows q) whole events w a key

-- A record that fits stays fit.
abbrev pub FittingStays : Type 0
FittingStays = (q : QueryData) (whole : List Row) → IsSound q → RecordsStay q whole

-- Of every run of nodes, at each node and key.
abbrev pub RunsGiveFronts : Type 0 → Type 0
RunsGiveFronts Key =
    (q : QueryData) (whole : Key → List Row) (events : List (Event Key Item)) (nodes : Nodes Key) (a : ℕ) (key : Key)
    → IsSound q → Runs q whole events nodes → RunGivesFront q whole events nodes a key

-- Two nodes give no two items at one place.
abbrev pub NodesAgree : Type 0 → Type 0
NodesAgree Key =
    (q : QueryData) (whole : Key → List Row) (events : List (Event Key Item)) (nodes : Nodes Key)
    (a b : ℕ) (key : Key) (place : ℕ) (x y : Item)
    → IsSound q → Runs q whole events nodes → Contains events (Done a key (Gives place x))
    → Contains events (Done b key (Gives place y)) → x ≡ y
