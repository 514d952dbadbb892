-- Which rows a condition looks at beside its own.
use Rattle.std.specs.Prelude.{ℕ, max, Bool, true, false, ◌||◌, List, Option, None, Some}
use Rattle.rp_query.specs.declared.locality.Leader.{Leader}
use Rattle.rp_query.specs.declared.plan.Navigation.{Navigation}
use Rattle.rp_query.specs.declared.plan.Step.{Step}
use Rattle.rp_query.specs.declared.plan.Step.TheVariants.{Back, Ahead}
use Rattle.rp_query.specs.declared.plan.Total.{Total}
use Rattle.rp_query.specs.Formulas.{Formula, Literal, Cell, Aggregated, MatchNumber, Classifier, Arithmetic}
use Rattle.rp_query.specs.Formulas.{Compare, IsNull, Not, And, Or}
use Rattle.rp_query.specs.Locality.{goes_from_own_row, goes_from_leader}
use Rattle.rp_query.specs.Reach.{rows_back}
use Rattle.rp_describe.specs.declared.looks.Looks.{Looks}

-- at its own row alone
abbrev pub own_row : Looks
own_row = record { back = 0; ahead = 0; first = false; elsewhere = false }

-- at what both look at
abbrev pub together : Looks → Looks → Looks
together a b =
    record {
      back = max a.back b.back;
      ahead = max a.ahead b.ahead;
      first = a.first || b.first;
      elsewhere = a.elsewhere || b.elsewhere;
    }

abbrev pub rows_ahead : Step → ℕ
rows_ahead (Back k) = 0
rows_ahead (Ahead k) = k

-- so many rows from its own row, from the first row of the match, or from another
abbrev pub looks_from : Bool → Bool → Step → Looks
looks_from true is_first step =
    record { back = rows_back step; ahead = rows_ahead step; first = false; elsewhere = false }
looks_from false true step = record { back = 0; ahead = rows_ahead step; first = true; elsewhere = false }
looks_from false false step = record { back = 0; ahead = rows_ahead step; first = false; elsewhere = true }

-- a navigation goes from the first row of the match, by the variable that leads, if one is known
abbrev pub leads_to : Option Leader → List Total → Navigation → Bool
leads_to None totals n = false
leads_to (Some lead) totals n = goes_from_leader lead.variable lead.alone totals n

abbrev pub looks_by : Option Leader → List Total → ℕ → Navigation → Looks
looks_by lead totals variable n = looks_from (goes_from_own_row totals variable n) (leads_to lead totals n) n.step

-- a condition of this variable looks at what its navigations look at, and by an aggregate at other rows of the match
abbrev pub looks_of : Option Leader → List Total → ℕ → Formula → Looks
looks_of lead totals variable (Literal v) = own_row
looks_of lead totals variable (Cell n) = looks_by lead totals variable n
looks_of lead totals variable (Aggregated number is_final) =
    record { back = 0; ahead = 0; first = false; elsewhere = true }
looks_of lead totals variable MatchNumber = own_row
looks_of lead totals variable (Classifier names) = own_row
looks_of lead totals variable (Arithmetic o a b) =
    together (looks_of lead totals variable a) (looks_of lead totals variable b)
looks_of lead totals variable (Compare c a b) =
    together (looks_of lead totals variable a) (looks_of lead totals variable b)
looks_of lead totals variable (IsNull a) = looks_of lead totals variable a
looks_of lead totals variable (Not a) = looks_of lead totals variable a
looks_of lead totals variable (And a b) =
    together (looks_of lead totals variable a) (looks_of lead totals variable b)
looks_of lead totals variable (Or a b) =
    together (looks_of lead totals variable a) (looks_of lead totals variable b)
