-- What the conditions of a query depend on: on the row that is judged, or also on the first row of the match, which a variable
-- may name. The row that is
-- judged is mapped to the variable whose condition it is, and is the last of the match so far.
use Rattle.std.specs.Prelude.{◌≡◌, ℕ, Bool, true, false, ◌&&◌, ◌||◌, List, Option, None, Some, slice_get, nat_eq}
use Rattle.std.specs.List.{list_all}
use Rattle.rp_query.specs.declared.locality.Leader.{Leader}
use Rattle.rp_query.specs.declared.locality.Locality.{Locality}
use Rattle.rp_query.specs.declared.locality.Locality.TheVariants.{Row, Span, Led}
use Rattle.rp_query.specs.declared.plan.Condition.{Condition}
use Rattle.rp_query.specs.declared.plan.Edge.{Edge}
use Rattle.rp_query.specs.declared.plan.Edge.TheVariants.{First, Last}
use Rattle.rp_query.specs.declared.plan.Navigation.{Navigation}
use Rattle.rp_query.specs.declared.plan.RowsOf.{RowsOf}
use Rattle.rp_query.specs.declared.plan.RowsOf.TheVariants.{Universal, Listed}
use Rattle.rp_query.specs.declared.plan.Total.{Total}
use Rattle.rp_query.specs.declared.plan.Variables.{Variables}
use Rattle.rp_query.specs.declared.plan.Variables.TheVariants as variables
use Rattle.rp_query.specs.declared.query.Plan.{Plan}
use Rattle.rp_words.specs.Leading.{leads, stands_once}
use Rattle.rp_words.specs.declared.form.Form.{Form}
use Rattle.rp_query.specs.Allowed.{each_leaf}
use Rattle.rp_query.specs.Definitions.{definition_of}
use Rattle.rp_query.specs.Formulas.{Formula, Cell, Aggregated, condition_formula}
use Rattle.rp_query.specs.Kinds.{lists_rows}
use Rattle.rp_query.specs.Scopes.{includes}

-- the last of some rows is meant
abbrev pub is_last : Edge → ℕ → Bool
is_last First places = false
is_last Last places = nat_eq places 0

-- it lists each row that is mapped to the variable
abbrev pub lists_rows_of : ℕ → Option Total → Bool
lists_rows_of variable None = false
lists_rows_of variable (Some t) = lists_rows t.function && includes t.variables variable

-- a row that is mapped to the variable is one of these
abbrev pub has_own_row : List Total → ℕ → RowsOf → Bool
has_own_row totals variable Universal = true
has_own_row totals variable (Listed number) = lists_rows_of variable (slice_get totals number)

-- it goes from the row that is judged
abbrev pub goes_from_own_row : List Total → ℕ → Navigation → Bool
goes_from_own_row totals variable n = is_last n.edge n.places && has_own_row totals variable n.rows_of

abbrev pub is_every_row : RowsOf → Bool
is_every_row Universal = true
is_every_row (Listed number) = false

abbrev pub is_universal : Variables → Bool
is_universal variables.Universal = true
is_universal (variables.Among members) = false

abbrev pub is_of_every_row : Option Total → Bool
is_of_every_row None = false
is_of_every_row (Some t) = is_universal t.variables

-- the first of some rows is meant
abbrev pub is_first : Edge → ℕ → Bool
is_first First places = nat_eq places 0
is_first Last places = false

abbrev pub is_only : ℕ → Variables → Bool
is_only variable variables.Universal = false
is_only variable (variables.Among members) = list_all (nat_eq variable) members.items

abbrev pub is_of_only : ℕ → Option Total → Bool
is_of_only variable None = false
is_of_only variable (Some t) = is_only variable t.variables

-- no row of another variable is one of these
abbrev pub has_no_other : List Total → ℕ → RowsOf → Bool
has_no_other totals variable Universal = false
has_no_other totals variable (Listed number) = is_of_only variable (slice_get totals number)

-- A navigation goes from the first row of the match, where that is mapped to this variable: it goes from the first of some
-- rows that have it, or where no other row is mapped to the variable, from the only one.
abbrev pub goes_from_leader : ℕ → Bool → List Total → Navigation → Bool
goes_from_leader variable alone totals n =
    has_own_row totals variable n.rows_of
    && (is_first n.edge n.places || alone && nat_eq n.places 0 && has_no_other totals variable n.rows_of)

-- a navigation goes from the row that is judged, or from a place among all rows of the match
abbrev pub navigates_in_span : List Total → ℕ → Navigation → Bool
navigates_in_span totals variable n = goes_from_own_row totals variable n || is_every_row n.rows_of

abbrev pub navigates_in : Locality → List Total → ℕ → Navigation → Bool
navigates_in Row totals variable n = goes_from_own_row totals variable n
navigates_in Span totals variable n = navigates_in_span totals variable n
navigates_in (Led leader alone) totals variable n = navigates_in_span totals variable n || goes_from_leader leader alone totals n

-- an aggregate is of all rows of the match
abbrev pub aggregates_in : Locality → Option Total → Bool
aggregates_in Row total = false
aggregates_in Span total = is_of_every_row total
aggregates_in (Led leader alone) total = is_of_every_row total

abbrev pub looks_in : Locality → List Total → ℕ → Formula → Bool
looks_in l totals variable (Cell n) = navigates_in l totals variable n
looks_in l totals variable (Aggregated number is_final) = aggregates_in l (slice_get totals number)
looks_in l totals variable f = true

-- a condition of this variable, or a value in it, depends on no more
abbrev pub is_local : Locality → List Total → ℕ → Formula → Bool
is_local l totals variable f = each_leaf (looks_in l totals variable) f

-- a variable without a condition depends on nothing
abbrev pub is_local_where_defined : Locality → List Total → ℕ → Option Condition → Bool
is_local_where_defined l totals variable None = true
is_local_where_defined l totals variable (Some c) = is_local l totals variable (condition_formula c)

abbrev pub judges_locally : Locality → Plan → ℕ → Bool
judges_locally l plan variable = is_local_where_defined l plan.totals.value.items variable (definition_of plan variable)

-- no condition of DEFINE depends on more
abbrev pub ConditionsAreLocal : Locality → Plan → Type 0
ConditionsAreLocal l plan = (variable : ℕ) → judges_locally l plan variable ≡ true

-- Each match of the pattern begins with a row of the leader's variable, and where it stands alone, maps no other row to it.
abbrev pub IsLeaderOf : Form → Leader → Type 0
IsLeaderOf f l = (leads l.variable f ≡ true) × (l.alone ≡ stands_once l.variable f)
