-- The faults of an expression, in the order in which they are looked for.
use Rattle.std.specs.Prelude.{ℕ, nat_le, Bool, true, false, not, ◌&&◌, List, [], ◌∷◌, ◌++◌, Option, None, Some, is_some}
use Rattle.rp_grammar.specs.declared.written.Name.{Name}
use Rattle.rp_tree.specs.declared.tree.Column.{Column}
use Rattle.rp_tree.specs.declared.tree.Scope.{Scope}
use Rattle.rp_tree.specs.declared.tree.Offset.{Offset}
use Rattle.rp_tree.specs.declared.tree.Movement.{Movement}
use Rattle.rp_tree.specs.declared.tree.Movement.TheVariants.{Prev, Next, First, Last}
use Rattle.rp_tree.specs.declared.tree.Aggregate.{Aggregate}
use Rattle.rp_tree.specs.declared.tree.AggregateFunction.{AggregateFunction}
use Rattle.rp_tree.specs.declared.tree.AggregateFunction.TheVariants.{Count, Sum, Min, Max}
use Rattle.rp_tree.specs.declared.tree.Counted.{Counted}
use Rattle.rp_tree.specs.declared.tree.Counted.TheVariants as counted
use Rattle.rp_tree.specs.Paths.{Path, At, Move}
use Rattle.rp_tree.specs.Terms.{Term, Number, Literal, Navigation, Aggregated, MatchNumber, Classifier, Negative, Not, IsNull, Operate}
use Rattle.rp_resolution.specs.declared.fault.Fault.{Fault}
use Rattle.rp_resolution.specs.declared.fault.CheckKind.{CheckKind}
use Rattle.rp_resolution.specs.declared.fault.CheckKind.TheVariants.{UnknownColumn, UnknownVariable, KindMismatch, FinalInDefine, NestedNavigation, BadBounds, MeasureOnly}
use Rattle.rp_resolution.specs.Context.{Context, members_named, column_named}
use Rattle.rp_resolution.specs.Sorts.{sort_of, column_sort, may_be_number, may_be_value, may_be_condition, takes}

-- no fault where the test holds
abbrev pub unless : Bool → CheckKind → ℕ → List Fault
unless true kind at = []
unless false kind at = record { kind = kind; offset = at } ∷ []

-- a name that must be a pattern variable or a union
abbrev pub variable_faults : Context → Name → List Fault
variable_faults x name = unless (is_some (members_named name.text x.sets)) UnknownVariable name.at

abbrev pub qualifier_faults : Context → Option Name → List Fault
qualifier_faults x None = []
qualifier_faults x (Some name) = variable_faults x name

-- the qualifier, and then the column
abbrev pub column_faults : Context → Column → List Fault
column_faults x c =
    qualifier_faults x c.qualifier
    ++ unless (is_some (column_named c.name.text x.columns)) UnknownColumn c.name.at

abbrev pub scope_faults : Context → Option Scope → List Fault
scope_faults x None = []
scope_faults x (Some scope) = unless (not (scope.is_final && x.in_define)) FinalInDefine scope.at

-- RUNNING or FINAL before a navigation
abbrev pub scope_in : Movement → Option Scope
scope_in Prev = None
scope_in Next = None
scope_in (First scope) = scope
scope_in (Last scope) = scope

-- whether a navigation may stand directly in another: FIRST and LAST in PREV and NEXT
abbrev pub is_step : Movement → Bool
is_step Prev = true
is_step Next = true
is_step (First scope) = false
is_step (Last scope) = false

abbrev pub may_hold : Movement → Movement → Bool
may_hold outer inner = is_step outer && not (is_step inner)

abbrev pub nesting_faults : Movement → Path → List Fault
nesting_faults outer (At c) = []
nesting_faults outer (Move inner at argument offset) = unless (may_hold outer inner) NestedNavigation at

abbrev pub offset_faults : Option Offset → List Fault
offset_faults None = []
offset_faults (Some offset) = unless (nat_le offset.rows 1000) BadBounds offset.at

-- FINAL, the inner navigation, the argument, and then the offset
abbrev pub path_faults : Context → Path → List Fault
path_faults x (At c) = column_faults x c
path_faults x (Move movement at argument offset) =
    scope_faults x (scope_in movement)
    ++ (nesting_faults movement argument
    ++ (path_faults x argument
    ++ offset_faults offset))

abbrev pub counted_faults : Context → Counted → List Fault
counted_faults x counted.Rows = []
counted_faults x (counted.RowsOf name) = variable_faults x name
counted_faults x (counted.Column c) = column_faults x c

-- the argument, and then SUM, which takes whole numbers
abbrev pub sum_faults : Context → ℕ → Column → List Fault
sum_faults x at c = column_faults x c ++ unless (may_be_number (column_sort x c)) KindMismatch at

abbrev pub function_faults : Context → ℕ → AggregateFunction → List Fault
function_faults x at (Count counted) = counted_faults x counted
function_faults x at (Sum c) = sum_faults x at c
function_faults x at (Min c) = column_faults x c
function_faults x at (Max c) = column_faults x c

-- FINAL, and then the function
abbrev pub aggregate_faults : Context → Aggregate → List Fault
aggregate_faults x a = scope_faults x a.scope ++ function_faults x a.at a.function

-- operands before their operator, from the left
abbrev pub expr_faults : Context → Term → List Fault
expr_faults x (Number at value) = []
expr_faults x (Literal at text) = []
expr_faults x (Navigation path) = path_faults x path
expr_faults x (Aggregated a) = aggregate_faults x a
expr_faults x (MatchNumber at) = unless (not x.in_define) MeasureOnly at
expr_faults x (Classifier at) = unless (not x.in_define) MeasureOnly at
expr_faults x (Negative at body) = expr_faults x body ++ unless (may_be_number (sort_of x body)) KindMismatch at
expr_faults x (Not at body) = expr_faults x body ++ unless (may_be_condition (sort_of x body)) KindMismatch at
expr_faults x (IsNull at negated body) = expr_faults x body ++ unless (may_be_value (sort_of x body)) KindMismatch at
expr_faults x (Operate a o b) =
    expr_faults x a ++ (expr_faults x b ++ unless (takes o.operator (sort_of x a) (sort_of x b)) KindMismatch o.at)
