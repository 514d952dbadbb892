-- The plan of an expression. Where the expression has faults, it says nothing of use.
use Rattle.std.specs.Prelude.{ℕ, ◌+◌, pos, Bool, true, false, List, [], ◌∷◌, ◌++◌, length, Option, None, Some}
use Rattle.rp_value.specs.declared.value.Value.TheVariants as value
use Rattle.rp_value.specs.Arithmetic.{fitted}
use Rattle.rp_grammar.specs.declared.written.Name.{Name}
use Rattle.rp_tree.specs.declared.tree.Column.{Column}
use Rattle.rp_tree.specs.declared.tree.Scope.{Scope}
use Rattle.rp_tree.specs.declared.tree.Offset.{Offset}
use Rattle.rp_tree.specs.declared.tree.Movement.{Movement}
use Rattle.rp_tree.specs.declared.tree.Movement.TheVariants as movement
use Rattle.rp_tree.specs.declared.tree.AggregateFunction.{AggregateFunction}
use Rattle.rp_tree.specs.declared.tree.AggregateFunction.TheVariants as computed
use Rattle.rp_tree.specs.declared.tree.Counted.{Counted}
use Rattle.rp_tree.specs.declared.tree.Counted.TheVariants as counted
use Rattle.rp_tree.specs.declared.tree.Operator.{Operator}
use Rattle.rp_tree.specs.declared.tree.Operator.TheVariants as operator
use Rattle.rp_tree.specs.Paths.{Path, At, Move}
use Rattle.rp_tree.specs.Terms.{Term, Number, Literal, Navigation, Aggregated, MatchNumber, Classifier, Negative, Not, IsNull, Operate}
use Rattle.rp_query.specs.declared.plan.RowsOf.{RowsOf}
use Rattle.rp_query.specs.declared.plan.RowsOf.TheVariants.{Universal, Listed}
use Rattle.rp_query.specs.declared.plan.Navigation.{Navigation as Place}
use Rattle.rp_query.specs.declared.plan.Edge.TheVariants.{First, Last}
use Rattle.rp_query.specs.declared.plan.Step.TheVariants.{Back, Ahead}
use Rattle.rp_query.specs.declared.plan.Function.TheVariants as function
use Rattle.rp_query.specs.declared.plan.Operation.TheVariants.{Plus, Minus, Times}
use Rattle.rp_value.specs.declared.comparison.Comparison.TheVariants as comparison
use Rattle.rp_query.specs.Formulas as formula
use Rattle.rp_query.specs.Formulas.{Formula, PlainTotal}
use Rattle.rp_resolution.specs.Context.{Context, members_named, column_named}

-- a column by its name alone
abbrev pub unqualified : Name → Column
unqualified name = record { qualifier = None; name = name }

-- the members of a qualifier; none: the universal variable
abbrev pub members_meant : Context → Option Name → Option (List ℕ)
members_meant x None = None
members_meant x (Some name) = members_named name.text x.sets

-- the number, from 1, of the column at this place
abbrev pub number_at : Option ℕ → ℕ
number_at None = 0
number_at (Some k) = k + 1

abbrev pub column_number : Context → Column → ℕ
column_number x c = number_at (column_named c.name.text x.columns)

abbrev pub is_final : Option Scope → Bool
is_final None = false
is_final (Some scope) = scope.is_final

abbrev pub rows_or : ℕ → Option Offset → ℕ
rows_or n None = n
rows_or n (Some offset) = offset.rows

-- the column that a navigation ends in
abbrev pub column_in : Path → Column
column_in (At c) = c
column_in (Move movement at argument offset) = column_in argument

-- the rows of named variables have a total that lists them, the next one; those of the universal variable need none
abbrev pub listing_total : Option (List ℕ) → List PlainTotal
listing_total None = []
listing_total (Some members) = record { members = Some members; function = function.Listed } ∷ []

abbrev pub rows_meant : ℕ → Option (List ℕ) → RowsOf
rows_meant count None = Universal
rows_meant count (Some members) = Listed count

-- the members whose rows a navigation goes among
abbrev pub path_members : Context → Path → Option (List ℕ)
path_members x path = members_meant x (column_in path).qualifier

-- a navigation round what is in its brackets
abbrev pub moved : Movement → Option Offset → Place → Place
moved movement.Prev offset inner = record inner { step = Back (rows_or 1 offset) }
moved movement.Next offset inner = record inner { step = Ahead (rows_or 1 offset) }
moved (movement.First scope) offset inner =
    record inner { edge = First; places = rows_or 0 offset; is_final = is_final scope }
moved (movement.Last scope) offset inner =
    record inner { edge = Last; places = rows_or 0 offset; is_final = is_final scope }

-- a column alone is that of the last row
abbrev pub column_place : Context → ℕ → Column → Place
column_place x count c = record {
  rows_of = rows_meant count (members_meant x c.qualifier);
  is_final = false;
  edge = Last;
  places = 0;
  step = Ahead 0;
  column = column_number x c;
}

-- a navigation that stands after so many totals
abbrev pub place_of : Context → ℕ → Path → Place
place_of x count (At c) = column_place x count c
place_of x count (Move movement at argument offset) = moved movement offset (place_of x count argument)

abbrev pub total_counted : Context → Counted → PlainTotal
total_counted x counted.Rows = record { members = None; function = function.Rows }
total_counted x (counted.RowsOf name) = record { members = members_named name.text x.sets; function = function.Rows }
total_counted x (counted.Column c) =
    record { members = members_meant x c.qualifier; function = function.Count (column_number x c) }

-- the total of an aggregate
abbrev pub total_over : Context → AggregateFunction → PlainTotal
total_over x (computed.Count counted) = total_counted x counted
total_over x (computed.Sum c) =
    record { members = members_meant x c.qualifier; function = function.Sum (column_number x c) }
total_over x (computed.Min c) =
    record { members = members_meant x c.qualifier; function = function.Least (column_number x c) }
total_over x (computed.Max c) =
    record { members = members_meant x c.qualifier; function = function.Greatest (column_number x c) }

abbrev pub operated : Operator → Formula → Formula → Formula
operated operator.Or = formula.Or
operated operator.And = formula.And
operated operator.Equals = formula.Compare comparison.Equal
operated operator.NotEquals = formula.Compare comparison.NotEqual
operated operator.Less = formula.Compare comparison.Less
operated operator.LessOrEquals = formula.Compare comparison.LessOrEqual
operated operator.Greater = formula.Compare comparison.Greater
operated operator.GreaterOrEquals = formula.Compare comparison.GreaterOrEqual
operated operator.Plus = formula.Arithmetic Plus
operated operator.Minus = formula.Arithmetic Minus
operated operator.Times = formula.Arithmetic Times

abbrev pub nullness : Bool → Formula → Formula
nullness false p = formula.IsNull p
nullness true p = formula.Not (formula.IsNull p)

-- the totals of an expression, from the left: one for each aggregate and for each navigation among named variables
abbrev pub totals : Context → Term → List PlainTotal
totals x (Number at value) = []
totals x (Literal at text) = []
totals x (Navigation path) = listing_total (path_members x path)
totals x (Aggregated a) = total_over x a.function ∷ []
totals x (MatchNumber at) = []
totals x (Classifier at) = []
totals x (Negative at body) = totals x body
totals x (Not at body) = totals x body
totals x (IsNull at negated body) = totals x body
totals x (Operate a o b) = totals x a ++ totals x b

-- the formula of an expression that stands after these totals
abbrev pub resolved : Context → List PlainTotal → Term → Formula
resolved x before (Number at value) = formula.Literal (fitted (pos value))
resolved x before (Literal at text) = formula.Literal (value.Text text)
resolved x before (Navigation path) = formula.Cell (place_of x (length before) path)
resolved x before (Aggregated a) = formula.Aggregated (length before) (is_final a.scope)
resolved x before (MatchNumber at) = formula.MatchNumber
resolved x before (Classifier at) = formula.Classifier x.classes
resolved x before (Negative at body) =
    formula.Arithmetic Minus (formula.Literal (value.Int (pos 0))) (resolved x before body)
resolved x before (Not at body) = formula.Not (resolved x before body)
resolved x before (IsNull at negated body) = nullness negated (resolved x before body)
resolved x before (Operate a o b) = operated o.operator (resolved x before a) (resolved x (before ++ totals x a) b)
