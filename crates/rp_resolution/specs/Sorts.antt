-- What an expression has: a value of a kind, or a truth value.
use Rattle.std.specs.Prelude.{ℕ, Bool, true, false, ◌&&◌, ◌||◌, List, Option, None, Some, option_map, slice_get}
use Rattle.rp_value.specs.declared.table.Column.{Column as Heading}
use Rattle.rp_value.specs.declared.value.Kind.{Kind}
use Rattle.rp_value.specs.declared.value.Kind.TheVariants.{Int, Text}
use Rattle.rp_tree.specs.declared.tree.Column.{Column}
use Rattle.rp_tree.specs.declared.tree.AggregateFunction.{AggregateFunction}
use Rattle.rp_tree.specs.declared.tree.AggregateFunction.TheVariants.{Count, Sum, Min, Max}
use Rattle.rp_tree.specs.declared.tree.Operator.{Operator}
use Rattle.rp_tree.specs.declared.tree.Operator.TheVariants as operator
use Rattle.rp_tree.specs.Paths.{Path, At, Move}
use Rattle.rp_tree.specs.Terms.{Term, Number, Literal, Navigation, Aggregated, MatchNumber, Classifier, Negative, Not, IsNull, Operate}
use Rattle.rp_resolution.specs.Context.{Context, column_named}

pub data Sort : Type 0 where
  Valued : Kind → Sort
  Truth : Sort

-- the kind of the column at this place
abbrev pub kind_at : List Heading → Option ℕ → Option Kind
kind_at columns None = None
kind_at columns (Some k) = option_map (λ c. c.kind) (slice_get columns k)

-- the sort of a column; none where there is no such column
abbrev pub column_sort : Context → Column → Option Sort
column_sort x c = option_map Valued (kind_at x.columns (column_named c.name.text x.columns))

abbrev pub path_sort : Context → Path → Option Sort
path_sort x (At c) = column_sort x c
path_sort x (Move movement at inner offset) = path_sort x inner

-- the sort of an aggregate: a whole number, or that of its column
abbrev pub aggregate_sort : Context → AggregateFunction → Option Sort
aggregate_sort x (Count counted) = Some (Valued Int)
aggregate_sort x (Sum c) = Some (Valued Int)
aggregate_sort x (Min c) = column_sort x c
aggregate_sort x (Max c) = column_sort x c

abbrev pub operator_sort : Operator → Sort
operator_sort operator.Plus = Valued Int
operator_sort operator.Minus = Valued Int
operator_sort operator.Times = Valued Int
operator_sort operator.Or = Truth
operator_sort operator.And = Truth
operator_sort operator.Equals = Truth
operator_sort operator.NotEquals = Truth
operator_sort operator.Less = Truth
operator_sort operator.LessOrEquals = Truth
operator_sort operator.Greater = Truth
operator_sort operator.GreaterOrEquals = Truth

-- the sort of an expression, by its root alone; none where it is a column that isn't there
abbrev pub sort_of : Context → Term → Option Sort
sort_of x (Number at value) = Some (Valued Int)
sort_of x (Literal at text) = Some (Valued Text)
sort_of x (Navigation path) = path_sort x path
sort_of x (Aggregated a) = aggregate_sort x a.function
sort_of x (MatchNumber at) = Some (Valued Int)
sort_of x (Classifier at) = Some (Valued Text)
sort_of x (Negative at body) = Some (Valued Int)
sort_of x (Not at body) = Some Truth
sort_of x (IsNull at negated body) = Some Truth
sort_of x (Operate a o b) = Some (operator_sort o.operator)

-- whether it may be a whole number, a text, a condition
abbrev pub may_be_number : Option Sort → Bool
may_be_number None = true
may_be_number (Some (Valued Int)) = true
may_be_number (Some (Valued Text)) = false
may_be_number (Some Truth) = false

abbrev pub may_be_text : Option Sort → Bool
may_be_text None = true
may_be_text (Some (Valued Int)) = false
may_be_text (Some (Valued Text)) = true
may_be_text (Some Truth) = false

abbrev pub may_be_condition : Option Sort → Bool
may_be_condition None = true
may_be_condition (Some (Valued k)) = false
may_be_condition (Some Truth) = true

abbrev pub may_be_value : Option Sort → Bool
may_be_value s = may_be_number s || may_be_text s

abbrev pub numbers : Option Sort → Option Sort → Bool
numbers a b = may_be_number a && may_be_number b

abbrev pub conditions : Option Sort → Option Sort → Bool
conditions a b = may_be_condition a && may_be_condition b

abbrev pub comparable : Option Sort → Option Sort → Bool
comparable a b = numbers a b || (may_be_text a && may_be_text b)

-- whether an operator takes these two
abbrev pub takes : Operator → Option Sort → Option Sort → Bool
takes operator.Plus = numbers
takes operator.Minus = numbers
takes operator.Times = numbers
takes operator.Or = conditions
takes operator.And = conditions
takes operator.Equals = comparable
takes operator.NotEquals = comparable
takes operator.Less = comparable
takes operator.LessOrEquals = comparable
takes operator.Greater = comparable
takes operator.GreaterOrEquals = comparable
