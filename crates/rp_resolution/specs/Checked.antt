-- What a check answers.
use Rattle.std.specs.Prelude.{◌≡◌, List, [], ◌∷◌, ◌++◌, length, Option, Some, Result, Ok, Err}
use Rattle.rp_value.specs.declared.value.Kind.{Kind}
use Rattle.rp_tree.specs.declared.tree.AggregateFunction.{AggregateFunction}
use Rattle.rp_tree.specs.Paths.{Path}
use Rattle.rp_tree.specs.Terms.{Term}
use Rattle.rp_resolution.specs.declared.fault.Fault.{Fault}
use Rattle.rp_resolution.specs.declared.fault.CheckFault.{CheckFault}
use Rattle.rp_resolution.specs.declared.fault.CheckFault.TheVariants as refusal
use Rattle.rp_resolution.specs.declared.resolved.Resolved.{Resolved}
use Rattle.rp_resolution.specs.declared.resolved.Resolved.TheVariants.{Value, Condition}
use Rattle.rp_query.specs.declared.plan.Navigation.{Navigation}
use Rattle.rp_query.specs.declared.plan.Total.{Total}
use Rattle.rp_query.specs.Formulas.{Formula, PlainTotal, plain_total, value_formula, condition_formula}
use Rattle.rp_resolution.specs.Context.{Context}
use Rattle.rp_resolution.specs.Sorts.{Sort, Valued, Truth, sort_of, path_sort, aggregate_sort}
use Rattle.rp_resolution.specs.ExprFaults.{expr_faults}
use Rattle.rp_resolution.specs.Resolved as resolved

-- a refusal tells the first of the faults, or that memory ran out
pub data Tells : CheckFault → List Fault → Type 0 where
  first_fault : (fault : Fault) (others : List Fault) → Tells (refusal.Fault fault) (fault ∷ others)
  no_memory : (faults : List Fault) → Tells refusal.OutOfMemory faults

-- there is no fault, and the answer is as it must be, or else the first fault is told
abbrev pub FirstFaultOr : {X : Type 0} → List Fault → (X → Type 0) → Result X CheckFault → Type 0
FirstFaultOr faults Right (Ok x) = (faults ≡ []) × Right x
FirstFaultOr faults Right (Err e) = Tells e faults

abbrev pub sort_in : Resolved → Sort
sort_in (Value expr kind) = Valued kind
sort_in (Condition condition) = Truth

abbrev pub formula_in : Resolved → Formula
formula_in (Value expr kind) = value_formula expr.value
formula_in (Condition condition) = condition_formula condition.value

abbrev pub sort_known : Resolved → Option Sort
sort_known r = Some (sort_in r)

-- what is resolved has this sort and this formula
abbrev pub Is : Sort → Formula → Resolved → Type 0
Is sort f r = (sort_in r ≡ sort) × (formula_in r ≡ f)

-- a navigation after these totals is found, and the kind of its column; now there are these totals
abbrev pub Navigates : Context → List PlainTotal → Path → List PlainTotal → Navigation × Kind → Type 0
Navigates x before path now n =
    (n.0 ≡ resolved.place_of x (length before) path) × (path_sort x path ≡ Some (Valued n.1))
    × (now ≡ before ++ resolved.listing_total (resolved.path_members x path))

-- the total of an aggregate, and the kind of its value
abbrev pub IsTotalOf : Context → AggregateFunction → Total × Kind → Type 0
IsTotalOf x function t = (plain_total t.0 ≡ resolved.total_over x function) × (aggregate_sort x function ≡ Some (Valued t.1))

-- an expression without faults, after these aggregates, is resolved; now there are these aggregates
pub record Resolves (x : Context) (before : List PlainTotal) (t : Term) (r : Resolved) (now : List PlainTotal)
    : Type 0 where
  pub clean : expr_faults x t ≡ []
  pub sort : sort_of x t ≡ Some (sort_in r)
  pub formula : formula_in r ≡ resolved.resolved x before t
  pub totals : now ≡ before ++ resolved.totals x t

-- the expression is resolved, or its first fault is told
abbrev pub Checks : Context → List PlainTotal → Term → Result Resolved CheckFault → List PlainTotal → Type 0
Checks x before t (Ok r) now = Resolves x before t r now
Checks x before t (Err e) now = Tells e (expr_faults x t)
