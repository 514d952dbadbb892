-- Variables that a condition looks at, and that have no row then.
use Rattle.std.specs.Prelude.{◌≡◌, ◌≢◌, ℕ, List, ◌∷◌, Option, None, Some, slice_get, ◌⊎◌}
use Rattle.std.specs.List.{AllByRecursion}
use Rattle.rp_words.specs.declared.form.Form.{Form}
use Rattle.rp_query.specs.declared.plan.Navigation.{Navigation}
use Rattle.rp_query.specs.declared.plan.RowsOf.{RowsOf}
use Rattle.rp_query.specs.declared.plan.RowsOf.TheVariants.{Universal, Listed}
use Rattle.rp_query.specs.declared.plan.Total.{Total}
use Rattle.rp_query.specs.Formulas.{Formula, Literal, Cell, Aggregated, MatchNumber, Classifier, Arithmetic}
use Rattle.rp_query.specs.Formulas.{Compare, IsNull, Not, And, Or, members_of}
use Rattle.rp_describe.specs.Precedes.{NeverPrecedes}

-- at a row of the variable, which is the last of a match so far, the other one has no row
abbrev pub IsMissing : Form → ℕ → ℕ → Type 0
IsMissing f variable other = (other ≢ variable) × NeverPrecedes other variable f

-- there are variables, of which the first is this one, and each of them is missing
pub record AreMissing (f : Form) (variable : ℕ) (members : Option (List ℕ)) (other : ℕ) : Type 0 where
  pub others : List ℕ
  pub among : members ≡ Some (other ∷ others)
  pub missing : AllByRecursion (IsMissing f variable) (other ∷ others)

-- the variables whose rows a total is of
abbrev pub members_in : Option Total → Option (List ℕ)
members_in None = None
members_in (Some t) = members_of t.variables

-- the variables among whose rows a navigation goes; none: it goes among every row of the match
abbrev pub goes_among : List Total → RowsOf → Option (List ℕ)
goes_among totals Universal = None
goes_among totals (Listed number) = members_in (slice_get totals number)

-- one of its navigations is so
abbrev pub SomeCell : (Navigation → Type 0) → Formula → Type 0
SomeCell P (Literal v) = ⊥
SomeCell P (Cell n) = P n
SomeCell P (Aggregated number is_final) = ⊥
SomeCell P MatchNumber = ⊥
SomeCell P (Classifier names) = ⊥
SomeCell P (Arithmetic o a b) = SomeCell P a ⊎ SomeCell P b
SomeCell P (Compare c a b) = SomeCell P a ⊎ SomeCell P b
SomeCell P (IsNull a) = SomeCell P a
SomeCell P (Not a) = SomeCell P a
SomeCell P (And a b) = SomeCell P a ⊎ SomeCell P b
SomeCell P (Or a b) = SomeCell P a ⊎ SomeCell P b

-- a condition, or a value in it, looks among variables of which the first is this one, and each of which is missing
abbrev pub LooksAtMissing : Form → List Total → ℕ → Formula → ℕ → Type 0
LooksAtMissing f totals variable x other = SomeCell (λ n. AreMissing f variable (goes_among totals n.rows_of) other) x
