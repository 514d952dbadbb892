-- What a row of a match changes of the totals of a plan, by the variable that it is mapped to.
use Rattle.std.specs.Prelude.{◌≡◌, ◌≤◌, ⊤, ℕ, Bool, List, map, Option, None, Some, slice_get, if◌then◌else◌}
use Rattle.std.specs.List.{AllByRecursion}
use Rattle.std.specs.declared.alloc.Global.{Global}
use Rattle.std.specs.declared.vec.Vec.{Vec}
use Rattle.rp_query.specs.declared.changes.Change.{Change}
use Rattle.rp_query.specs.declared.changes.Change.TheVariants.{Nothing, Listed, Same, Added}
use Rattle.rp_query.specs.declared.changes.Changes.{Changes}
use Rattle.rp_query.specs.declared.plan.Function.{Function}
use Rattle.rp_query.specs.declared.plan.Total.{Total}
use Rattle.rp_query.specs.declared.plan.Variables.{Variables}
use Rattle.rp_query.specs.declared.plan.Variables.TheVariants.{Universal, Among}
use Rattle.rp_query.specs.Kinds.{lists_rows}
use Rattle.rp_query.specs.Scopes.{includes}

-- What a row changes that is one of the total's, or isn't: a list of rows has one more where it is, and an aggregate
-- has a value after each row.
abbrev pub changed_by : Function → Bool → Change
changed_by f is_own = if lists_rows f then (if is_own then Listed else Nothing) else (if is_own then Added f else Same)

-- what a row that is mapped to the variable changes of a total
abbrev pub change_of : ℕ → Total → Change
change_of variable t = changed_by t.function (includes t.variables variable)

-- where nothing is kept for a variable, what is kept for the others
abbrev pub or_others : List Change → Option (Vec Change Global) → List Change
or_others others None = others
or_others others (Some changes) = changes.items

-- what is kept for a variable
unfoldable pub kept_for : Changes → ℕ → List Change
kept_for c variable = or_others c.others.items (slice_get c.by_variable.items variable)

-- For each variable it is kept what a row that is mapped to it changes of each total.
abbrev pub AreChangesOf : List Total → Changes → Type 0
AreChangesOf totals c = (variable : ℕ) → kept_for c variable ≡ map (change_of variable) totals

-- ---- inside: the greatest variable that is named

-- none of the variables is above this number
abbrev pub IsUpTo : ℕ → Variables → Type 0
IsUpTo greatest Universal = ⊤
IsUpTo greatest (Among members) = AllByRecursion (λ m. m ≤ greatest) members.items

abbrev pub NamesUpTo : ℕ → List Total → Type 0
NamesUpTo greatest totals = AllByRecursion (λ (t : Total). IsUpTo greatest t.variables) totals
