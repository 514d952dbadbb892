-- Conditions that look at no row after the ones that they go from: rows of the match, which are known.
use Rattle.std.specs.Prelude.{◌≡◌, ℕ, Bool, true, Option, None, Some, nat_eq}
use Rattle.rp_query.specs.declared.plan.Condition.{Condition}
use Rattle.rp_query.specs.declared.plan.Step.{Step}
use Rattle.rp_query.specs.declared.plan.Step.TheVariants.{Back, Ahead}
use Rattle.rp_query.specs.declared.query.Plan.{Plan}
use Rattle.rp_query.specs.Allowed.{each_leaf}
use Rattle.rp_query.specs.Definitions.{definition_of}
use Rattle.rp_query.specs.Formulas.{Formula, Cell, condition_formula}

-- it goes back, or stays
abbrev pub goes_back : Step → Bool
goes_back (Back k) = true
goes_back (Ahead k) = nat_eq k 0

-- a navigation goes back, or stays; nothing else looks beyond the rows of the match
abbrev pub leaf_looks_back : Formula → Bool
leaf_looks_back (Cell n) = goes_back n.step
leaf_looks_back f = true

-- nothing in it looks at a row after the one that it goes from
abbrev pub looks_back : Formula → Bool
looks_back f = each_leaf leaf_looks_back f

-- a variable without a condition looks at nothing
abbrev pub looks_back_where_defined : Option Condition → Bool
looks_back_where_defined None = true
looks_back_where_defined (Some c) = looks_back (condition_formula c)

-- no condition of DEFINE looks at a row after one that it goes from
abbrev pub ConditionsLookBack : Plan → Type 0
ConditionsLookBack plan = (variable : ℕ) → looks_back_where_defined (definition_of plan variable) ≡ true
