-- What an expression may name, and where it stands.
use Rattle.std.specs.Prelude.{ℕ, Bool, ◌==◌, List, [], ◌∷◌, Option, None, Some, position, map, cond}
use Rattle.std.specs.Cmp.Lexicographic.{pointwise}
use Rattle.rp_value.specs.declared.table.Column.{Column}
use Rattle.rp_value.specs.declared.value.Value.{Value}
use Rattle.rp_resolution.specs.declared.names.NamedSet.{NamedSet}
use Rattle.rp_resolution.specs.declared.names.Names.{Names}

-- a pattern variable or a union, and the numbers of its members
pub record Naming : Type 0 where
  pub name : List ℕ
  pub members : List ℕ

pub record Context : Type 0 where
  -- the pattern variables, and the unions after them
  pub sets : List Naming
  -- the columns of the table
  pub columns : List Column
  -- whether it is an expression of DEFINE
  pub in_define : Bool
  -- what CLASSIFIER gives for each pattern variable
  pub classes : List Value

abbrev pub is_name : List ℕ → List ℕ → Bool
is_name name other = pointwise ◌==◌ other name

-- the members of the first with this name
abbrev pub members_named : List ℕ → List Naming → Option (List ℕ)
members_named name [] = None
members_named name (s ∷ sets) = cond (is_name name s.name) (Some s.members) (members_named name sets)

-- the place of the column with this name, from 0
abbrev pub column_named : List ℕ → List Column → Option ℕ
column_named name columns = position (λ c. is_name name c.name) columns

abbrev pub naming_of : NamedSet → Naming
naming_of s = record { name = s.name; members = s.members.items }

abbrev pub context_of : Names → Context
context_of n = record {
  sets = map naming_of n.sets.now;
  columns = n.columns.now;
  in_define = n.in_define;
  classes = n.classes.now.value.items;
}
