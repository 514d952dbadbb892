-- Which records name the columns of a table.
use Rattle.std.specs.Prelude.{◌≡◌, ◌⊎◌, ⊤, ℕ, List, [], ◌∷◌}
use Rattle.rp_value.specs.Names.{IsUpperCaseName}
use Rattle.rp_value.specs.declared.table.Column.{Column}

-- a field names a column by its name, or has the form of a name whose upper-case form that is
abbrev pub NamesColumn : Column → List ℕ → Type 0
NamesColumn column field = (field ≡ column.name) ⊎ IsUpperCaseName field column.name

-- the fields name these columns, in order
abbrev pub NamesColumns : List Column → List (List ℕ) → Type 0
NamesColumns [] [] = ⊤
NamesColumns (c ∷ cs) (f ∷ fs) = NamesColumn c f × NamesColumns cs fs
NamesColumns _ _ = ⊥
