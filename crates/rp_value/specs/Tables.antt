-- Which lists of columns are tables.
use Rattle.std.specs.Prelude.{ℕ, Bool, false, ◌||◌, ◌==◌, nat_lt, List, [], ◌∷◌, length, map, Option, None, Some, String, string_bytes, if◌then◌else◌}
use Rattle.std.specs.List.{list_any}
use Rattle.std.specs.Cmp.Lexicographic.{pointwise}
use Rattle.std.specs.declared.alloc.Global.{Global}
use Rattle.rp_value.specs.declared.table.Column.{Column}
use Rattle.rp_value.specs.declared.table.TableFault.{TableFault}
use Rattle.rp_value.specs.declared.table.TableFault.TheVariants.{NoColumns, BadName, DoubleName, OutOfMemory}
use Rattle.rp_value.specs.declared.value.Kind.{Kind}

-- The greatest length of a column's name, in bytes: ISO/IEC 9075-2:2016, 5.4, allows an identifier of 128 characters at most.
abbrev pub longest_name : ℕ
longest_name = 128

-- whether a name is empty or longer than a name may be
abbrev pub is_bad_name : List ℕ → Bool
is_bad_name name = (length name == 0) || nat_lt longest_name (length name)

-- whether some column has such a name
abbrev pub has_bad_name : List Column → Bool
has_bad_name columns = list_any (λ c. is_bad_name c.name) columns

-- whether some column has this name
abbrev pub has_name : List ℕ → List Column → Bool
has_name name columns = list_any (λ c. pointwise ◌==◌ c.name name) columns

-- whether two columns have one name
abbrev pub has_double_name : List Column → Bool
has_double_name [] = false
has_double_name (c ∷ cs) = has_name c.name cs || has_double_name cs

-- why a list of columns is no table, by the first reason in this order
abbrev pub table_fault : List Column → Option TableFault
table_fault [] = Some NoColumns
table_fault (c ∷ cs) =
    if has_bad_name (c ∷ cs) then Some BadName
    else (if has_double_name (c ∷ cs) then Some DoubleName else None)

-- what a fault says of the columns: that it is theirs, or that they have none where memory alone was refused
abbrev pub said_of_columns : TableFault → Option TableFault
said_of_columns OutOfMemory = None
said_of_columns fault = Some fault

-- the column of a name and a kind
abbrev pub column_of : String Global × Kind → Column
column_of pair = record { name = string_bytes pair.0; kind = pair.1 }

-- the columns of names and kinds
abbrev pub columns_of : List (String Global × Kind) → List Column
columns_of pairs = map column_of pairs

-- the kinds of columns
abbrev pub kinds_of : List Column → List Kind
kinds_of columns = map (λ c. c.kind) columns
