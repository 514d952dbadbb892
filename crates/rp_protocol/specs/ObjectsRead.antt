-- What a reader of JSON reads of an output row's object: the cells, each under the name of its column.
use Rattle.std.specs.Prelude.{◌≡◌, ℕ, List, [], ◌∷◌, map, length, Option, Some, zip}
use Rattle.std.specs.Fmt.{signed_decimal}
use Rattle.std.specs.List.{AllZip}
use Rattle.json.specs.Find.{get}
use Rattle.json.specs.Json.{Json, null, number, string, object, Members, no_members, member, document}
use Rattle.json.specs.Strict.{AreDistinct}
use Rattle.rp_value.specs.declared.value.Value.{Value}
use Rattle.rp_value.specs.declared.value.Value.TheVariants.{Null, Int, Text}
use Rattle.rp_query.specs.declared.query.OutputColumn.{OutputColumn}
use Rattle.rp_protocol.specs.ObjectTexts.{Field, object_text}
use Rattle.rp_protocol.specs.Within.{AreCells}

-- the value of JSON that stands for a cell
abbrev pub json_of : Value → Json
json_of Null = null
json_of (Int z) = number (signed_decimal z)
json_of (Text s) = string s

abbrev pub members_of : List Field → Members
members_of [] = no_members
members_of (f ∷ fs) = member f.0.name (json_of f.1) (members_of fs)

-- the object of these cells, in the order of the columns
abbrev pub object_of : List OutputColumn → List Value → Json
object_of columns cells = object (members_of (zip columns cells))

-- the names of columns
abbrev pub names_of : List OutputColumn → List (List ℕ)
names_of columns = map (λ o. o.name) columns

-- no two columns have one name
abbrev pub AreNamedApart : List OutputColumn → Type 0
AreNamedApart columns = AreDistinct (names_of columns)

-- a reader of JSON reads the text of the object of these cells as that object
abbrev pub IsReadBack : List OutputColumn → List Value → Type 0
IsReadBack columns cells = document (object_text columns cells) ≡ Some (object_of columns cells)

-- there are as many cells as columns, and what the object has under each column's name is its cell
abbrev pub HasCells : List OutputColumn → List Value → Type 0
HasCells columns cells = AllZip (λ o v. get o.name (object_of columns cells) ≡ Some (json_of v)) columns cells

-- The text of an object is read as that object. A whole number has 64 bits with sign, as each of a row has.
abbrev pub ObjectsReadBack : Type 0
ObjectsReadBack = (columns : List OutputColumn) (cells : List Value) → AreCells cells → IsReadBack columns cells

-- Where no two columns have one name, it has each cell under the name of its column.
abbrev pub ObjectsHaveCells : Type 0
ObjectsHaveCells = (columns : List OutputColumn) (cells : List Value) → length cells ≡ length columns →
    AreNamedApart columns → HasCells columns cells
