-- What an object has under a path of names.
use Rattle.std.specs.Prelude.{◌==◌, ◌&&◌, ◌||◌, ℕ, Bool, true, false, List, [], ◌∷◌, codes, map, slice_index, Option, Some, None, Result, Ok, Err, if◌then◌else◌}
use Rattle.std.specs.Char.{to_ascii_uppercase}
use Rattle.std.specs.List.{list_all}
use Rattle.std.specs.Str.{bytes_eq}
use Rattle.json.specs.Json.{Json, null, boolean, number, string, array, object, Members, no_members, member}
use Rattle.rp_value.specs.Names.{is_name_byte, is_name_start}
use Rattle.rp_objects.specs.declared.fault.FieldFault.{FieldFault}
use Rattle.rp_objects.specs.declared.fault.FieldFault.TheVariants.{Nested, Double}

-- the dot between two names of a path: own
abbrev pub dot : ℕ
dot = 46

abbrev pub onto_first : ℕ → List (List ℕ) → List (List ℕ)
onto_first b [] = (b ∷ []) ∷ []
onto_first b (part ∷ parts) = (b ∷ part) ∷ parts

-- the names of a path: what stands between its dots
abbrev pub path_of : List ℕ → List (List ℕ)
path_of [] = [] ∷ []
path_of (b ∷ bytes) = if b == dot then [] ∷ path_of bytes else onto_first b (path_of bytes)

-- the key has the form of a name: ISO/IEC 9075-2:2016, 5.2, <regular identifier>
abbrev pub is_name : List ℕ → Bool
is_name key = is_name_start (slice_index key 0) && list_all is_name_byte key

-- a key names this part of a path: it is the part, or has the form of a name whose upper-case form that is
abbrev pub names_part : List ℕ → List ℕ → Bool
names_part part key = bytes_eq key part || (is_name key && bytes_eq (map to_ascii_uppercase key) part)

-- where a part stands among the members of an object
pub data Among : Type 0 where
  nowhere : Among
  once : Json → Among
  twice : Among

abbrev pub with_member : Bool → Json → Among → Among
with_member false j later = later
with_member true j nowhere = once j
with_member true j (once other) = twice
with_member true j twice = twice

abbrev pub among : List ℕ → Members → Among
among part no_members = nowhere
among part (member key j ms) = with_member (names_part part key) j (among part ms)

-- The field that a value of JSON stands for: the bytes of a string, of a number as it is written, of `true` and `false`; none of null.
-- Objects and lists are no field.
abbrev pub field_of : Json → Result (Option (List ℕ)) FieldFault
field_of null = Ok None
field_of (boolean true) = Ok (Some (codes "true"))
field_of (boolean false) = Ok (Some (codes "false"))
field_of (number digits) = Ok (Some digits)
field_of (string bytes) = Ok (Some bytes)
field_of (array js) = Err Nested
field_of (object ms) = Err Nested

-- what stands under a part of a path: nothing, where there is no such key
abbrev pub one_of : Among → Result (Option Json) FieldFault
one_of nowhere = Ok None
one_of (once j) = Ok (Some j)
one_of twice = Err Double

abbrev pub inside : List ℕ → Json → Result (Option Json) FieldFault
inside part null = Ok None
inside part (boolean b) = Err Nested
inside part (number digits) = Err Nested
inside part (string bytes) = Err Nested
inside part (array js) = Err Nested
inside part (object ms) = one_of (among part ms)

-- and then under the rest
abbrev pub then_under : (Json → Result (Option (List ℕ)) FieldFault) → Result (Option Json) FieldFault → Result (Option (List ℕ)) FieldFault
then_under rest (Ok None) = Ok None
then_under rest (Ok (Some j)) = rest j
then_under rest (Err why) = Err why

-- The field under a path: none where there is no such key or null on the way; anything else on the way has to be an object in which one
-- key names the next part.
abbrev pub field_under : List (List ℕ) → Json → Result (Option (List ℕ)) FieldFault
field_under [] j = field_of j
field_under (part ∷ parts) j = then_under (field_under parts) (inside part j)
