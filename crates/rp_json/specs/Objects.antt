-- The object that a text is, and its fields.
use Rattle.std.specs.Prelude.{ℕ, ◌==◌, Bool, false, List, Option, Some, None, is_some, option_and_then, if◌then◌else◌}
use Rattle.std.specs.Str.{is_utf8}
use Rattle.serde_json.specs.Data.{Data, null, boolean, number, string, array, object}
use Rattle.serde_json.specs.Read.{read}
use Rattle.serde_json.specs.Find.{get, as_object}
use Rattle.serde_json.specs.Events.{members_len}

-- the value of the field of this name, where it is there and has this form
abbrev pub field : {A : Type 0} → List ℕ → (Data → Option A) → Data → Option A
field name form d = option_and_then form (get name d)

-- an object of so many fields
abbrev pub has_fields : ℕ → Data → Bool
has_fields n null = false
has_fields n (boolean b) = false
has_fields n (number x) = false
has_fields n (string s) = false
has_fields n (array ds) = false
has_fields n (object ms) = members_len ms == n

-- what was read of an object, where that has so many fields and no further one
abbrev pub only : {A : Type 0} → ℕ → Data → Option A → Option A
only n d value = if has_fields n d then value else None

abbrev pub object_in : Option Data → Option Data
object_in None = None
object_in (Some d) = if is_some (as_object d) then Some d else None

-- the object that a text of JSON is, and no other value
abbrev pub object_of : List ℕ → Option Data
object_of text = if is_utf8 text then object_in (read text) else None
