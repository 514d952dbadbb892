-- Which JSON stands for which value: how it is written (`.._data`), and as what JSON is read (`.._of`).
use Rattle.std.specs.Prelude.{ℕ, ◌^◌, Bool, List, [], ◌∷◌, nat_lt, nat_eq, decimal, Option, Some, None, option_map, option_and_then, if◌then◌else◌}
use Rattle.std.specs.Cmp.Lexicographic.{pointwise}
use Rattle.serde_json.specs.Data.{Data, null, boolean, number, string, array, object, unsigned, Items, no_items, item}
use Rattle.serde_json.specs.Find.{as_array, as_i64, as_u64, as_number, of_integer}
use Rattle.rp_value.specs.declared.value.Value.{Value}
use Rattle.rp_value.specs.declared.value.Value.TheVariants.{Null, Int, Text}
use Rattle.rp_json.specs.Digits.{digits_of}

-- ---- whole numbers from 0 to 2^64 - 1

abbrev pub whole_data : ℕ → Data
whole_data n = number (unsigned n)

abbrev pub whole_of : Data → Option ℕ
whole_of d = option_and_then as_u64 (as_number d)

-- from 0 to 2^32 - 1
abbrev pub short_whole : ℕ → Option ℕ
short_whole n = if nat_lt n (2 ^ 32) then Some n else None

abbrev pub short_of : Data → Option ℕ
short_of d = option_and_then short_whole (whole_of d)

-- or null
abbrev pub optional_data : Option ℕ → Data
optional_data None = null
optional_data (Some n) = whole_data n

abbrev pub optional_of : Data → Option (Option ℕ)
optional_of null = Some None
optional_of (boolean b) = None
optional_of (number n) = option_map Some (as_u64 n)
optional_of (string s) = None
optional_of (array ds) = None
optional_of (object ms) = None

-- ---- whole numbers from 0 to 2^128 - 1: their digits as a text; a number below 2^64 is read too

abbrev pub place_data : ℕ → Data
place_data n = string (decimal n)

abbrev pub place_of : Data → Option ℕ
place_of null = None
place_of (boolean b) = None
place_of (number n) = as_u64 n
place_of (string s) = digits_of s
place_of (array ds) = None
place_of (object ms) = None

-- ---- words: the first of a list that has this text

abbrev pub named : {A : Type 0} → (A → List ℕ) → List A → List ℕ → Option A
named word [] text = None
named word (a ∷ more) text = if pointwise nat_eq (word a) text then Some a else named word more text

-- ---- cells: null, a whole number of 64 bits with sign, or a text

abbrev pub cell_data : Value → Data
cell_data Null = null
cell_data (Int z) = number (of_integer z)
cell_data (Text s) = string s

abbrev pub cell_of : Data → Option Value
cell_of null = Some Null
cell_of (boolean b) = None
cell_of (number n) = option_map Int (as_i64 n)
cell_of (string s) = Some (Text s)
cell_of (array ds) = None
cell_of (object ms) = None

-- ---- lists

abbrev pub list_items : {A : Type 0} → (A → Data) → List A → Items
list_items write [] = no_items
list_items write (a ∷ more) = item (write a) (list_items write more)

abbrev pub list_in : {A : Type 0} → (Data → Option A) → Items → Option (List A)
list_in form no_items = Some []
list_in form (item d ds) = option_and_then (λ a. option_map (λ more. a ∷ more) (list_in form ds)) (form d)

abbrev pub list_of : {A : Type 0} → (Data → Option A) → Data → Option (List A)
list_of form d = option_and_then (list_in form) (as_array d)

abbrev pub cells_data : List Value → Data
cells_data cells = array (list_items cell_data cells)

abbrev pub cells_of : Data → Option (List Value)
cells_of d = list_of cell_of d
