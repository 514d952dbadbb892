-- The values of a record's fields.
use Rattle.std.specs.Prelude.{◌≡◌, ◌≢◌, ◌⊎◌, ⊤, ℕ, zero, suc, ℤ, List, [], ◌∷◌, IsUtf8}
use Rattle.std.specs.Str.Parse.{IsNumeral, signed_digits_value, without_leading_sign}
use mir.Val.{SFits as FitsSigned}
use Rattle.std.specs.Int.{w64}
use Rattle.rp_value.specs.declared.value.Kind.{Kind}
use Rattle.rp_value.specs.declared.value.Kind.TheVariants as kind
use Rattle.rp_value.specs.declared.value.Value.{Value}
use Rattle.rp_value.specs.declared.value.Value.TheVariants.{Null, Int, Text}

-- a sign or none, then digits, for a number of 64 bits with sign: what std reads as an i64
abbrev pub IsNumberText : List ℕ → ℤ → Type 0
IsNumberText bytes z = IsNumeral 10 (without_leading_sign bytes) × FitsSigned w64 (signed_digits_value 10 bytes)
    × (z ≡ signed_digits_value 10 bytes)

-- a field that is not empty is this value of a column
abbrev pub IsFull : Kind → List ℕ → Value → Type 0
IsFull kind.Int bytes v = (z : ℤ) × (v ≡ Int z) × IsNumberText bytes z
IsFull kind.Text bytes v = v ≡ Text bytes

-- a field is this value of a column: an empty one is null, any other is UTF-8
abbrev pub IsField : Kind → List ℕ → Value → Type 0
IsField k bytes v = ((bytes ≡ []) × (v ≡ Null)) ⊎ ((bytes ≢ []) × IsUtf8 bytes × IsFull k bytes v)

abbrev pub HasNone : Kind → List ℕ → Type 0
HasNone kind.Int bytes = (z : ℤ) → IsNumberText bytes z → ⊥
HasNone kind.Text bytes = ⊥

-- a field is no value of a column
abbrev pub IsNoField : Kind → List ℕ → Type 0
IsNoField k bytes = (bytes ≢ []) × (IsUtf8 bytes → HasNone k bytes)

-- the fields of a record are this row: one for each column, and a value of it
abbrev pub IsRow : List Kind → List (List ℕ) → List Value → Type 0
IsRow [] [] [] = ⊤
IsRow (k ∷ ks) (f ∷ fs) (v ∷ vs) = IsField k f v × IsRow ks fs vs
IsRow _ _ _ = ⊥

-- some field is no value of its column
abbrev pub HasNoField : List Kind → List (List ℕ) → Type 0
HasNoField (k ∷ ks) (f ∷ fs) = IsNoField k f ⊎ HasNoField ks fs
HasNoField _ _ = ⊥

-- the field at this place is the first that is no value of its column
abbrev pub IsFirstMisfit : List Kind → List (List ℕ) → ℕ → Type 0
IsFirstMisfit (k ∷ ks) (f ∷ fs) zero = IsNoField k f
IsFirstMisfit (k ∷ ks) (f ∷ fs) (suc place) = (IsNoField k f → ⊥) × IsFirstMisfit ks fs place
IsFirstMisfit _ _ place = ⊥
