-- Whether bytes are UTF-8, as a test.
use Rattle.std.proofs.Common.{◌≡◌, ℕ, List, Bool, true, false, refl}
use Rattle.std.proofs.lemmas.Str.{IsUtf8-from_is_utf8}
use Rattle.std.specs.Prelude.{IsUtf8}
use Rattle.std.specs.Str.{is_utf8}

pub not_utf8 : (bs : List ℕ) → (IsUtf8 bs → ⊥) → is_utf8 bs ≡ false
not_utf8 bs other = by (is_utf8 bs) refl
  where
    by : (t : Bool) → is_utf8 bs ≡ t → is_utf8 bs ≡ false
    by true is = absurd (other (IsUtf8-from_is_utf8 bs is))
    by false is = is
