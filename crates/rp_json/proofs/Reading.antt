-- The object of a text, from what was read.
use Rattle.std.proofs.Common.{◌≡◌, ℕ, List, refl, true, false}
use Rattle.std.specs.Prelude.{Bool, Some, None, is_some, IsUtf8, Result, Ok, Err, IfOk, if◌then◌else◌}
use Rattle.std.specs.Str.{is_utf8}
use Rattle.std.proofs.lemmas.Str.{IsUtf8-from_is_utf8, is_utf8-from_IsUtf8}
use Rattle.serde_json.specs.Data.{Data}
use Rattle.serde_json.specs.Read.{read}
use Rattle.serde_json.specs.Find.{as_object}
use Rattle.rp_json.specs.Objects.{object_in, object_of}

pub object_read : (text : List ℕ) (d : Data) → IsUtf8 text → read text ≡ Some d → is_some (as_object d) ≡ true → object_of text ≡ Some d
object_read text d utf8 is object = rw (is_utf8-from_IsUtf8 text utf8, is, object) refl

pub other_read : (text : List ℕ) (d : Data) → IsUtf8 text → read text ≡ Some d → is_some (as_object d) ≡ false → object_of text ≡ None
other_read text d utf8 is object = rw (is_utf8-from_IsUtf8 text utf8, is, object) refl

none_if : (text : List ℕ) (b : Bool) → (b ≡ true → read text ≡ None) → (if b then object_in (read text) else None) ≡ None
none_if text true none = rw (none refl) refl
none_if text false none = refl

pub none_read : (text : List ℕ) → (IsUtf8 text → read text ≡ None) → object_of text ≡ None
none_read text none = none_if text (is_utf8 text) (λ e. none (IsUtf8-from_is_utf8 text e))

-- a fact of what was made, from two others
pub ok-both : {T E : Type 0} (r : Result T E) (P Q R : T → Type 0) → ((x : T) → P x → Q x → R x) → IfOk r P → IfOk r Q → IfOk r R
ok-both (Ok x) P Q R both p q = both x p q
ok-both (Err e) P Q R both p q = tt
