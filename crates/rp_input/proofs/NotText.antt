-- A record that isn't text has a field that is no value.
use Rattle.std.proofs.Common.{◌≡◌, ◌∙◌, ℕ, List, [], ◌∷◌, Bool, true, false, length, inl, inr, arith, refl, subst, sym, true≢false}
use Rattle.std.proofs.lemmas.Str.{IsUtf8-nil, IsUtf8-from_is_utf8, is_utf8-from_IsUtf8}
use Rattle.std.specs.Prelude.{IsUtf8}
use Rattle.std.specs.Str.{is_utf8}
use Rattle.csv.specs.Records.{AllText}
use Rattle.rp_value.specs.declared.value.Kind.{Kind}
use Rattle.rp_input.specs.Fields.{HasNoField, IsNoField}

-- a field that isn't UTF-8 is no value of any column
not_utf8 : (kind : Kind) (field : List ℕ) → (IsUtf8 field → ⊥) → IsNoField kind field
not_utf8 kind field other = (λ empty. other (subst IsUtf8 (sym empty) IsUtf8-nil), λ is. absurd (other is))

-- the first field isn't UTF-8, or the later ones are to blame
first_or_later : (kind : Kind) (kinds : List Kind) (field : List ℕ) (fields : List (List ℕ)) (told : Bool) → is_utf8 field ≡ told
    → (IsUtf8 field → HasNoField kinds fields) → HasNoField (kind ∷ kinds) (field ∷ fields)
first_or_later kind kinds field fields true is later = inr (later (IsUtf8-from_is_utf8 field is))
first_or_later kind kinds field fields false is later = inl (not_utf8 kind field (λ text. true≢false (sym (is_utf8-from_IsUtf8 field text) ∙ is)))

-- where not all fields are UTF-8, one of them is no value
pub no_text : (kinds : List Kind) (fields : List (List ℕ)) → length fields ≡ length kinds → (AllText fields → ⊥) → HasNoField kinds fields
unfolding AllText
no_text [] [] many other = other tt
no_text [] (f ∷ fs) many other = absurd (omega arith)
no_text (k ∷ ks) [] many other = absurd (omega arith)
no_text (k ∷ ks) (f ∷ fs) many other = first_or_later k ks f fs (is_utf8 f) refl (λ text. no_text ks fs (omega arith) (λ all. other (text, all)))
