-- The first field that is no value of its column, sought from an index on.
use Rattle.std.proofs.Common.{◌≡◌, ◌≤◌, ◌⊎◌, ℕ, suc, ◌+◌, List, [], ◌∷◌, drop, length, inl, inr, subst, arith}
use Rattle.std.proofs.lemmas.List.{drop_all}
use Rattle.rp_value.specs.declared.value.Kind.{Kind}
use Rattle.rp_input.specs.Fields.{HasNoField, IsFirstMisfit, IsNoField}

-- The fields so far are values: what is found of those from an index on holds of all.
pub record AreValues (kinds : List Kind) (fields : List (List ℕ)) (i : ℕ) : Type 0 where
  pub found : (place : ℕ) → IsFirstMisfit (drop i kinds) (drop i fields) place → IsFirstMisfit kinds fields (i + place)
  pub none : (HasNoField (drop i kinds) (drop i fields) → ⊥) → HasNoField kinds fields → ⊥

pub values-start : (kinds : List Kind) (fields : List (List ℕ)) → AreValues kinds fields 0
values-start kinds fields = record {
  found = λ place h. let there : place ≡ 0 + place = omega arith in subst (IsFirstMisfit kinds fields) there h;
  none = λ h. h;
}

module _ (kinds : List Kind) (fields : List (List ℕ)) (i : ℕ) (k : Kind) (f : List ℕ) (ek : drop i kinds ≡ k ∷ drop (i + 1) kinds)
    (ef : drop i fields ≡ f ∷ drop (i + 1) fields) (before : AreValues kinds fields i) where
  pub values-step : (IsNoField k f → ⊥) → AreValues kinds fields (i + 1)
  values-step is = record {
    found = λ place h.
        let there : i + suc place ≡ i + 1 + place = omega arith in
        subst (IsFirstMisfit kinds fields) there (before.found (suc place) (rw (ek, ef) (is, h)));
    none = λ h. before.none (rw (ek, ef) (either h));
  }
    where
      either : (HasNoField (drop (i + 1) kinds) (drop (i + 1) fields) → ⊥) → IsNoField k f ⊎ HasNoField (drop (i + 1) kinds) (drop (i + 1) fields) → ⊥
      either h (inl not) = is not
      either h (inr later) = h later

  pub values-misfit : IsNoField k f → IsFirstMisfit kinds fields i
  values-misfit not =
      let there : i + 0 ≡ i = omega arith in
      subst (IsFirstMisfit kinds fields) there (before.found 0 (rw (ek, ef) not))

no_columns : (fields : List (List ℕ)) → HasNoField [] fields → ⊥
no_columns fields h = h

no_fields : (kinds : List Kind) → HasNoField kinds [] → ⊥
no_fields [] h = h
no_fields (k ∷ kinds) h = h

-- none is left from an index on where there is no further column, or no further field
module _ (kinds : List Kind) (fields : List (List ℕ)) (i : ℕ) (before : AreValues kinds fields i) where
  pub columns-end : length kinds ≤ i → HasNoField kinds fields → ⊥
  columns-end all = before.none (rw (drop_all i kinds all) (no_columns (drop i fields)))

  pub fields-end : length fields ≤ i → HasNoField kinds fields → ⊥
  fields-end all = before.none (rw (drop_all i fields all) (no_fields (drop i kinds)))
