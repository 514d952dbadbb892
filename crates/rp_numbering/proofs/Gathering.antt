-- One more row in its partition.
use Rattle.std.proofs.Common.{◌≡◌, ◌∙◌, ℕ, zero, suc, List, [], ◌∷◌, ◌++◌, Bool, true, false, not, filter, refl, sym, ap, ap₂, cond, true≢false, if◌then◌else◌, None, Some, slice_get, get_or, length, ◌<◌, arith}
use Rattle.indexmap.specs.Layout.{set_value_at}
use Rattle.std.specs.Cmp.{IsEquivalence}
use Rattle.std.proofs.lemmas.List.{append-nil}
use Rattle.std.proofs.lemmas.List.Elements.{filter-append}
use Rattle.std.specs.Map.{keys_of, lookup, values_of}
use Rattle.rp_value.specs.declared.value.Value.{Value}
use Rattle.rp_value.specs.RowLists.{rows_added}
use Rattle.rp_value.specs.declared.row_list.RowList.{RowList}
use Rattle.rp_numbering.specs.Gathering.{parts_added, with_row}
use Rattle.rp_query.specs.Keys.{same_key, values_in}
use Rattle.rp_numbering.specs.Partitions.{Part, partitions, rows_of_key}

abbrev Entry : Type 0
Entry = List Value × RowList

-- a new key comes last
pub parts_push : (entries : List Entry) (key : List Value) (rows : RowList) (row : List Value) → rows_added rows ≡ row ∷ []
    → parts_added (entries ++ (key, rows) ∷ []) ≡ parts_added entries ++ (key, row ∷ []) ∷ []
parts_push [] key rows row is = ap (λ l. (key, l) ∷ []) is
parts_push (e ∷ entries) key rows row is = ap (λ l. (e.0, rows_added e.1) ∷ l) (parts_push entries key rows row is)

-- where no key is the same
pub with_row_new : (entries : List Entry) (key row : List Value) → lookup (same_key key) entries ≡ None → with_row (parts_added entries) key row ≡ parts_added entries ++ (key, row ∷ []) ∷ []
with_row_new [] key row none = refl
with_row_new (e ∷ entries) key row none = by (same_key key e.0) refl none (with_row_new entries key row)
  where
    by : (b : Bool) → same_key key e.0 ≡ b → cond b (Some e.1) (lookup (same_key key) entries) ≡ None
        → (lookup (same_key key) entries ≡ None → with_row (parts_added entries) key row ≡ parts_added entries ++ (key, row ∷ []) ∷ [])
        → with_row (parts_added (e ∷ entries)) key row ≡ parts_added (e ∷ entries) ++ (key, row ∷ []) ∷ []
    by true is none more = absurd cc
    by false is none more = rw is (ap (λ l. (e.0, rows_added e.1) ∷ l) (more none))

-- at the first key that is the same
pub with_row_at : (entries : List Entry) (i : ℕ) (key row : List Value) (old new : RowList) → i < length (keys_of entries)
    → ((d : List Value) → same_key key (get_or (keys_of entries) i d) ≡ true) → ((d : List Value) (k : ℕ) → k < i → same_key key (get_or (keys_of entries) k d) ≡ false)
    → slice_get (values_of entries) i ≡ Some old → rows_added new ≡ rows_added old ++ row ∷ []
    → parts_added (set_value_at entries i new) ≡ with_row (parts_added entries) key row
with_row_at [] i key row old new within here before value gains = absurd (omega arith)
with_row_at (e ∷ entries) zero key row old new within here before value gains =
    let same : same_key key e.0 ≡ true = here key in
    let is : e.1 ≡ old = cc in
    rw same (ap (λ l. (e.0, l) ∷ parts_added entries) (gains ∙ ap (λ (v : RowList). rows_added v ++ row ∷ []) (sym is)))
with_row_at (e ∷ entries) (suc i) key row old new within here before value gains =
    let apart : same_key key e.0 ≡ false = before key zero (omega arith) in
    rw apart (ap (λ l. (e.0, rows_added e.1) ∷ l) (with_row_at entries i key row old new (omega arith) here (λ d k h. before d (suc k) (omega arith)) value gains))

-- the partitions of another key than k
abbrev others : List Value → List Part → List Part
others k parts = filter (λ part. not (same_key k part.0)) parts

module _ (laws : IsEquivalence same_key) where
  -- what is left out may get the row
  others_same : (k key row : List Value) (parts : List Part) → same_key k key ≡ true → others k (with_row parts key row) ≡ others k parts
  others_same k key row [] e = rw e refl
  others_same k key row (part ∷ parts) e = by (same_key key part.0) refl (others_same k key row parts e)
    where
      by : (b : Bool) → same_key key part.0 ≡ b → others k (with_row parts key row) ≡ others k parts → others k (if b then (part.0, part.1 ++ row ∷ []) ∷ parts else part ∷ with_row parts key row) ≡ others k (part ∷ parts)
      by true is more = let out : same_key k part.0 ≡ true = laws.congr k key part.0 e ∙ is in rw out refl
      by false is more = let out : same_key k part.0 ≡ false = laws.congr k key part.0 e ∙ is in rw out (ap (λ l. part ∷ l) more)

  -- what stays gets it
  others_apart : (k key row : List Value) (parts : List Part) → same_key k key ≡ false → others k (with_row parts key row) ≡ with_row (others k parts) key row
  others_apart k key row [] e = rw e refl
  others_apart k key row (part ∷ parts) e = by (same_key key part.0) refl (same_key k part.0) refl (others_apart k key row parts e)
    where
      by : (b : Bool) → same_key key part.0 ≡ b → (d : Bool) → same_key k part.0 ≡ d → others k (with_row parts key row) ≡ with_row (others k parts) key row
          → others k (if b then (part.0, part.1 ++ row ∷ []) ∷ parts else part ∷ with_row parts key row) ≡ with_row (others k (part ∷ parts)) key row
      by true is true out more =
          let tie : same_key k key ≡ true = sym (laws.congr part.0 k key (laws.symm part.0 k ∙ out)) ∙ laws.symm part.0 key ∙ is in
          absurd (true≢false (sym tie ∙ e))
      by true is false out more = rw (out, is) refl
      by false is true out more = rw out more
      by false is false out more = rw (out, is) (ap (λ l. part ∷ l) more)

  one_more : (k key first row : List Value) (mine all : List (List Value)) (parts more : List Part) (b : Bool) → same_key k key ≡ b → all ≡ mine ++ (if b then row ∷ [] else [])
      → more ≡ with_row parts key row → (k, first ∷ all) ∷ others k more ≡ with_row ((k, first ∷ mine) ∷ others k parts) key row
  one_more k key first row mine all parts more true is gains given =
      let back : same_key key k ≡ true = laws.symm key k ∙ is in
      let rest : others k more ≡ others k parts = ap (others k) given ∙ others_same k key row parts is in
      rw back (ap₂ (λ a b. (k, first ∷ a) ∷ b) gains rest)
  one_more k key first row mine all parts more false is gains given =
      let back : same_key key k ≡ false = laws.symm key k ∙ is in
      let rest : others k more ≡ with_row (others k parts) key row = ap (others k) given ∙ others_apart k key row parts is in
      rw back (ap₂ (λ a b. (k, first ∷ a) ∷ b) (gains ∙ append-nil mine) rest)

  -- the partitions of one row more
  pub partitions_more : (columns : List ℕ) (rows : List (List Value)) (row : List Value) → partitions columns (rows ++ row ∷ []) ≡ with_row (partitions columns rows) (values_in columns row) row
  partitions_more columns [] row = refl
  partitions_more columns (first ∷ rows) row =
      let k = values_in columns first in
      let key = values_in columns row in
      one_more k key first row (rows_of_key columns k rows) (rows_of_key columns k (rows ++ row ∷ [])) (partitions columns rows) (partitions columns (rows ++ row ∷ [])) (same_key k key) refl
      (filter-append (λ r. same_key k (values_in columns r)) rows (row ∷ [])) (partitions_more columns rows row)
