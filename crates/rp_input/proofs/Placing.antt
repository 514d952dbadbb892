-- Places of names in a header, and cells of a record, one after another.
use Rattle.std.proofs.Common.{◌≡◌, ◌∙◌, ◌+◌, ◌<◌, ◌≤◌, ◌⊎◌, inl, inr, ℕ, zero, suc, Bool, true, false, List, [], ◌∷◌, ◌++◌, length, drop, get_or, Some, Result, Ok, Err, refl, sym, ap, subst, arith, append_assoc}
use Rattle.std.specs.Prelude.{MatchBool, Option, ⊤, slice_get}
use Rattle.std.proofs.lemmas.List.{append-nil, drop_all, drop_more}
use Rattle.csv.specs.Records.{field_at}
use Rattle.rp_columns.specs.Given.{Refuses}
use Rattle.rp_columns.specs.Readings.{reads_field}
use Rattle.rp_columns.specs.declared.fault.ReadingFault.{ReadingFault}
use Rattle.rp_columns.specs.declared.fault.ReadingFault.TheVariants as why_as
use Rattle.rp_value.specs.declared.value.Value.{Value}
use Rattle.rp_columns.specs.declared.columns.InputColumn.{InputColumn}
use Rattle.rp_input.specs.Placed.{ArePlaced, HasPlace, IsCellsFault, IsDouble, IsFound, IsFoundFor, IsMissing, IsOnlyPlace, NamesAt, NamesSource, cell_of, cells_from, then_cell, told_at, with_place}
use Rattle.rp_input.specs.declared.placed.Found.{Found}
use Rattle.rp_input.specs.declared.placed.Found.TheVariants.{Nowhere, Once, Twice}
use Rattle.rp_input.specs.declared.placed.Placed.{Placed}

-- the field that comes first behind others
pub at_place : (fs : List (List ℕ)) (n : ℕ) (f : List ℕ) → drop n fs ≡ f ∷ drop (n + 1) fs → field_at fs n ≡ Some f
unfolding field_at
at_place [] n f e = let none : ◌≡◌ {A = List (List ℕ)} [] (f ∷ drop (n + 1) []) = sym (drop_all n [] (omega arith)) ∙ e in absurd (cc)
at_place (g ∷ fs) zero f e = let same : g ≡ f = cc in ap (λ x. Some x) same
at_place (g ∷ fs) (suc n) f e = let s : suc n + 1 ≡ suc (n + 1) = omega arith in at_place fs n f (rw s at e)

-- a place that has a field is one of the record's
pub place_within : (fs : List (List ℕ)) (n : ℕ) (f : List ℕ) → field_at fs n ≡ Some f → n < length fs
unfolding field_at
place_within [] n f e = absurd (cc)
place_within (g ∷ fs) zero f e = omega arith
place_within (g ∷ fs) (suc n) f e = let h = place_within fs n f e in omega arith

order : (m n : ℕ) → (m < n) ⊎ (n ≤ m)
order m zero = inr (omega arith)
order zero (suc n) = inl (omega arith)
order (suc m) (suc n) = next (order m n)
  where
    next : ((m < n) ⊎ (n ≤ m)) → (suc m < suc n) ⊎ (suc n ≤ suc m)
    next (inl less) = inl (omega arith)
    next (inr more) = inr (omega arith)

-- what was found among the first so many places
abbrev pub IsFoundBelow : List ℕ → List (List ℕ) → ℕ → Found → Type 0
IsFoundBelow source header n Nowhere = (q : ℕ) → q < n → NamesAt source header q → ⊥
IsFoundBelow source header n (Once p) = (p < n) × NamesAt source header p × ((q : ℕ) → q < n → NamesAt source header q → q ≡ p)
IsFoundBelow source header n Twice = IsDouble source header

module _ (source : List ℕ) (header : List (List ℕ)) (n : ℕ) (field : List ℕ) (at : field_at header n ≡ Some field) where
  one_field : (q : ℕ) → q ≡ n → NamesAt source header q → NamesSource source field
  one_field q is names =
      let same : ◌≡◌ {A = Option (List ℕ)} (Some names.0) (Some field) = sym names.1 ∙ ap (field_at header) is ∙ at in
      let one : names.0 ≡ field = cc in
      subst (NamesSource source) one names.2

  pub found_other : (found : Found) → (NamesSource source field → ⊥) → IsFoundBelow source header n found → IsFoundBelow source header (n + 1) found
  found_other Nowhere other none = λ q lt names. below q lt names (order q n)
    where
      below : (q : ℕ) → q < n + 1 → NamesAt source header q → ((q < n) ⊎ (n ≤ q)) → ⊥
      below q lt names (inl less) = none q less names
      below q lt names (inr more) = other (one_field q (omega arith) names)
  found_other (Once p) other once = (omega (arith, once.0), once.1, λ q lt names. below q lt names (order q n))
    where
      below : (q : ℕ) → q < n + 1 → NamesAt source header q → ((q < n) ⊎ (n ≤ q)) → q ≡ p
      below q lt names (inl less) = once.2 q less names
      below q lt names (inr more) = absurd (other (one_field q (omega arith) names))
  found_other Twice other two = two

  pub found_one : (found : Found) → NamesSource source field → IsFoundBelow source header n found → IsFoundBelow source header (n + 1) (with_place found true n)
  found_one Nowhere is none = (omega arith, (field, at, is), λ q lt names. below q lt names (order q n))
    where
      below : (q : ℕ) → q < n + 1 → NamesAt source header q → ((q < n) ⊎ (n ≤ q)) → q ≡ n
      below q lt names (inl less) = absurd (none q less names)
      below q lt names (inr more) = omega arith
  found_one (Once p) is once = record { first = p; second = n; two = once.0; names = once.1; also = (field, at, is) }
  found_one Twice is two = two

  pub found_next : (found : Found) (named : Bool) → MatchBool named (NamesSource source field) (NamesSource source field → ⊥) → IsFoundBelow source header n found → IsFoundBelow source header (n + 1) (with_place found named n)
  found_next found true is so_far = found_one found is so_far
  found_next found false other so_far = found_other found other so_far

pub found_end : (source : List ℕ) (header : List (List ℕ)) (n : ℕ) (found : Found) → length header ≤ n → IsFoundBelow source header n found → IsFound source header found
found_end source header n Nowhere all none = λ q names. let lt = place_within header q names.0 names.1 in none q (omega arith) names
found_end source header n (Once p) all once = record { names = once.1; only = λ q names. let lt = place_within header q names.0 names.1 in once.2 q (omega arith) names }
found_end source header n Twice all two = two

-- what was found for a column, where it reads a field
module _ (c : InputColumn) (header : List (List ℕ)) where
  pub found_nowhere : IsFoundFor c header Nowhere → (reads_field c.reading ≡ true) × IsMissing c.source header
  found_nowhere h = by (reads_field c.reading) refl h
    where
      by : (b : Bool) → reads_field c.reading ≡ b → MatchBool b (IsFound c.source header Nowhere) (Nowhere ≡ Once 0) → (reads_field c.reading ≡ true) × IsMissing c.source header
      by true is found = (is, found)
      by false is found = absurd (cc)

  pub found_twice : IsFoundFor c header Twice → (reads_field c.reading ≡ true) × IsDouble c.source header
  found_twice h = by (reads_field c.reading) refl h
    where
      by : (b : Bool) → reads_field c.reading ≡ b → MatchBool b (IsFound c.source header Twice) (Twice ≡ Once 0) → (reads_field c.reading ≡ true) × IsDouble c.source header
      by true is found = (is, found)
      by false is found = absurd (cc)

  pub found_once : (place : ℕ) → IsFoundFor c header (Once place) → HasPlace header c place
  found_once place h = by (reads_field c.reading) h
    where
      by : (b : Bool) → MatchBool b (IsFound c.source header (Once place)) (Once place ≡ Once 0) → MatchBool b (IsOnlyPlace c.source header place) ⊤
      by true found = found
      by false found = tt

-- cells before those of later columns
abbrev pub before : List Value → Result (List Value) (ℕ × ReadingFault) → Result (List Value) (ℕ × ReadingFault)
before vs (Ok ws) = Ok (vs ++ ws)
before vs (Err e) = Err e

pub before_none : (r : Result (List Value) (ℕ × ReadingFault)) → r ≡ before [] r
before_none (Ok ws) = refl
before_none (Err e) = refl

before_one : (n : ℕ) (vs : List Value) (v : Value) (r : Result (List Value) (ℕ × ReadingFault)) → before vs (then_cell n (Ok v) r) ≡ before (vs ++ v ∷ []) r
before_one n vs v (Ok ws) = ap (λ xs. Ok xs) (sym (append_assoc vs (v ∷ []) ws))
before_one n vs v (Err e) = refl

module _ (words : List (List ℕ)) (nth : ℕ) (columns : List Placed) (fields : List (List ℕ)) (n : ℕ) (values : List Value) (so_far : cells_from 0 words nth columns fields ≡ before values (cells_from n words nth (drop n columns) fields)) where
  pub cell_more : (p : Placed) (v : Value) → drop n columns ≡ p ∷ drop (n + 1) columns → cell_of words nth fields p ≡ Ok v
      → cells_from 0 words nth columns fields ≡ before (values ++ v ∷ []) (cells_from (n + 1) words nth (drop (n + 1) columns) fields)
  cell_more p v next is =
      so_far ∙ ap (λ ps. before values (cells_from n words nth ps fields)) next
      ∙ ap (λ r. before values (then_cell n r (cells_from (n + 1) words nth (drop (n + 1) columns) fields))) is
      ∙ before_one n values v (cells_from (n + 1) words nth (drop (n + 1) columns) fields)

  bad : (p : Placed) (why : ReadingFault) → drop n columns ≡ p ∷ drop (n + 1) columns → cell_of words nth fields p ≡ Err why
      → cells_from 0 words nth columns fields ≡ Err (n, why)
  bad p why next is =
      so_far ∙ ap (λ ps. before values (cells_from n words nth ps fields)) next
      ∙ ap (λ r. before values (then_cell n r (cells_from (n + 1) words nth (drop (n + 1) columns) fields))) is

  pub cell_fault : (p : Placed) (why : ReadingFault) → drop n columns ≡ p ∷ drop (n + 1) columns → Refuses why (cell_of words nth fields p)
      → IsCellsFault words nth columns fields (told_at n why)
  cell_fault p why_as.OutOfMemory next is = tt
  cell_fault p why_as.Form next is = bad p why_as.Form next is
  cell_fault p why_as.NoSuchTime next is = bad p why_as.NoSuchTime next is
  cell_fault p why_as.NoOffset next is = bad p why_as.NoOffset next is
  cell_fault p why_as.Gap next is = bad p why_as.Gap next is
  cell_fault p why_as.Fold next is = bad p why_as.Fold next is
  cell_fault p why_as.Places next is = bad p why_as.Places next is
  cell_fault p why_as.Range next is = bad p why_as.Range next is
  cell_fault p why_as.NotText next is = bad p why_as.NotText next is

  pub cells_end : drop n columns ≡ [] → cells_from 0 words nth columns fields ≡ Ok values
  cells_end none = so_far ∙ ap (λ ps. before values (cells_from n words nth ps fields)) none ∙ ap (λ xs. Ok xs) (append-nil values)

-- the column of an index comes first behind those before it
pub comes_next : (ps : List Placed) (n : ℕ) (p : Placed) → n < length ps → p ≡ get_or ps n p → drop n ps ≡ p ∷ drop (n + 1) ps
comes_next ps n p lt is = drop_more ps n p lt ∙ ap (λ x. x ∷ drop (n + 1) ps) (sym is)

-- one more column at its place
pub placed_more : (header : List (List ℕ)) (cs : List InputColumn) (ps : List Placed) (c : InputColumn) (p : Placed) → ArePlaced header cs ps → p.reading ≡ c.reading → HasPlace header c p.place
    → ArePlaced header (cs ++ c ∷ []) (ps ++ p ∷ [])
placed_more header [] [] c p are same only = (same, only, tt)
placed_more header [] (q ∷ ps) c p are same only = absurd are
placed_more header (d ∷ cs) [] c p are same only = absurd are
placed_more header (d ∷ cs) (q ∷ ps) c p are same only = (are.0, are.1, placed_more header cs ps c p are.2 same only)

pub column_at : (cs : List InputColumn) (i : ℕ) (c : InputColumn) → i < length cs → c ≡ get_or cs i c → slice_get cs i ≡ Some c
column_at [] i c lt is = absurd (omega arith)
column_at (d ∷ cs) zero c lt is = ap (λ x. Some x) (sym is)
column_at (d ∷ cs) (suc i) c lt is = column_at cs i c (omega arith) is
