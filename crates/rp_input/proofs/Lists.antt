-- A record's fields beside the columns, from an index on.
use Rattle.std.proofs.Common.{◌≡◌, ◌<◌, ◌≤◌, ◌+◌, ℕ, zero, suc, List, [], ◌∷◌, ◌++◌, drop, length, get_or, sym, ap, arith, Some, None, inl, inr, append_assoc}
use Rattle.std.proofs.lemmas.List.{append-nil, drop_all}
use Rattle.csv.specs.Records.{field_at}
use Rattle.rp_value.specs.Tables.{kinds_of}
use Rattle.rp_value.specs.declared.table.Column.{Column}
use Rattle.rp_value.specs.declared.value.Kind.{Kind}
use Rattle.rp_value.specs.declared.value.Value.{Value}
use Rattle.rp_input.specs.Fields.{HasNoField, IsField, IsNoField, IsRow}
use Rattle.rp_input.specs.CsvRows.{AreRows}

pub at_field : (fs : List (List ℕ)) (i : ℕ) (f : List ℕ) → field_at fs i ≡ Some f → drop i fs ≡ f ∷ drop (suc i) fs
unfolding field_at
at_field [] i f e = cc
at_field (g ∷ fs) zero f e = let same : g ≡ f = cc in ap (λ x. x ∷ fs) same
at_field (g ∷ fs) (suc i) f e = at_field fs i f e

pub no_field : (fs : List (List ℕ)) (i : ℕ) → field_at fs i ≡ None → length fs ≤ i
unfolding field_at
no_field [] i e = omega arith
no_field (g ∷ fs) zero e = cc
no_field (g ∷ fs) (suc i) e = let h = no_field fs i e in omega arith

-- the values so far, and those of the fields from an index on
pub record Continues (kinds : List Kind) (fields : List (List ℕ)) (values : List Value) (i : ℕ) : Type 0 where
  pub are : (vs : List Value) → IsRow (drop i kinds) (drop i fields) vs → IsRow kinds fields (values ++ vs)
  pub none : HasNoField (drop i kinds) (drop i fields) → HasNoField kinds fields

pub continues-start : (kinds : List Kind) (fields : List (List ℕ)) → Continues kinds fields [] 0
continues-start kinds fields = record { are = λ vs h. h; none = λ h. h }

pub continues-step : (kinds : List Kind) (fields : List (List ℕ)) (values : List Value) (i : ℕ) (k : Kind) (f : List ℕ) (v : Value)
    → drop i kinds ≡ k ∷ drop (i + 1) kinds → drop i fields ≡ f ∷ drop (i + 1) fields → IsField k f v
    → Continues kinds fields values i → Continues kinds fields (values ++ v ∷ []) (i + 1)
continues-step kinds fields values i k f v ek ef is c = record {
  are = λ vs h. rw append_assoc (c.are (v ∷ vs) (rw (ek, ef) (is, h)));
  none = λ h. c.none (rw (ek, ef) (inr h));
}

pub continues-none : (kinds : List Kind) (fields : List (List ℕ)) (values : List Value) (i : ℕ) (k : Kind) (f : List ℕ)
    → drop i kinds ≡ k ∷ drop (i + 1) kinds → drop i fields ≡ f ∷ drop (i + 1) fields → IsNoField k f
    → Continues kinds fields values i → HasNoField kinds fields
continues-none kinds fields values i k f ek ef is c = c.none (rw (ek, ef) (inl is))

kind_drop : (cs : List Column) (i : ℕ) (c : Column) → i < length cs → c ≡ get_or cs i c → drop i (kinds_of cs) ≡ c.kind ∷ drop (i + 1) (kinds_of cs)
kind_drop [] i c h is = absurd (omega arith)
kind_drop (d ∷ cs) zero c h is = ap (λ (x : Column). x.kind ∷ kinds_of cs) (sym is)
kind_drop (d ∷ cs) (suc i) c h is = let e : suc i + 1 ≡ suc (i + 1) = omega arith in rw e (kind_drop cs i c (omega arith) is)

pub kinds_step : (cs : List Column) (i : ℕ) (c : Column) → i < length cs → c ≡ get_or cs i c → drop i (kinds_of cs) ≡ c.kind ∷ drop (i + 1) (kinds_of cs)
kinds_step = kind_drop

-- one more record that is a row
pub rows_more : (kinds : List Kind) (rs : List (List (List ℕ))) (rows : List (List Value)) (r : List (List ℕ)) (row : List Value)
    → AreRows kinds rs rows → IsRow kinds r row → AreRows kinds (rs ++ r ∷ []) (rows ++ row ∷ [])
rows_more kinds [] [] r row h is = (is, tt)
rows_more kinds [] (x ∷ rows) r row h is = absurd h
rows_more kinds (s ∷ rs) [] r row h is = absurd h
rows_more kinds (s ∷ rs) (x ∷ rows) r row h is = (h.0, rows_more kinds rs rows r row h.1 is)

pub continues-end : (kinds : List Kind) (fields : List (List ℕ)) (values : List Value) (i : ℕ) → length kinds ≤ i → length fields ≤ i → Continues kinds fields values i → IsRow kinds fields values
continues-end kinds fields values i a b c =
    let none : IsRow (drop i kinds) (drop i fields) [] = rw (drop_all i kinds a, drop_all i fields b) tt in
    rw (append-nil values) at (c.are [] none)
