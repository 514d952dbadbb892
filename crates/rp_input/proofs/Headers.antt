-- A record's fields beside the columns that they name, from an index on.
use Rattle.std.proofs.Common.{◌≡◌, ◌<◌, ◌≤◌, ◌≢◌, ◌+◌, ◌∙◌, ℕ, zero, suc, List, [], ◌∷◌, drop, length, get_or, refl, sym, ap, arith, true, IsUtf8, slice_index_or, inl, inr}
use Rattle.std.proofs.lemmas.Bool.Decides.{nat_tests}
use Rattle.std.proofs.lemmas.Str.{IsUtf8-from_ascii}
use Rattle.rp_value.specs.Names.{is_name_byte, IsUpperCaseName}
use Rattle.std.proofs.lemmas.List.{drop_all, drop_more}
use Rattle.rp_value.specs.declared.table.Column.{Column}
use Rattle.rp_input.specs.Headers.{NamesColumn, NamesColumns}

-- the fields name the columns where those from an index on do, and only there
pub record Names (cs : List Column) (fs : List (List ℕ)) (i : ℕ) : Type 0 where
  pub gives : NamesColumns (drop i cs) (drop i fs) → NamesColumns cs fs
  pub needs : NamesColumns cs fs → NamesColumns (drop i cs) (drop i fs)

pub names-start : (cs : List Column) (fs : List (List ℕ)) → Names cs fs 0
names-start cs fs = record { gives = λ h. h; needs = λ h. h }

pub names-step : (cs : List Column) (fs : List (List ℕ)) (i : ℕ) (c : Column) (f : List ℕ) → i < length cs → c ≡ get_or cs i c → drop i fs ≡ f ∷ drop (i + 1) fs
    → NamesColumn c f → Names cs fs i → Names cs fs (i + 1)
names-step cs fs i c f h is next named n =
    let head : drop i cs ≡ c ∷ drop (i + 1) cs = drop_more cs i c h ∙ ap (λ x. x ∷ drop (i + 1) cs) (sym is) in
    record {
      gives = λ rest. n.gives (rw (head, next) (named, rest));
      needs = λ all. (rw (head, next) at (n.needs all)).1;
    }

pub names-other : (cs : List Column) (fs : List (List ℕ)) (i : ℕ) (c : Column) (f : List ℕ) → i < length cs → c ≡ get_or cs i c → drop i fs ≡ f ∷ drop (i + 1) fs
    → (NamesColumn c f → ⊥) → Names cs fs i → NamesColumns cs fs → ⊥
names-other cs fs i c f h is next other n all =
    let head : drop i cs ≡ c ∷ drop (i + 1) cs = drop_more cs i c h ∙ ap (λ x. x ∷ drop (i + 1) cs) (sym is) in
    other (rw (head, next) at (n.needs all)).0

pub names-end : (cs : List Column) (fs : List (List ℕ)) (i : ℕ) → length cs ≤ i → length fs ≤ i → Names cs fs i → NamesColumns cs fs
names-end cs fs i a b n = n.gives (rw (drop_all i cs a, drop_all i fs b) tt)

-- as many fields as columns
pub named_length : (cs : List Column) (fs : List (List ℕ)) → NamesColumns cs fs → length fs ≡ length cs
named_length [] [] h = refl
named_length [] (f ∷ fs) h = absurd h
named_length (c ∷ cs) [] h = absurd h
named_length (c ∷ cs) (f ∷ fs) h = ap suc (named_length cs fs h.1)

ascii_at : (bs : List ℕ) → ((k d : ℕ) → k < length bs → slice_index_or bs k d < 128) → (i : ℕ) → slice_index_or bs i 0 < 128
ascii_at [] h i = omega arith
ascii_at (b ∷ bs) h zero = h 0 0 (omega arith)
ascii_at (b ∷ bs) h (suc i) = ascii_at bs (λ k d lt. h (suc k) d (omega arith)) i

name_byte_ascii : (b : ℕ) → is_name_byte b ≡ true → b < 128
name_byte_ascii b is = grind (arith, nat_tests)

-- a name is UTF-8
name_utf8 : (text name : List ℕ) → IsUpperCaseName text name → IsUtf8 text
name_utf8 text name is = IsUtf8-from_ascii text (ascii_at text (λ k d lt. name_byte_ascii (slice_index_or text k d) (is.0.each k d lt)))

pub not_named : (column : Column) (f : List ℕ) → f ≢ column.name → (IsUtf8 f → ⊥) → NamesColumn column f → ⊥
not_named column f other bad (inl same) = other same
not_named column f other bad (inr is) = bad (name_utf8 f column.name is)
