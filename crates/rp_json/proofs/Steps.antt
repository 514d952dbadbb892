-- One more element of a list that is read or written.
use Rattle.std.proofs.Common.{◌≡◌, ◌+◌, ◌<◌, ℕ, suc, List, [], ◌∷◌, ◌++◌, length, drop, get_or, Option, Some, None, option_map, option_and_then, refl, ap, sym, append_assoc, add-one, drop-cons}
use Rattle.std.specs.Prelude.{false, pos, negsuc}
use Rattle.serde_json.specs.Data.{Data, Items, no_items, item, items_depth}
use Rattle.serde_json.specs.Written.{has_float, items_have_float}
use Rattle.serde_json.specs.View.{view, items_view}
use Rattle.serde_json.specs.declared.value.Value.{Value as Json}
use Rattle.rp_value.specs.declared.value.Value.{Value}
use Rattle.rp_value.specs.declared.value.Value.TheVariants.{Null, Int, Text}
use Rattle.rp_json.specs.Forms.{cell_data, list_in, list_items}

-- one more item
abbrev pub append-items : Items → Data → Items
append-items no_items d = item d no_items
append-items (item e ds) d = item e (append-items ds d)

-- what is read, and then the rest
abbrev pub joined : {A : Type 0} → (Data → Option A) → List A → List Json → Option (List A)
joined form done rest = option_map (λ vs. done ++ vs) (list_in form (items_view rest))

join-more : {A : Type 0} (done : List A) (v : A) (more : Option (List A)) → option_map (λ vs. done ++ vs) (option_map (λ vs. v ∷ vs) more) ≡ option_map (λ vs. (done ++ v ∷ []) ++ vs) more
join-more done v None = refl
join-more done v (Some vs) = ap Some (sym (append_assoc done (v ∷ []) vs))

pub joined-cons : {A : Type 0} (form : Data → Option A) (done : List A) (j : Json) (rest : List Json) (v : A) → form (view j) ≡ Some v → joined form done (j ∷ rest) ≡ joined form (done ++ v ∷ []) rest
joined-cons form done j rest v e = rw e (join-more done v (list_in form (items_view rest)))

pub joined-none : {A : Type 0} (form : Data → Option A) (done : List A) (j : Json) (rest : List Json) → form (view j) ≡ None → joined form done (j ∷ rest) ≡ None
joined-none form done j rest e = rw e refl

pub joined-at : {A : Type 0} (form : Data → Option A) (done : List A) (js : List Json) (i : ℕ) (j : Json) (v : A) → i < length js → j ≡ get_or js i j → Some v ≡ form (view j) → joined form done (drop i js) ≡ joined form (done ++ v ∷ []) (drop (i + 1) js)
joined-at form done js i j v h is e = rw (drop-cons js i j, ← is, add-one) (joined-cons form done j (drop (suc i) js) v (sym e))

pub joined-stop : {A : Type 0} (form : Data → Option A) (done : List A) (js : List Json) (i : ℕ) (j : Json) → i < length js → j ≡ get_or js i j → None ≡ form (view j) → joined form done (drop i js) ≡ None
joined-stop form done js i j h is e = rw (drop-cons js i j, ← is) (joined-none form done j (drop (suc i) js) (sym e))

-- one more element that is written
pub written-more : {A : Type 0} (write : A → Data) (cs : List A) (c : A) → list_items write (cs ++ c ∷ []) ≡ append-items (list_items write cs) (write c)
written-more write [] c = refl
written-more write (d ∷ cs) c = ap (item (write d)) (written-more write cs c)

pub viewed-more : (js : List Json) (j : Json) → items_view (js ++ j ∷ []) ≡ append-items (items_view js) (view j)
viewed-more [] j = refl
viewed-more (k ∷ js) j = ap (item (view k)) (viewed-more js j)

-- no list has a fraction where no element has one, nor does it nest deeper
pub list_has_no_float : {A : Type 0} (write : A → Data) (plain : (a : A) → has_float (write a) ≡ false) (xs : List A) → items_have_float (list_items write xs) ≡ false
list_has_no_float write plain [] = refl
list_has_no_float write plain (a ∷ more) = rw (plain a) (list_has_no_float write plain more)

cell_has_no_float : (v : Value) → has_float (cell_data v) ≡ false
cell_has_no_float Null = refl
cell_has_no_float (Int (pos n)) = refl
cell_has_no_float (Int (negsuc n)) = refl
cell_has_no_float (Text s) = refl

pub no_float : (cs : List Value) → items_have_float (list_items cell_data cs) ≡ false
no_float cs = list_has_no_float cell_data cell_has_no_float cs

pub flat : (cs : List Value) → items_depth (list_items cell_data cs) ≡ 0
flat [] = refl
flat (Null ∷ cs) = rw (flat cs) refl
flat (Int z ∷ cs) = rw (flat cs) refl
flat (Text s ∷ cs) = rw (flat cs) refl

read-first : {A : Type 0} (a : Option A) → option_and_then (λ v. option_map (λ vs. v ∷ vs) (Some [])) a ≡ option_map (λ v. [] ++ v ∷ []) a
read-first None = refl
read-first (Some v) = refl

read-then : {A : Type 0} (a : Option A) (b : Option (List A)) (c : Option A)
    → option_and_then (λ v. option_map (λ vs. v ∷ vs) (option_and_then (λ vs. option_map (λ w. vs ++ w ∷ []) c) b)) a
    ≡ option_and_then (λ vs. option_map (λ w. vs ++ w ∷ []) c) (option_and_then (λ v. option_map (λ vs. v ∷ vs) b) a)
read-then None b c = refl
read-then (Some v) None c = refl
read-then (Some v) (Some vs) None = refl
read-then (Some v) (Some vs) (Some w) = refl

read-more : {A : Type 0} (form : Data → Option A) (ds : Items) (d : Data) → list_in form (append-items ds d) ≡ option_and_then (λ vs. option_map (λ v. vs ++ v ∷ []) (form d)) (list_in form ds)
read-more form no_items d = read-first (form d)
read-more form (item e ds) d = rw (read-more form ds d) (read-then (form e) (list_in form ds) (form d))

-- what is written of the elements so far reads as them, and so it does with one more
pub read-after : {A : Type 0} (form : Data → Option A) (js : List Json) (j : Json) (vs : List A) (v : A) → list_in form (items_view js) ≡ Some vs → form (view j) ≡ Some v → list_in form (items_view (js ++ j ∷ [])) ≡ Some (vs ++ v ∷ [])
read-after form js j vs v e f = rw (viewed-more js j, read-more form (items_view js) (view j), e, f) refl
