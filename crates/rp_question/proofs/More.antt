-- The rows of one input more, and the first fault behind inputs that have rows.
use Rattle.std.proofs.Common.{arith, ◌≡◌, ◌∙◌, ◌+◌, ℕ, suc, zero, List, [], ◌∷◌, ◌++◌, length, take, drop, Option, Some, None, IfErr, IfSome, Result, Err, refl, rules, sym, ap, subst, append_assoc}
use Rattle.std.proofs.lemmas.List.{append-nil, length-append, take-append-drop, take_all}
use Rattle.std.proofs.lemmas.Option.{get_or_from_slice_get, slice_get_within}
use Rattle.std.proofs.Math.Seq.{take-suc}
use Rattle.std.specs.List.{slice_get}
use Rattle.rp_value.specs.declared.value.Value.{Value}
use Rattle.rp_question.specs.Adding.{AddsRows, AddsRowsAt, AreRowsOfFirst, AreRowsRead, IsFaultAmong, IsFaultAt, IsFaultOfInput}
use Rattle.rp_question.specs.Inputs.{AreAsKnown, InputsSeen}
use Rattle.rp_question.specs.Read.{AreNoRows, AreRowsIn, AreRowsOfAll, IsFirstFaultOf, IsInputsFault}
use Rattle.rp_question.specs.declared.fault.InputFault.{InputFault}
use Rattle.rp_question.specs.declared.fault.InputFault.TheVariants.{Unread, Table, Columns, Objects, OutOfMemory}
use Rattle.rp_question.specs.declared.reading.Reading.{Reading}

one_more : (n : ℕ) → n + 1 ≡ suc n
one_more n = omega arith

take_next : {X : Type 0} (xs : List X) (n : ℕ) (x : X) → slice_get xs n ≡ Some x → take (n + 1) xs ≡ take n xs ++ x ∷ []
take_next xs n x is = ap (λ m. take m xs) (one_more n) ∙ take-suc xs n x (slice_get_within xs n x is)
    ∙ ap (λ y. take n xs ++ y ∷ []) (get_or_from_slice_get xs n x x is)

drop_next : {X : Type 0} (xs : List X) (n : ℕ) (x : X) → slice_get xs n ≡ Some x → drop n xs ≡ x ∷ drop (suc n) xs
drop_next [] n x is = search rules
drop_next (y ∷ ys) zero x is = ap (λ z. z ∷ ys) (search rules)
drop_next (y ∷ ys) (suc n) x is = drop_next ys n x is

module _ (r : Reading) where
  all_more : (texts : List (List ℕ)) (rows : List (List Value)) (text : List ℕ) (here : List (List Value)) →
      AreRowsOfAll r texts rows → AreRowsIn r text here → AreRowsOfAll r (texts ++ text ∷ []) (rows ++ here)
  all_more [] rows text here none is = (here, [], is, refl, ap (λ xs. xs ++ here) none ∙ sym (append-nil here))
  all_more (t ∷ ts) rows text here all is =
      (all.0, all.1 ++ here, all.2, all_more ts all.1 text here all.3 is, ap (λ xs. xs ++ here) all.4 ∙ append_assoc all.0 all.1 here)

  -- ---- the first so many

  with_next : (texts : List (List ℕ)) (n : ℕ) (old new : List (List Value)) (given : Option (List ℕ)) → slice_get texts n ≡ given →
      AddsRows r given old new → AreRowsOfAll r (take n texts) old → AreRowsOfAll r (take (n + 1) texts) new
  with_next texts n old new None is added are = absurd added
  with_next texts n old new (Some text) is added are =
      subst (λ front. AreRowsOfAll r front new) (sym (take_next texts n text is))
      (subst (AreRowsOfAll r (take n texts ++ text ∷ [])) (sym added.2) (all_more (take n texts) old text added.0 are added.1))

  pub first_more : (known : Option (List (List ℕ))) (n : ℕ) (old new : List (List Value)) →
      AddsRowsAt r known n old new → AreRowsOfFirst r known n old → AreRowsOfFirst r known (n + 1) new
  first_more None n old new added are =
      let text = added.0 in
      let all = all_more are.0 old text added.1.0 are.2 added.1.1 in
      (are.0 ++ text ∷ [], length-append are.0 (text ∷ []) ∙ ap (λ m. m + 1) are.1, subst (AreRowsOfAll r (are.0 ++ text ∷ [])) (sym added.1.2) all)
  first_more (Some texts) n old new added are = with_next texts n old new (slice_get texts n) refl added are

  -- ---- all of them

  read_by : (inputs : InputsSeen) (known : Option (List (List ℕ))) → inputs.texts ≡ known → (rows : List (List Value)) →
      IfSome known (λ texts. inputs.count ≡ length texts) → AreRowsOfFirst r known inputs.count rows → AreRowsRead r inputs rows
  read_by inputs None is rows many first = record {
    texts = first.0;
    are = record { each = first.1; known = subst (λ k. AreAsKnown k first.0) (sym is) tt };
    read = first.2;
  }
  read_by inputs (Some texts) is rows many first = record {
    texts = texts;
    are = record { each = sym many; known = subst (λ k. AreAsKnown k texts) (sym is) refl };
    read = subst (λ t. AreRowsOfAll r t rows) (ap (λ n. take n texts) many ∙ take_all (length texts) texts (omega arith)) first;
  }

  pub read_all : (inputs : InputsSeen) (n : ℕ) (rows : List (List Value)) → n ≡ inputs.count →
      IfSome inputs.texts (λ texts. n ≡ length texts) → AreRowsOfFirst r inputs.texts n rows → AreRowsRead r inputs rows
  read_all inputs n rows is many first =
      read_by inputs inputs.texts refl rows
      (subst (λ m. IfSome inputs.texts (λ texts. m ≡ length texts)) is many)
      (subst (λ m. AreRowsOfFirst r inputs.texts m rows) is first)

  -- ---- the first fault

  split_at : (texts : List (List ℕ)) (n : ℕ) (text : List ℕ) → slice_get texts n ≡ Some text → texts ≡ take n texts ++ text ∷ drop (suc n) texts
  split_at texts n text is = sym (take-append-drop n texts) ∙ ap (λ rest. take n texts ++ rest) (drop_next texts n text is)

  faulty : (texts : List (List ℕ)) (n : ℕ) (rows : List (List Value)) (why : InputFault) (given : Option (List ℕ)) → slice_get texts n ≡ given →
      IsFaultAmong r given why → AreRowsOfAll r (take n texts) rows → IsFirstFaultOf r texts why
  faulty texts n rows why None is fault are = absurd fault
  faulty texts n rows why (Some text) is fault are = record {
    before = take n texts;
    text = text;
    after = drop (suc n) texts;
    rows = rows;
    all = split_at texts n text is;
    are = are;
    is = fault;
  }

  fault_at : (texts : List (List ℕ)) (n : ℕ) (rows : List (List Value)) (why : InputFault) →
      IsFaultAt r (slice_get texts n) why → AreRowsOfAll r (take n texts) rows → IsInputsFault r texts why
  fault_at texts n rows Unread fault are = tt
  fault_at texts n rows OutOfMemory fault are = tt
  fault_at texts n rows (Table why) fault are = faulty texts n rows (Table why) (slice_get texts n) refl fault are
  fault_at texts n rows (Columns why) fault are = faulty texts n rows (Columns why) (slice_get texts n) refl fault are
  fault_at texts n rows (Objects why) fault are = faulty texts n rows (Objects why) (slice_get texts n) refl fault are

  -- a text that is no rows, behind others that are
  fault_behind : (texts : List (List ℕ)) (text : List ℕ) (rows : List (List Value)) (why : InputFault) →
      IsFaultAt r (Some text) why → AreRowsOfAll r texts rows → IsInputsFault r (texts ++ text ∷ []) why
  fault_behind texts text rows Unread fault are = tt
  fault_behind texts text rows OutOfMemory fault are = tt
  fault_behind texts text rows (Table why) fault are =
      record { before = texts; text = text; after = []; rows = rows; all = refl; are = are; is = fault }
  fault_behind texts text rows (Columns why) fault are =
      record { before = texts; text = text; after = []; rows = rows; all = refl; are = are; is = fault }
  fault_behind texts text rows (Objects why) fault are =
      record { before = texts; text = text; after = []; rows = rows; all = refl; are = are; is = fault }

  no_rows_by : (inputs : InputsSeen) (known : Option (List (List ℕ))) → inputs.texts ≡ known → (n : ℕ) (rows : List (List Value)) (why : InputFault) →
      IsFaultOfInput r known n why → AreRowsOfFirst r known n rows → AreNoRows r inputs why
  no_rows_by inputs None is n rows why fault are =
      let texts = are.0 ++ fault.0 ∷ [] in
      (texts, subst (λ k. AreAsKnown k texts) (sym is) tt, fault_behind are.0 fault.0 rows why fault.1 are.2)
  no_rows_by inputs (Some texts) is n rows why fault are =
      (texts, subst (λ k. AreAsKnown k texts) (sym is) refl, fault_at texts n rows why fault are)

  pub first_fault : (inputs : InputsSeen) (n : ℕ) (rows : List (List Value)) (why : InputFault) →
      IsFaultOfInput r inputs.texts n why → AreRowsOfFirst r inputs.texts n rows → AreNoRows r inputs why
  first_fault inputs n rows why fault are = no_rows_by inputs inputs.texts refl n rows why fault are

pub if_err_is : {X : Type 0} (r : Result X InputFault) (why : InputFault) (P : InputFault → Type 0) → r ≡ Err why → P why → IfErr r P
if_err_is r why P is h = subst (λ t. IfErr t P) (sym is) h
