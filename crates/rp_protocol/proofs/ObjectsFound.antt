-- An object's text is read back, and has each cell under the name of its column.
use Rattle.std.proofs.Common.{◌≡◌, ◌∙◌, ◌<◌, ◌≤◌, ℕ, zero, suc, max, Bool, true, false, List, [], ◌∷◌, ◌++◌, map, length, Option, Some, None, cond, refl, ap, sym, arith, get_or}
use Rattle.std.specs.Prelude.{zip}
use Rattle.std.specs.List.{AllZip, AllByRecursion, flat_map}
use Rattle.std.specs.Str.{bytes_eq}
use Rattle.std.proofs.lemmas.List.Elements.{recursion_from_All}
use Rattle.std.proofs.lemmas.Slice.Eq.{bytes_eq-Decides}
use Rattle.json.specs.Find.{get_member, later_or}
use Rattle.json.specs.Json.{Json, Members, document, no_members, object}
use Rattle.json.specs.Print.{print}
use Rattle.json.specs.Strict.{AreDistinct}
use Rattle.json.specs.Token.{Token, key, end_object, begin_object}
use Rattle.json.specs.Tree.{HasNumbers, MembersHaveNumbers, depth, json_tokens, members_depth, members_tokens}
use Rattle.json.proofs.Printed.Decimals.{IsNumber-signed_decimal}
use Rattle.json.proofs.Printed.Trees.{document-print}
use Rattle.rp_value.specs.declared.value.Value.{Value}
use Rattle.rp_value.specs.declared.value.Value.TheVariants.{Null, Int, Text}
use Rattle.rp_query.specs.declared.query.OutputColumn.{OutputColumn}
use Rattle.rp_protocol.specs.ObjectTexts.{Field, object_text}
use Rattle.rp_protocol.specs.ObjectsRead.{ObjectsHaveCells, ObjectsReadBack, json_of, members_of, names_of, object_of}
use Rattle.rp_protocol.specs.Tokens.{field_tokens, object_tokens, value_token}
use Rattle.rp_protocol.specs.Within.{AreCells, IsCell}
use Rattle.rp_protocol.proofs.Objects.{object_print}

-- ---- what is read

cell_number : (v : Value) → IsCell v → HasNumbers (json_of v)
cell_number Null h = tt
cell_number (Int z) h = IsNumber-signed_decimal z h
cell_number (Text s) h = tt

cell_depth : (v : Value) → depth (json_of v) ≡ 0
cell_depth Null = refl
cell_depth (Int z) = refl
cell_depth (Text s) = refl

have_numbers : (columns : List OutputColumn) (cells : List Value) → AllByRecursion IsCell cells → MembersHaveNumbers (members_of (zip columns cells))
have_numbers [] cells h = tt
have_numbers (o ∷ os) [] h = tt
have_numbers (o ∷ os) (v ∷ vs) h = (cell_number v h.0, have_numbers os vs h.1)

shallow : (columns : List OutputColumn) (cells : List Value) → members_depth (members_of (zip columns cells)) ≤ 0
shallow [] cells = omega arith
shallow (o ∷ os) [] = omega arith
shallow (o ∷ os) (v ∷ vs) = omega (arith, cell_depth v, shallow os vs)

one_token : (v : Value) (ts : List Token) → json_tokens (json_of v) ++ ts ≡ value_token v ∷ ts
one_token Null ts = refl
one_token (Int z) ts = refl
one_token (Text s) ts = refl

same_tokens : (fs : List Field) → flat_map field_tokens fs ++ end_object ∷ [] ≡ members_tokens (members_of fs)
same_tokens [] = refl
same_tokens (f ∷ fs) =
    ap (λ ts. key f.0.name ∷ value_token f.1 ∷ ts) (same_tokens fs)
    ∙ ap (λ ts. key f.0.name ∷ ts) (sym (one_token f.1 (members_tokens (members_of fs))))

pub objects_read : ObjectsReadBack
objects_read columns cells within =
    let json = object_of columns cells in
    let text : object_text columns cells ≡ print (json_tokens json) =
    sym (object_print columns cells) ∙ ap (λ ts. print (begin_object ∷ ts)) (same_tokens (zip columns cells)) in
    ap document text
    ∙ document-print json (have_numbers columns cells (recursion_from_All IsCell cells within)) (omega (arith, shallow columns cells))

-- ---- where it is found

-- the names are not this one
abbrev AreOthers : List ℕ → List (List ℕ) → Type 0
AreOthers name names = AllByRecursion (λ other. name ≡ other → ⊥) names

abbrev AreApart : List (List ℕ) → Type 0
AreApart [] = Unit {0}
AreApart (name ∷ names) = AreOthers name names × AreApart names

others : (name : List ℕ) (names : List (List ℕ)) → ((j : ℕ) (d : List ℕ) → j < length names → name ≡ get_or names j d → ⊥) → AreOthers name names
others name [] h = tt
others name (n ∷ ns) h = (h 0 n (omega arith), others name ns (λ j d low. h (suc j) d (omega arith)))

apart : (names : List (List ℕ)) → AreDistinct names → AreApart names
apart [] h = tt
apart (n ∷ ns) h = (others n ns (λ j d low. h 0 (suc j) d (omega arith) (omega arith)), apart ns (λ i j d less low. h (suc i) (suc j) d (omega arith) (omega arith)))

differ : (a b : List ℕ) → (b ≡ a → ⊥) → bytes_eq a b ≡ false
differ a b h = go (bytes_eq a b) refl
  where
    go : (t : Bool) → bytes_eq a b ≡ t → t ≡ false
    go true e = absurd (h (sym ((bytes_eq-Decides a b).0 e)))
    go false e = refl

absent : (name : List ℕ) (columns : List OutputColumn) (cells : List Value) → AreOthers name (names_of columns) → get_member name (members_of (zip columns cells)) ≡ None
absent name [] cells h = refl
absent name (o ∷ os) [] h = refl
absent name (o ∷ os) (v ∷ vs) h =
    ap (λ later. later_or later (cond (bytes_eq o.name name) (Some (json_of v)) None)) (absent name os vs h.1)
    ∙ ap (λ b. cond b (Some (json_of v)) None) (differ o.name name h.0)

here : (o : OutputColumn) (v : Value) (os : List OutputColumn) (vs : List Value) → AreOthers o.name (names_of os) → get_member o.name (members_of (zip (o ∷ os) (v ∷ vs))) ≡ Some (json_of v)
here o v os vs h =
    ap (λ later. later_or later (cond (bytes_eq o.name o.name) (Some (json_of v)) None)) (absent o.name os vs h)
    ∙ ap (λ b. cond b (Some (json_of v)) None) ((bytes_eq-Decides o.name o.name).1 refl)

-- what is found among later members is found
abbrev InMembers : Members → List OutputColumn → List Value → Type 0
InMembers ms columns cells = AllZip (λ o v. get_member o.name ms ≡ Some (json_of v)) columns cells

later : (f : Field) (fs : List Field) (os : List OutputColumn) (vs : List Value) → InMembers (members_of fs) os vs → InMembers (members_of (f ∷ fs)) os vs
later f fs [] [] h = tt
later f fs [] (v ∷ vs) h = absurd h
later f fs (o ∷ os) [] h = absurd h
later f fs (o ∷ os) (v ∷ vs) h =
    (ap (λ found. later_or found (cond (bytes_eq f.0.name o.name) (Some (json_of f.1)) None)) h.0, later f fs os vs h.1)

found : (columns : List OutputColumn) (cells : List Value) → length cells ≡ length columns → AreApart (names_of columns) → InMembers (members_of (zip columns cells)) columns cells
found [] [] many names = tt
found [] (v ∷ vs) many names = absurd (omega (arith, many))
found (o ∷ os) [] many names = absurd (omega (arith, many))
found (o ∷ os) (v ∷ vs) many names =
    (here o v os vs names.0, later (o, v) (zip os vs) os vs (found os vs (omega (arith, many)) names.1))

pub objects_have : ObjectsHaveCells
objects_have columns cells many distinct = found columns cells many (apart (names_of columns) distinct)
