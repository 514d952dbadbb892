-- What the typed getters read of a value.
use Rattle.std.proofs.Common.{◌≡◌, ◌∙◌, ◌==◌, ◌<◌, ◌≤◌, ◌||◌, ℕ, Bool, cond, true, false, drop, List, [], ◌∷◌, length, map, Option, Some, None, is_some, refl, sym, ap, subst, arith, codes, true≢false}
use Rattle.std.specs.Prelude.{Err, Ok, Result, find, option_and_then, option_map, pos, slice_get, unwrap_or}
use Rattle.std.specs.Borrow.{Bor}
use Rattle.std.specs.Str.{bytes_eq}
use Rattle.std.specs.Str.Parse.{IsNumeral, ParsesUnsigned, starts_with_minus, without_leading_plus}
use Rattle.std.proofs.lemmas.Int.{ints}
use Rattle.std.proofs.lemmas.Slice.Eq.{bytes_eq-Decides}
use Rattle.clap.proofs.WalkLemmas.{first_value-rows, raw_values-rows}
use Rattle.clap.specs.Lexer.{without_minus}
use Rattle.clap.specs.Matches.{ReadsOne, first_value, matched_of, one_text, raw_values}
use Rattle.clap.specs.Values.{Accepts, IsSignedIn, read_as, reading_of}
use Rattle.clap.specs.Walk.{Row, Text, all_of, first_of, rows_of}
use Rattle.clap.specs.declared.builder.value_parser.ValueParser.TheVariants as parser
use Rattle.clap.specs.declared.builder.value_parser.Reading.{Reading}
use Rattle.clap.specs.declared.parser.matches.Found.{Found}
use Rattle.clap.specs.declared.parser.matches.MatchedArg.{MatchedArg}
use Rattle.rp_command.specs.Values.{HasFlag, HasNumberIfAny, HasTexts, HasTextsIfAny, ReadsAs, number_parser}

pub first_rows : (f : Found) (id : Text) → first_value f id ≡ first_of id (rows_of f)
first_rows = first_value-rows

-- ---- numbers

without_minus-cond : (t : Text) → without_minus t ≡ cond (starts_with_minus t) (drop 1 t) t
without_minus-cond [] = refl
without_minus-cond (x ∷ xs) = go (x == 45)
  where
    go : (b : Bool) → unwrap_or (cond b (Some xs) None) (x ∷ xs) ≡ cond b xs (x ∷ xs)
    go true = refl
    go false = refl

-- the number of a text, as a getter's answer
abbrev IsNumberOf : Text → Option ℕ → Type 0
IsNumberOf t r = (n : ℕ) × (r ≡ Some n) × ReadsAs t n × (1 ≤ n) × (n ≤ 4294967295)

-- a text that passed as a number from 1 on has no minus, and reads as that number
number_of_text : (E : Type 0) (G : Text → Result ℕ E → Type 0) (t : Text) (r : Option ℕ)
    → ReadsOne G (without_minus t) r → ((u : Text) (x : Result ℕ E) → G u x → ParsesUnsigned 32 10 u x)
    → IsSignedIn (pos 1) (pos 4294967295) t → IsNumberOf t r
number_of_text E G t r read only passed =
    go (starts_with_minus t) refl r (subst (λ (u : Text). ReadsOne G u r) (without_minus-cond t) read)
  where
    go : (b : Bool) → starts_with_minus t ≡ b → (o : Option ℕ) → ReadsOne G (cond (starts_with_minus t) (drop 1 t) t) o → IsNumberOf t o
    go true minus o h =
        let low = rw minus at passed.2 in
        absurd (omega (arith, ints))
    go false minus (Some v) h =
        let low = rw minus at passed.2 in
        let high = rw minus at passed.3 in
        let numeral : IsNumeral 10 (without_leading_plus t) = rw minus at passed.0 in
        let parsed = only t (Ok v) (rw minus at h) in
        (v, refl, (numeral, parsed.1), rw parsed.1 (omega (arith, ints)), rw parsed.1 (omega (arith, ints)))
    go false minus None h =
        let low = rw minus at passed.2 in
        let high = rw minus at passed.3 in
        let numeral = rw minus at passed.0 in
        absurd (only t (Err h.0) (rw minus at h.1) (numeral, omega (arith, ints)))

none_read : (vs : List (Bor Text)) (how : Reading) → option_map (λ s. s.now) (slice_get vs 0) ≡ None
    → option_map (λ s. read_as how s.now) (slice_get vs 0) ≡ None
none_read [] how is = refl
none_read (v ∷ vs) how is = cc

no_text : (f : Found) (id : Text) → first_value f id ≡ None → one_text f id ≡ None
no_text f id none = go (matched_of f id) refl none
  where
    go : (o : Option MatchedArg) → matched_of f id ≡ o → option_and_then (λ x. option_map (λ s. s.now) (slice_get x.vals.items 0)) o ≡ None
        → one_text f id ≡ None
    go None e is = rw e refl
    go (Some x) e is = rw e (none_read x.vals.items x.reading is)

pub number_read : (E : Type 0) (G : Text → Result ℕ E → Type 0) (f : Found) (id : Text) (r : Option ℕ)
    → (one_text f id ≡ None → r ≡ None) → ((t : Text) → one_text f id ≡ Some t → ReadsOne G t r)
    → ((u : Text) (x : Result ℕ E) → G u x → ParsesUnsigned 32 10 u x)
    → ((t : Text) → first_value f id ≡ Some t → Accepts false number_parser t × (one_text f id ≡ Some (read_as (reading_of number_parser) t)))
    → HasNumberIfAny (rows_of f) id r
number_read E G f id r none read only passes = go (first_value f id) refl
  where
    go : (o : Option Text) → first_value f id ≡ o → HasNumberIfAny (rows_of f) id r
    go None e = subst (HasNumberIfAny (rows_of f) id) (sym (none (no_text f id e))) (sym (first_value-rows f id) ∙ e)
    go (Some t) e =
        let pass = passes t e in
        let n = number_of_text E G t r (read (without_minus t) pass.1) only pass.0 in
        subst (HasNumberIfAny (rows_of f) id) (sym n.1) (t, sym (first_value-rows f id) ∙ e, n.2, n.3, n.4)

-- ---- flags

pub flag_read : (f : Found) (id : Text) (b : Bool)
    → (one_text f id ≡ None → b ≡ false) → (one_text f id ≡ Some (codes "true") → b ≡ true) → (one_text f id ≡ Some (codes "false") → b ≡ false)
    → ((t : Text) → first_value f id ≡ Some t → Accepts false parser.Bool t × (one_text f id ≡ Some (read_as (reading_of parser.Bool) t)))
    → HasFlag (rows_of f) id b
flag_read f id b none set clear passes = go (first_value f id) refl
  where
    unset : (o : Option Text) → first_value f id ≡ o → (o ≡ Some (codes "true") → ⊥) → b ≡ false → HasFlag (rows_of f) id b
    unset o e other is = subst (HasFlag (rows_of f) id) (sym is) (λ h. other (sym e ∙ (first_value-rows f id ∙ h)))

    is_no : (t : Text) → first_value f id ≡ Some t → t ≡ codes "false" → one_text f id ≡ Some t → HasFlag (rows_of f) id b
    is_no t e is one = unset (Some t) e (λ h.
        let first : 102 ≡ 116 = ap (λ (o : Option Text). unwrap_or (slice_get (unwrap_or o []) 0) 0) (ap Some (sym is) ∙ h) in
        absurd (omega (arith, first))) (clear (one ∙ ap Some is))

    is_yes : (t : Text) → first_value f id ≡ Some t → t ≡ codes "true" → one_text f id ≡ Some t → HasFlag (rows_of f) id b
    is_yes t e is one = subst (HasFlag (rows_of f) id) (sym (set (one ∙ ap Some is))) (sym (first_value-rows f id) ∙ (e ∙ ap Some is))

    choose : (t : Text) → first_value f id ≡ Some t → one_text f id ≡ Some t → (q : Bool) → bytes_eq t (codes "true") ≡ q
        → (q || bytes_eq t (codes "false")) ≡ true → HasFlag (rows_of f) id b
    choose t e one true is pass = is_yes t e ((bytes_eq-Decides _ _).0 is) one
    choose t e one false is pass = is_no t e ((bytes_eq-Decides _ _).0 pass) one

    go : (o : Option Text) → first_value f id ≡ o → HasFlag (rows_of f) id b
    go None e = unset None e (λ h. cc) (none (no_text f id e))
    go (Some t) e =
        let pass = passes t e in
        choose t e pass.1 (bytes_eq t (codes "true")) refl pass.0

-- ---- texts

-- an argument that has a first value has one value at least
pub some_texts : (rows : List Row) (id : Text) (texts : List Text) → all_of id rows ≡ Some texts → is_some (first_of id rows) ≡ true → 0 < length texts
some_texts rows id texts all some = go (find (λ r. bytes_eq r.id id) rows) all some
  where
    more : (xs : List Text) → is_some (slice_get xs 0) ≡ true → 0 < length xs
    more [] some = cc
    more (x ∷ xs) some = omega arith

    go : (o : Option Row) → option_map (λ (r : Row). r.values) o ≡ Some texts → is_some (option_and_then (λ (r : Row). slice_get r.values 0) o) ≡ true → 0 < length texts
    go None all some = cc
    go (Some r) all some = more texts (subst (λ (xs : List Text). is_some (slice_get xs 0) ≡ true) (ap (λ (o : Option (List Text)). unwrap_or o []) all) some)

pub texts_read : (f : Found) (id : Text) (found : Option (Bor (List (Bor Text)))) (words : Bor (List (Bor Text))) (texts : List Text)
    → option_map (λ s. map (λ v. v.now) s.now) found ≡ option_map raw_values (matched_of f id) → found ≡ Some words
    → texts ≡ map (λ v. v.now) words.now → is_some (first_value f id) ≡ true → HasTexts (rows_of f) id texts
texts_read f id found words texts read is same some =
    let all : all_of id (rows_of f) ≡ Some texts =
    sym (raw_values-rows f id) ∙ (sym read ∙ (ap (option_map (λ (s : Bor (List (Bor Text))). map (λ v. v.now) s.now)) is ∙ ap Some (sym same))) in
    (all, some_texts (rows_of f) id texts all (sym (ap is_some (first_value-rows f id)) ∙ some))

-- the values of an argument that has some, and none of one that has none
pub texts_found : (f : Found) (id : Text) (found : Option (Bor (List (Bor Text)))) (words : Bor (List (Bor Text))) (texts : List Text)
    → option_map (λ s. map (λ v. v.now) s.now) found ≡ option_map raw_values (matched_of f id) → found ≡ Some words
    → texts ≡ map (λ v. v.now) words.now → HasTextsIfAny (rows_of f) id texts
texts_found f id found words texts read is same =
    ap (λ (o : Option (List Text)). unwrap_or o []) (sym (sym (raw_values-rows f id) ∙ (sym read ∙ (ap (option_map (λ (s : Bor (List (Bor Text))). map (λ v. v.now) s.now)) is ∙ ap Some (sym same)))))

pub no_texts_found : (f : Found) (id : Text) (found : Option (Bor (List (Bor Text)))) (texts : List Text)
    → option_map (λ s. map (λ v. v.now) s.now) found ≡ option_map raw_values (matched_of f id) → found ≡ None → texts ≡ []
    → HasTextsIfAny (rows_of f) id texts
no_texts_found f id found texts read is same =
    same ∙ ap (λ (o : Option (List Text)). unwrap_or o []) (sym (sym (raw_values-rows f id) ∙ (sym read ∙ ap (option_map (λ (s : Bor (List (Bor Text))). map (λ v. v.now) s.now)) is)))

-- an argument that has a value has a number, where that is asked of it
pub no_number : (f : Found) (id : Text) (r : Option ℕ) → r ≡ None → HasNumberIfAny (rows_of f) id r → is_some (first_value f id) ≡ true → ⊥
no_number f id r is h some =
    true≢false (sym some ∙ ap is_some (first_value-rows f id ∙ subst (HasNumberIfAny (rows_of f) id) is h))
