-- A text of digits, from what was parsed.
use Rattle.std.proofs.Common.{◌≡◌, ℕ, ◌<◌, ◌^◌, List, refl, sym, ◌∙◌, ap, true, false, true≢false, arith, Bool}
use Rattle.std.specs.Prelude.{◌&&◌, Option, Some, None, Result, Ok, Err, decimal, nat_eq, nat_lt, if◌then◌else◌, IsUtf8}
use Rattle.std.specs.Cmp.Lexicographic.{pointwise, bytes_decides}
use Rattle.std.specs.Str.Parse.{digits_value, ParsesUnsigned}
use Rattle.std.proofs.lemmas.Bool.{ltb-true, lt-ltb}
use Rattle.std.proofs.lemmas.Fmt.{decimal_is_IsNumeral_wide, parse-decimal_wide, IsAscii-decimal_wide}
use Rattle.std.proofs.lemmas.Str.{IsUtf8-from_ascii}
use Rattle.rp_json.specs.Digits.{digits_of, is_text_of}

both : (a b : Bool) → a && b ≡ true → (a ≡ true) × (b ≡ true)
both true b e = (refl, e)
both false b e = absurd (true≢false (sym e))

-- what a text and a number have to do with one another
read_as : (text : List ℕ) (n : ℕ) → is_text_of text n ≡ true → (n < 2 ^ 128) × (text ≡ decimal n)
read_as text n e =
    let (small, same) = both (nat_lt n (2 ^ 128)) (pointwise nat_eq text (decimal n)) e in
    (ltb-true n (2 ^ 128) small, (bytes_decides text (decimal n)).0 same)

-- the text of a number reads as it
pub digits_of-decimal : (n : ℕ) → n < 2 ^ 128 → digits_of (decimal n) ≡ Some n
digits_of-decimal n small =
    let value : digits_value 10 (decimal n) ≡ n = (decimal_is_IsNumeral_wide n (omega (arith, small))).1 in
    let same : pointwise nat_eq (decimal n) (decimal n) ≡ true = (bytes_decides (decimal n) (decimal n)).1 refl in
    rw (value, lt-ltb n (2 ^ 128) small, same) refl

-- what was parsed, where it is written as the text again
abbrev pub checked : {E : Type 0} → Result ℕ E → List ℕ → Option ℕ
checked (Ok n) text = if pointwise nat_eq text (decimal n) then Some n else None
checked (Err e) text = None

parsed_small : {E : Type 0} (text : List ℕ) (n : ℕ) (r : Result ℕ E) → r ≡ Ok n → ParsesUnsigned 128 10 text r → n < 2 ^ 128
parsed_small text n (Ok m) e h = let same : m ≡ n = cc in rw (← same, h.1) h.0.1
parsed_small text n (Err x) e h = absurd cc

pub digits_parsed : {E : Type 0} (text : List ℕ) (r : Result ℕ E) → ParsesUnsigned 128 10 text r → digits_of text ≡ checked r text
digits_parsed {E} text r h = go (is_text_of text (digits_value 10 text)) refl
  where
    v : ℕ
    v = digits_value 10 text

    is : is_text_of text v ≡ true → r ≡ Ok v
    is e = let (small, same) = read_as text v e in parse-decimal_wide 128 v text r small (omega (arith, small)) same h

    shown : is_text_of text v ≡ true → checked r text ≡ Some v
    shown e = rw (is e, (bytes_decides text (decimal v)).1 (read_as text v e).1) refl

    here : (n : ℕ) → r ≡ Ok n → text ≡ decimal n → is_text_of text v ≡ true
    here n e same =
        let small = parsed_small text n r e h in
        let value : digits_value 10 text ≡ n = ap (digits_value 10) same ∙ (decimal_is_IsNumeral_wide n (omega (arith, small))).1 in
        rw (value, lt-ltb n (2 ^ 128) small, (bytes_decides text (decimal n)).1 same) refl

    none : is_text_of text v ≡ false → (q : Result ℕ E) → r ≡ q → None ≡ checked q text
    none e (Err x) was = refl
    none e (Ok n) was = at (pointwise nat_eq text (decimal n)) refl
      where
        at : (b : Bool) → pointwise nat_eq text (decimal n) ≡ b → None ≡ (if b then Some n else None)
        at false f = refl
        at true f = absurd (true≢false (sym (here n was ((bytes_decides text (decimal n)).0 f)) ∙ e))

    go : (b : Bool) → is_text_of text v ≡ b → (if b then Some v else None) ≡ checked r text
    go true e = sym (shown e)
    go false e = none e r refl

-- a text of digits is UTF-8
pub digits_utf8 : (text : List ℕ) → (IsUtf8 text → ⊥) → digits_of text ≡ None
digits_utf8 text bad = go (is_text_of text (digits_value 10 text)) refl
  where
    v : ℕ
    v = digits_value 10 text

    go : (b : Bool) → is_text_of text v ≡ b → (if b then Some v else None) ≡ None
    go false e = refl
    go true e = let (small, same) = read_as text v e in absurd (bad (rw same (IsUtf8-from_ascii (decimal v) (IsAscii-decimal_wide v (omega (arith, small))))))
