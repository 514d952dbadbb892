use Rattle.std.proofs.Common.{◌≡◌, ◌∙◌, ◌++◌, Bool, true, false, length, drop, refl, sym, ap, subst, rules}
use Rattle.std.specs.Prelude.{◌==◌, ◌&&◌, not}
use Rattle.std.specs.Int.Digits.{number_from_digits, number_from_digits_after}
use Rattle.std.proofs.lemmas.Int.Digits.{number_after_append}
use Rattle.rp_columns.specs.Decimals.{behind_point, groups, has_no_digits, is_worthless, without_sign}
use Rattle.rp_columns.specs.Fronts.{are_blanks, begins_with, leading_digits, placed, without_blanks}
use Rattle.rp_columns.specs.Holding.{Holds}
use Rattle.rp_columns.proofs.decimal.decimal.Goals as goal

not_not : (b : Bool) → not (not b) ≡ b
not_not true = refl
not_not false = refl

pub returns : goal.returns
returns c =
    let marks = c.args.marks in
    let number = without_blanks c.args.bytes.now in
    let unsigned = without_sign number in
    let first = leading_digits unsigned in
    let more = groups marks.thousands (length first.0) first.1 in
    let fraction = behind_point marks.point more.1 in
    let last = placed c.args.places fraction.0 in
    let read = c.fraction_of-fraction.result in
    let number_is : c.without_blanks-number.result.now ≡ number = c.without_blanks-number.ensures in
    let unsigned_is : c.without_sign.result.now ≡ unsigned = c.without_sign.ensures ∙ ap without_sign number_is in
    let count_is : c.leading_digits-first.result.count ≡ length first.0 = c.leading_digits-first.ensures.count ∙ ap (λ bs. length (leading_digits bs).0) unsigned_is in
    let rest_is : c.leading_digits-first.result.rest.now ≡ first.1 = c.leading_digits-first.ensures.rest ∙ ap (λ bs. (leading_digits bs).1) unsigned_is in
    let more_is : groups marks.thousands c.leading_digits-first.result.count c.leading_digits-first.result.rest.now ≡ more = ap (λ n. groups marks.thousands n c.leading_digits-first.result.rest.now) count_is ∙ ap (groups marks.thousands (length first.0)) rest_is in
    let left_is : c.groups-more.result.1.now ≡ more.1 = c.groups-more.ensures.rest ∙ ap (λ p. p.1) more_is in
    let fraction_is : behind_point marks.point c.groups-more.result.1.now ≡ fraction = ap (behind_point marks.point) left_is in
    let a : Holds c.leading_digits-first.result.value (number_from_digits_after 10 0 first.0) =
    subst (λ bs. Holds c.leading_digits-first.result.value (number_from_digits_after 10 0 (leading_digits bs).0)) unsigned_is (c.leading_digits-first.ensures.value 0 refl) in
    let b : Holds c.groups-more.result.0 (number_from_digits_after 10 (number_from_digits_after 10 0 first.0) more.0) =
    subst (λ p. Holds c.groups-more.result.0 (number_from_digits_after 10 (number_from_digits_after 10 0 first.0) p.0)) more_is (c.groups-more.ensures.value (number_from_digits_after 10 0 first.0) a) in
    let before = number_from_digits_after 10 (number_from_digits_after 10 0 first.0) more.0 in
    let d : Holds read.value (number_from_digits_after 10 before last) =
    subst (λ p. Holds read.value (number_from_digits_after 10 before (placed c.args.places p.0))) fraction_is (c.fraction_of-fraction.ensures.value before b) in
    let joined : number_from_digits 10 ((first.0 ++ more.0) ++ last) ≡ number_from_digits_after 10 before last =
    number_after_append 10 0 (first.0 ++ more.0) last ∙ ap (λ n. number_from_digits_after 10 n last) (number_after_append 10 0 first.0 more.0) in
    let blank : are_blanks fraction.1 ≡ true = sym (ap (λ p. are_blanks p.1) fraction_is) ∙ sym (ap are_blanks c.fraction_of-fraction.ensures.rest) ∙ search rules in
    let none : not read.has_digits ≡ (length fraction.0 == 0) = ap not (c.fraction_of-fraction.ensures.some ∙ ap (λ p. not (length p.0 == 0)) fraction_is) ∙ not_not (length fraction.0 == 0) in
    let some : has_no_digits first.0 fraction.0 ≡ false =
    ap (λ n. (n == 0) && (length fraction.0 == 0)) (sym count_is) ∙ ap (λ t. (c.leading_digits-first.result.count == 0) && t) (sym none) ∙ sym c.has_no_digits.ensures ∙ search rules in
    let exact : is_worthless (drop c.args.places fraction.0) ≡ true = sym (ap (λ p. is_worthless (drop c.args.places p.0)) fraction_is) ∙ sym c.fraction_of-fraction.ensures.exact ∙ search rules in
    let sign : c.begins_with.result ≡ begins_with 45 number = c.begins_with.ensures ∙ ap (begins_with 45) number_is in
    rw (blank, some, exact) (rw sign at (c.in_range.ensures (number_from_digits 10 ((first.0 ++ more.0) ++ last)) (subst (Holds read.value) (sym joined) d)))
