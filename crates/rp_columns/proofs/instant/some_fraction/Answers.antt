use Rattle.std.proofs.Common.{◌≡◌, ◌∙◌, ap, sym, arith, refl}
use Rattle.std.specs.Int.Digits.{number_from_digits}
use Rattle.rp_columns.specs.Fronts.{leading_digits, placed}
use Rattle.rp_columns.proofs.Fractions.{fraction_is, fraction_small, no_fraction}
use Rattle.rp_columns.proofs.instant.some_fraction.Goals as goal

pub returns-then-not-begins_with_digit-clause-value : goal.returns-then-not-begins_with_digit-clause-value
returns-then-not-begins_with_digit-clause-value c = sym (no_fraction c.args.places c.args.bytes.now (sym c.begins_with_digit.ensures ∙ c.if-not-begins_with_digit.true))

pub overflow_cast-result : goal.overflow_cast-result
overflow_cast-result c =
    let small = fraction_small c.args.places c.args.bytes.now c.requires in
    let value : c.in-Some.value ≡ number_from_digits 10 (placed c.args.places (leading_digits c.args.bytes.now).0) = rw c.in-Some.is at (c.placed-value.ensures.value 0 refl) in
    omega (arith, small, value)

pub unreachable-requires : goal.unreachable-requires
unreachable-requires c =
    let small = fraction_small c.args.places c.args.bytes.now c.requires in
    let large = rw c.in-None.is at (c.placed-value.ensures.value 0 refl) in
    omega (arith, small, large)

pub returns-clause-value : goal.returns-clause-value
returns-clause-value c =
    let value : c.in-Some.value ≡ number_from_digits 10 (placed c.args.places (leading_digits c.args.bytes.now).0) = rw c.in-Some.is at (c.placed-value.ensures.value 0 refl) in
    let rest : c.leading_digits.result.rest.now ≡ (leading_digits c.args.bytes.now).1 = c.leading_digits.ensures.rest ∙ ap (λ p. p.1) c.placed-value.ensures.rest in
    rw (value, rest) (sym (fraction_is c.args.places c.args.bytes.now (sym c.begins_with_digit.ensures ∙ c.if-not-begins_with_digit.false)))

pub returns-clause-bound : goal.returns-clause-bound
returns-clause-bound c =
    let small = fraction_small c.args.places c.args.bytes.now c.requires in
    let value : c.in-Some.value ≡ number_from_digits 10 (placed c.args.places (leading_digits c.args.bytes.now).0) = rw c.in-Some.is at (c.placed-value.ensures.value 0 refl) in
    omega (arith, small, value)
