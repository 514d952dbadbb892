use Rattle.std.proofs.Common.{◌≡◌, ◌∙◌, ◌+◌, ◌-◌, ◌∷◌, suc, drop, arith, ap, subst}
use Rattle.std.proofs.lemmas.List.{drop-drop}
use Rattle.rp_columns.specs.Fronts.{leading_digits, next_place, placed}
use Rattle.rp_columns.proofs.Numbers.{Continues, continues_end, continues_more, next_digit, next_rest}
use Rattle.rp_columns.proofs.fronts.placed.Goals as goal

pub loop-place-preserved : goal.loop-place-preserved
loop-place-preserved c =
    let rest = c.loop-place.rest.now in
    let next = c.next_place-digit.result in
    let left = c.args.places - (c.loop-place.place + 1) in
    let digit : next.0 ≡ (next_place rest).0 = ap (λ p. p.0) c.next_place-digit.ensures in
    let behind : next.1.now ≡ (next_place rest).1 = ap (λ p. p.1) c.next_place-digit.ensures in
    let short : c.args.places - c.loop-place.place ≡ suc left = omega arith in
    let taken : placed (c.args.places - c.loop-place.place) (leading_digits rest).0 ≡ next.0 ∷ placed left (leading_digits next.1.now).0 =
    rw (short, digit, behind) (next_digit left rest) in
    record {
      value = continues_more c.args.before c.loop-place.value c.pushed-value.result (placed c.args.places (leading_digits c.args.bytes.now).0) (placed left (leading_digits next.1.now).0) next.0
          (subst (Continues c.args.before (placed c.args.places (leading_digits c.args.bytes.now).0) c.loop-place.value) taken c.loop-place.invariant.value) c.pushed-value.ensures;
      rest = rw behind (next_rest rest) ∙ ap (λ p. (drop 1 p.0, p.1)) c.loop-place.invariant.rest
          ∙ ap (λ ds. (ds, (leading_digits c.args.bytes.now).1)) (drop-drop 1 c.loop-place.place (leading_digits c.args.bytes.now).0);
    }

pub returns-clause-value : goal.returns-clause-value
unfolding placed
returns-clause-value c =
    let none : c.args.places - c.loop-place.place ≡ 0 = omega arith in
    let end = ap (λ n. placed n (leading_digits c.loop-place.rest.now).0) none in
    continues_end c.args.before c.loop-place.value (placed c.args.places (leading_digits c.args.bytes.now).0)
    (subst (Continues c.args.before (placed c.args.places (leading_digits c.args.bytes.now).0) c.loop-place.value) end c.loop-place.invariant.value)
