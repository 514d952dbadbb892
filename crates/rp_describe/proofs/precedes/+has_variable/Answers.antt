use Rattle.std.proofs.Common.{rules, ◌≡◌, ◌+◌, ◌∷◌, ◌∙◌, ap, drop, sym, subst}
use Rattle.std.specs.List.{AllByRecursion}
use Rattle.std.proofs.lemmas.List.{drop_more, drop_all}
use Rattle.rp_describe.specs.Precedes.{HasNoRow}
use Rattle.rp_describe.proofs.Precedences.{none_concatenation, none_alternation, none_permute, none_exclusion, none_quantified}
use Rattle.rp_describe.proofs.precedes.+has_variable.Goals as goal

pub loop-part-init : goal.loop-part-init
loop-part-init t c = λ all.
    subst (HasNoRow c.args.variable) (sym c.in-Permute.is)
    (none_permute c.args.variable c.in-Permute.parts (subst (AllByRecursion (λ p. HasNoRow c.args.variable p.value)) c.deref-part-items.ensures.value all))

pub loop-part-preserved : goal.loop-part-preserved
loop-part-preserved t c = λ all.
    let parts = c.deref-part-items.result.now in
    let part = c.part-item.result in
    let same : c.deref-in-loop-part.result.now ≡ part.value = search rules in
    let rest : drop c.loop-part.part-index parts ≡ part ∷ drop (c.loop-part.part-index + 1) parts =
    drop_more parts c.loop-part.part-index part c.loop-part-test.true ∙ ap (λ p. p ∷ drop (c.loop-part.part-index + 1) parts) (sym c.part-item.is) in
    c.loop-part.invariant (subst (AllByRecursion (λ p. HasNoRow c.args.variable p.value)) (sym rest) ((rw same at (c.has_variable-in-loop-part.ensures c.if-has_variable-3.false)), all))

pub returns-else-has_variable : goal.returns-else-has_variable
returns-else-has_variable t c = λ no.
    let first : c.deref.result.now ≡ c.in-Concatenation.first.value = search rules in
    let second : c.deref-else-has_variable.result.now ≡ c.in-Concatenation.second.value = search rules in
    subst (HasNoRow c.args.variable) (sym c.in-Concatenation.is)
    (none_concatenation c.args.variable c.in-Concatenation.first c.in-Concatenation.second
    (rw first at (c.has_variable.ensures c.if-has_variable.false)) (rw second at (c.has_variable-else-has_variable.ensures no)))

pub returns-else-has_variable-2 : goal.returns-else-has_variable-2
returns-else-has_variable-2 t c = λ no.
    let first : c.deref-in-Alternation.result.now ≡ c.in-Alternation.first.value = search rules in
    let second : c.deref-else-has_variable-2.result.now ≡ c.in-Alternation.second.value = search rules in
    subst (HasNoRow c.args.variable) (sym c.in-Alternation.is)
    (none_alternation c.args.variable c.in-Alternation.first c.in-Alternation.second
    (rw first at (c.has_variable-in-Alternation.ensures c.if-has_variable-2.false)) (rw second at (c.has_variable-else-has_variable-2.ensures no)))

pub returns-after-loop-part : goal.returns-after-loop-part
returns-after-loop-part t c = λ no.
    c.loop-part.invariant
    (subst (AllByRecursion (λ p. HasNoRow c.args.variable p.value)) (sym (drop_all c.loop-part.part-index c.deref-part-items.result.now c.loop-part-test.false)) tt)

pub returns-in-Exclusion : goal.returns-in-Exclusion
returns-in-Exclusion t c = λ no.
    let same : c.deref-in-Exclusion.result.now ≡ c.in-Exclusion.body.value = search rules in
    subst (HasNoRow c.args.variable) (sym c.in-Exclusion.is)
    (none_exclusion c.args.variable c.in-Exclusion.body (rw same at (c.has_variable-in-Exclusion.ensures no)))

pub returns-in-Quantified : goal.returns-in-Quantified
returns-in-Quantified t c = λ no.
    let same : c.deref-in-Quantified.result.now ≡ c.in-Quantified.body.value = search rules in
    subst (HasNoRow c.args.variable) (sym c.in-Quantified.is)
    (none_quantified c.args.variable c.in-Quantified.body c.in-Quantified.lower c.in-Quantified.upper c.in-Quantified.reluctant
    (rw same at (c.has_variable-in-Quantified.ensures no)))
