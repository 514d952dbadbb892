use Rattle.std.proofs.Common.{rules, ◌≡◌, ◌∙◌, sym, subst}
use Rattle.rp_describe.specs.Precedes.{NeverPrecedes}
use Rattle.rp_describe.proofs.Precedences.{never_concatenation, never_alternation, never_exclusion, never_once}
use Rattle.rp_describe.proofs.precedes.+may_precede.Goals as goal

pub returns-then-iterates_once : goal.returns-then-iterates_once
returns-then-iterates_once t c = λ no.
    let same : c.deref-then-iterates_once.result.now ≡ c.in-Quantified.body.value = search rules in
    subst (NeverPrecedes c.args.earlier c.args.later) (sym c.in-Quantified.is)
    (never_once c.args.earlier c.args.later c.in-Quantified.body c.in-Quantified.lower c.in-Quantified.upper c.in-Quantified.reluctant
    (sym c.iterates_once.ensures ∙ c.if-iterates_once.true) (rw same at (c.may_precede-then-iterates_once.ensures no)))

pub returns-else-may_precede : goal.returns-else-may_precede
returns-else-may_precede t c = λ no.
    let first : c.deref.result.now ≡ c.in-Concatenation.first.value = search rules in
    let second : c.deref-in-Concatenation.result.now ≡ c.in-Concatenation.second.value = search rules in
    let again : c.deref-in-Concatenation-2.result.now ≡ c.in-Concatenation.first.value = search rules in
    let behind : c.deref-else-may_precede.result.now ≡ c.in-Concatenation.second.value = search rules in
    subst (NeverPrecedes c.args.earlier c.args.later) (sym c.in-Concatenation.is)
    (never_concatenation c.args.earlier c.args.later c.in-Concatenation.first c.in-Concatenation.second
    (rw again at (c.may_precede.ensures c.if-may_precede.false)) (rw behind at (c.may_precede-else-may_precede.ensures no))
    (rw (first, second) at (c.are_apart.ensures c.if-are_apart.false)))

pub returns-else-may_precede-2 : goal.returns-else-may_precede-2
returns-else-may_precede-2 t c = λ no.
    let first : c.deref-in-Alternation.result.now ≡ c.in-Alternation.first.value = search rules in
    let second : c.deref-else-may_precede-2.result.now ≡ c.in-Alternation.second.value = search rules in
    subst (NeverPrecedes c.args.earlier c.args.later) (sym c.in-Alternation.is)
    (never_alternation c.args.earlier c.args.later c.in-Alternation.first c.in-Alternation.second
    (rw first at (c.may_precede-in-Alternation.ensures c.if-may_precede-2.false)) (rw second at (c.may_precede-else-may_precede-2.ensures no)))

pub returns-in-Exclusion : goal.returns-in-Exclusion
returns-in-Exclusion t c = λ no.
    let same : c.deref-in-Exclusion.result.now ≡ c.in-Exclusion.body.value = search rules in
    subst (NeverPrecedes c.args.earlier c.args.later) (sym c.in-Exclusion.is)
    (never_exclusion c.args.earlier c.args.later c.in-Exclusion.body (rw same at (c.may_precede-in-Exclusion.ensures no)))
