use Rattle.std.proofs.Common.{◌∷◌, ◌≡◌, List, Some, sym, ap, ◌∙◌, subst}
use Rattle.rp_words.specs.declared.form.Form.TheVariants.{Variable, Concatenation}
use Rattle.rp_pattern.specs.declared.machine.continuation.Continuation.TheVariants.{Then, Row}
use Rattle.rp_words.specs.Turns.{WordsAndTurns}
use Rattle.rp_program.specs.Parts.{form_part}
use Rattle.rp_pattern.specs.Continuations.{continuation_parts, tail_parts}
use Rattle.rp_program.proofs.Expansions.{Leaves, concatenation_leaves}
use Rattle.rp_pattern.proofs.Steps.{node_as, stands_as, leaves_replaces}
use Rattle.rp_pattern.proofs.machine.continuation.before.Goals as goal

pub returns-in-Variable : goal.returns-in-Variable
returns-in-Variable c = λ n e i.
    let x = c.args.excluded in
    let p = c.in-Concatenation.first in
    let q = c.in-Concatenation.second in
    let then = c.args.then in
    let ts = tail_parts n e then in
    let b = c.in_ok-next.next in
    let r = Row c.in-Variable.var b then in
    let qs : List WordsAndTurns = form_part n e p.value x ∷ form_part n e q.value x ∷ ts in
    let first : form_part n e (Variable c.in-Variable.var) b.excluded ≡ form_part n e p.value x =
    ap (form_part n e (Variable c.in-Variable.var)) c.in_ok-next.ensures.1 ∙ ap (λ f. form_part n e f x) (sym c.in-Variable.is ∙ c.deref-in-Concatenation.ensures) in
    let next = ap (λ p. p ∷ ts) (node_as n e b q.value x c.in_ok-next.ensures) in
    let form : Concatenation p q ≡ c.args.form.now.value = sym c.in-Concatenation.is ∙ c.deref.ensures in
    leaves_replaces n e i (form_part n e c.args.form.now.value x ∷ ts) qs (Some r)
    (stands_as n e i r qs (ap (λ z. z ∷ continuation_parts n e (Then b then)) first ∙ ap (λ z. form_part n e p.value x ∷ z) next))
    (subst (λ f. Leaves i (form_part n e f x ∷ ts) qs) form (concatenation_leaves n e x ts i p q))
