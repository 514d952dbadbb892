use Rattle.std.proofs.Common.{◌∷◌, ◌≡◌, ℕ, List, None, Some, refl, sym, ap, ◌∙◌, subst}
use Rattle.rp_words.specs.declared.word.End.{End}
use Rattle.rp_words.specs.declared.form.Form.TheVariants.{Variable}
use Rattle.rp_pattern.specs.declared.machine.link.Part.TheVariants.{Whole}
use Rattle.rp_pattern.specs.declared.machine.continuation.Continuation.TheVariants.{Then, Row}
use Rattle.rp_words.specs.Turns.{WordsAndTurns}
use Rattle.rp_program.specs.Parts.{form_part}
use Rattle.rp_pattern.specs.Continuations.{continuation_parts, node_part, tail_parts}
use Rattle.rp_pattern.specs.Splits.{AlwaysSplits, Replaces}
use Rattle.rp_program.proofs.Expansions.{Leaves, concatenation_leaves}
use Rattle.rp_pattern.proofs.OrderRests.{IfOk-map}
use Rattle.rp_pattern.proofs.Steps.{node_as, linked_parts, then_parts, stands_as, one_splits, replaces, replaces_as}
use Rattle.rp_pattern.proofs.machine.node.Node.first_part.Goals as goal

pub returns-in-Variable : goal.returns-in-Variable
returns-in-Variable c = λ row n e.
    let x = c.args.self.now.excluded in
    let p = c.args.first.now in
    let q = c.args.second.now in
    let ts = tail_parts n e c.args.then.now in
    let b = c.in_ok-next.next in
    let then = c.in_ok-then.then in
    let r = Row c.in-Variable.var b then in
    let qs : List WordsAndTurns = form_part n e p.value x ∷ form_part n e q.value x ∷ ts in
    let first : form_part n e (Variable c.in-Variable.var) b.excluded ≡ form_part n e p.value x =
    ap (form_part n e (Variable c.in-Variable.var)) c.in_ok-next.ensures.1 ∙ ap (λ f. form_part n e f x) (sym c.in-Variable.is ∙ c.deref.ensures) in
    let later = then_parts n e b then c.args.then.now (form_part n e q.value x) (node_as n e b q.value x c.in_ok-next.ensures) c.in_ok-then.ensures in
    one_splits n e row _ qs (Some r) _ refl
    (replaces n e row qs (Some r) (stands_as n e row r qs (ap (λ z. z ∷ continuation_parts n e (Then b then)) first ∙ ap (λ z. form_part n e p.value x ∷ z) later)))
    (subst (λ f. Leaves row (form_part n e f x ∷ ts) qs) (sym c.requires) (concatenation_leaves n e x ts row p q))

pub returns : goal.returns
returns c =
    let a = c.args in
    let x = a.self.now.excluded in
    let p = a.first.now in
    let q = a.second.now in
    let b = c.in_ok-next.next in
    let later = c.in_ok-later.later in
    IfOk-map (λ first. (n : ℕ) (e : End) (i : ℕ) → Replaces n e i (form_part n e p.value x ∷ tail_parts n e later) (Some first))
    (λ first. (row : ℕ) → AlwaysSplits row (λ n e. node_part n e a.self.now ∷ tail_parts n e a.then.now) (record { preferred = None; other = Some first }))
    (λ first h row n e.
    let ts = tail_parts n e a.then.now in
    let qs : List WordsAndTurns = form_part n e p.value x ∷ form_part n e q.value x ∷ ts in
    let second = linked_parts n e later c.in_ok-then.then a.then.now None (Whole b) c.in_ok-later.ensures c.in_ok-then.ensures ∙ ap (λ z. z ∷ ts) (node_as n e b q.value x c.in_ok-next.ensures) in
    one_splits n e row _ qs (Some first) _ refl
    (replaces_as n e row _ qs (Some first) (ap (λ z. form_part n e p.value x ∷ z) second) (h n e row))
    (subst (λ f. Leaves row (form_part n e f x ∷ ts) qs) (sym c.requires) (concatenation_leaves n e x ts row p q)))
    c.before-2.result c.before-2.ensures
