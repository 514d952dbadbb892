use Rattle.std.proofs.Common.{◌∷◌, List, Some, sym, subst}
use Rattle.rp_words.specs.Turns.{WordsAndTurns}
use Rattle.rp_program.specs.Parts.{form_part}
use Rattle.rp_pattern.specs.Continuations.{tail_parts}
use Rattle.rp_program.proofs.Expansions.{LeavesTwo, alternation_leaves}
use Rattle.rp_pattern.proofs.Steps.{two_splits, before_shared}
use Rattle.rp_pattern.proofs.machine.node.Node.take_alternation.Goals as goal

pub returns : goal.returns
returns c = λ row n e.
    let x = c.args.self.now.excluded in
    let p = c.args.first.now in
    let q = c.args.second.now in
    let then = c.args.then.now in
    let ts = tail_parts n e then in
    let a = c.in_ok-preferred.preferred in
    let b = c.in_ok-other.other in
    let qs : List WordsAndTurns = form_part n e p.value x ∷ ts in
    let rs : List WordsAndTurns = form_part n e q.value x ∷ ts in
    two_splits n e row _ qs rs (Some a) (Some b)
    (before_shared n e row (form_part n e p.value x) c.in_ok-share.field-0 then (Some a) c.in_ok-share.ensures (c.in_ok-preferred.ensures n e row))
    (before_shared n e row (form_part n e q.value x) c.in_ok-share-2.field-0 then (Some b) c.in_ok-share-2.ensures (c.in_ok-other.ensures n e row))
    (subst (λ f. LeavesTwo row (form_part n e f x ∷ ts) qs rs) (sym c.requires) (alternation_leaves n e x ts row p q))
