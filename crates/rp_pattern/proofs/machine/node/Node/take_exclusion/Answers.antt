use Rattle.std.proofs.Common.{◌∷◌, List, true, sym, subst, Some}
use Rattle.rp_words.specs.Turns.{WordsAndTurns}
use Rattle.rp_program.specs.Parts.{form_part}
use Rattle.rp_pattern.specs.Continuations.{tail_parts}
use Rattle.rp_program.proofs.Expansions.{Leaves, exclusion_leaves}
use Rattle.rp_pattern.proofs.Steps.{one_splits, before_shared}
use Rattle.rp_pattern.proofs.machine.node.Node.take_exclusion.Goals as goal

pub returns : goal.returns
returns c = λ row n e.
    let x = c.args.self.now.excluded in
    let ts = tail_parts n e c.args.then.now in
    let f = c.args.body.now.value in
    let r = c.in_ok-before.field-0 in
    let qs : List WordsAndTurns = form_part n e f true ∷ ts in
    one_splits n e row _ qs (Some r) c.one.result c.one.ensures
    (before_shared n e row (form_part n e f true) c.in_ok-share.field-0 c.args.then.now (Some r) c.in_ok-share.ensures (c.in_ok-before.ensures n e row))
    (subst (λ f. Leaves row (form_part n e f x ∷ ts) qs) (sym c.requires) (exclusion_leaves n e x ts row c.args.body.now))
