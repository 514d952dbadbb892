use Rattle.std.proofs.Common.{ap, ◌∙◌}
use Rattle.rp_program.specs.Parts.{form_part}
use Rattle.rp_pattern.specs.Continuations.{node_part, tail_parts}
use Rattle.rp_program.proofs.Expansions.{passed, empty_words, empty_turns}
use Rattle.rp_pattern.proofs.Steps.{one_splits, replaces}
use Rattle.rp_pattern.proofs.machine.node.Node.take_empty.Goals as goal

pub returns : goal.returns
returns c = λ n e.
    let x = c.args.self.now.excluded in
    let i = c.args.row in
    let p = node_part n e c.args.self.now in
    let ts = tail_parts n e c.args.then.now in
    one_splits n e i _ ts _ c.one.result c.one.ensures (replaces n e i ts _ (c.in_ok-reach_shared.ensures n e))
    (passed p ts i (ap (λ f. (form_part n e f x).0 i) c.requires ∙ empty_words n e x i) (ap (λ f. (form_part n e f x).1 i) c.requires ∙ empty_turns n e x i))
