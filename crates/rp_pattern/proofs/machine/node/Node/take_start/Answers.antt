use Rattle.std.proofs.Common.{ap, ◌∙◌, ◌∷◌}
use Rattle.rp_program.specs.Parts.{form_part}
use Rattle.rp_pattern.specs.Continuations.{node_part, tail_parts}
use Rattle.rp_program.proofs.Expansions.{passed, no_words, some_turns, start_words, start_none, start_turns}
use Rattle.rp_pattern.proofs.Steps.{one_splits, replaces, none_splits}
use Rattle.rp_pattern.proofs.machine.node.Node.take_start.Goals as goal

pub returns-then-row-ne1 : goal.returns-then-row-ne1
returns-then-row-ne1 c = λ n e.
    let x = c.args.self.now.excluded in
    let i = c.args.row in
    let p = node_part n e c.args.self.now in
    let ts = tail_parts n e c.args.then.now in
    none_splits n e i (p ∷ ts) c.none.result c.none.ensures
    (no_words p ts i (ap (λ f. (form_part n e f x).0 i) c.requires ∙ start_none n e x i c.if-row-ne1.true))
    (some_turns p ts i (ap (λ f. (form_part n e f x).1 i) c.requires ∙ start_turns n e x i))

pub returns : goal.returns
returns c = λ n e.
    let x = c.args.self.now.excluded in
    let i = c.args.row in
    let p = node_part n e c.args.self.now in
    let ts = tail_parts n e c.args.then.now in
    one_splits n e i _ ts _ c.one.result c.one.ensures (replaces n e i ts _ (c.in_ok-reach_shared.ensures n e))
    (passed p ts i (ap (λ f. (form_part n e f x).0 i) c.requires ∙ start_words n e x i c.if-row-ne1.false) (ap (λ f. (form_part n e f x).1 i) c.requires ∙ start_turns n e x i))
