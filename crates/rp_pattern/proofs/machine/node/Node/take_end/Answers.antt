use Rattle.std.proofs.Common.{ap, ◌∙◌, ◌∷◌, arith}
use Rattle.rp_program.specs.Parts.{form_part}
use Rattle.rp_pattern.specs.Continuations.{node_part, tail_parts}
use Rattle.rp_program.proofs.Expansions.{passed, no_words, some_turns, open_words, end_words, end_open, end_none, end_turns}
use Rattle.rp_pattern.proofs.Steps.{one_splits, replaces, none_splits, later_splits}
use Rattle.rp_pattern.proofs.machine.node.Node.take_end.Goals as goal

pub returns-then-row-n : goal.returns-then-row-n
returns-then-row-n c =
    let node = c.args.self.now in
    let x = node.excluded in
    let i = c.args.row in
    let then = c.args.then.now in
    later_splits c.args.n c.args.end i (λ n e. node_part n e node ∷ tail_parts n e then) c.none.result (λ n e later.
    none_splits n e i (node_part n e node ∷ tail_parts n e then) c.none.result c.none.ensures
    (no_words (node_part n e node) (tail_parts n e then) i (ap (λ f. (form_part n e f x).0 i) c.requires ∙ end_none n e x i (omega (arith, later.0, c.if-row-n.true))))
    (some_turns (node_part n e node) (tail_parts n e then) i (ap (λ f. (form_part n e f x).1 i) c.requires ∙ end_turns n e x i)))

pub returns-in_ok-reach_shared-in-Closed : goal.returns-in_ok-reach_shared-in-Closed
returns-in_ok-reach_shared-in-Closed c =
    let node = c.args.self.now in
    let x = node.excluded in
    let i = c.args.row in
    let then = c.args.then.now in
    later_splits c.args.n c.args.end i (λ n e. node_part n e node ∷ tail_parts n e then) c.one.result (λ n e later.
    let stays = later.1 c.in-Closed.is in
    one_splits n e i _ (tail_parts n e then) _ c.one.result c.one.ensures (replaces n e i (tail_parts n e then) _ (c.in_ok-reach_shared-in-Closed.ensures n e))
    (passed (node_part n e node) (tail_parts n e then) i
    (ap (λ f. (form_part n e f x).0 i) c.requires ∙ end_words n e x i (omega (arith, stays.0, c.if-row-n.false)) stays.1)
    (ap (λ f. (form_part n e f x).1 i) c.requires ∙ end_turns n e x i)))

pub returns-in-Open : goal.returns-in-Open
returns-in-Open c =
    let node = c.args.self.now in
    let x = node.excluded in
    let i = c.args.row in
    let n = c.args.n in
    let e = c.args.end in
    let then = c.args.then.now in
    record {
      end = c.in-Open.is;
      words = open_words (node_part n e node) (tail_parts n e then) i (ap (λ f. (form_part n e f x).0 i) c.requires ∙ end_open n e x i (omega (arith, c.if-row-n.false)) c.in-Open.is);
      turns = λ n' e'. some_turns (node_part n' e' node) (tail_parts n' e' then) i (ap (λ f. (form_part n' e' f x).1 i) c.requires ∙ end_turns n' e' x i);
    }
