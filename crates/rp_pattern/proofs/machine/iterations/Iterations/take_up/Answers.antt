use Rattle.rp_pattern.specs.Continuations.{tail_parts}
use Rattle.rp_pattern.proofs.Steps.{one_splits, replaces, none_left}
use Rattle.rp_pattern.proofs.machine.iterations.Iterations.take_up.Goals as goal

pub returns-then-further-eq0 : goal.returns-then-further-eq0
returns-then-further-eq0 c = λ n e.
    let ts = tail_parts n e c.args.then.now in
    one_splits n e c.args.row _ ts _ c.one.result c.one.ensures (replaces n e c.args.row ts _ (c.in_ok-stop.ensures n e))
    (none_left n e c.args.row c.args.lower c.args.self.now c.in-Some.further ts c.if-lower-gt0.false c.in-Some.is c.if-further-eq0.true)
