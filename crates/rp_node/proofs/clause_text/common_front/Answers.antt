use Rattle.std.proofs.Common.{◌≡◌, arith, drop}
use Rattle.rp_node.specs.ClauseTexts.{common_front}
use Rattle.rp_node.proofs.Fronts.{other_ends}
use Rattle.rp_node.proofs.clause_text.common_front.Goals as goal

pub returns-else-length-other : goal.returns-else-length-other
returns-else-length-other c =
    let kept = c.loop-length.invariant.2 in
    let ended : common_front (drop c.loop-length.length c.args.text.now) (drop c.loop-length.length c.args.other.now) ≡ 0 =
    other_ends c.args.text.now c.args.other.now c.loop-length.length (omega (arith, c.if-length-other.false)) in
    omega (arith, kept, ended)
