use Rattle.std.proofs.Common.{sym, ◌∙◌}
use Rattle.rp_pattern.specs.Continuations.{tail_parts}
use Rattle.rp_pattern.proofs.Steps.{replaces, greedy_splits, lazy_splits}
use Rattle.rp_pattern.proofs.machine.iterations.Iterations.another_or.Goals as goal

pub returns-then-reluctant : goal.returns-then-reluctant
returns-then-reluctant c = λ row n e further ts fewer comes stops.
    let it = c.args.self.now in
    lazy_splits n e row it further ts (tail_parts n e c.args.again) c.in_ok-before.field-0 c.args.stop fewer comes
    (c.in_ok-before.ensures n e row) (replaces n e row ts c.args.stop stops) (sym c.requires ∙ c.if-reluctant.true)

pub returns : goal.returns
returns c = λ row n e further ts fewer comes stops.
    let it = c.args.self.now in
    greedy_splits n e row it further ts (tail_parts n e c.args.again) c.in_ok-before.field-0 c.args.stop fewer comes
    (c.in_ok-before.ensures n e row) (replaces n e row ts c.args.stop stops) (sym c.requires ∙ c.if-reluctant.false)
