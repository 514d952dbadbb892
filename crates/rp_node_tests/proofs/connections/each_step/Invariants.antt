use Rattle.std.specs.Option.{ForSome}
use Rattle.rp_node.specs.GoingBack.{CanRestart}
use Rattle.rp_node_tests.proofs.connections.each_step.Given as goal

abbrev pub invariant-loop-step : goal.invariant-loop-step
invariant-loop-step l = record {
  again : ForSome l.standing.saved (λ bytes. CanRestart l.standing.node.query bytes.items);
}
