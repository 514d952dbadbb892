use Rattle.std.proofs.Common.{◌≡◌}
use Rattle.rp_program.specs.Sets.{sets}
use Rattle.rp_program.proofs.sets.sets.Given as goal

abbrev pub invariant-loop-thing : goal.invariant-loop-thing
invariant-loop-thing l = l.all ≡ sets l._thing
