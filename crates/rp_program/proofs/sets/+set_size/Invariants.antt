use Rattle.std.proofs.Common.{length}
use Rattle.rp_program.proofs.sets.+set_size.Given as goal

abbrev pub decreases-set_size : goal.decreases-set_size
decreases-set_size l = length l.vars.now
