use Rattle.std.proofs.Common.{length}
use Rattle.rp_resolution.proofs.names.+set_named.Given as goal

abbrev pub decreases-set_named : goal.decreases-set_named
decreases-set_named l = length l.sets.now
