use Rattle.std.proofs.Common.{length}
use Rattle.rp_objects.proofs.path.+field_under.Given as goal

abbrev pub decreases-field_under : goal.decreases-field_under
decreases-field_under l = length l.path.now
