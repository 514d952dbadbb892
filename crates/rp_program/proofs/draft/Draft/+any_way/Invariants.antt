use Rattle.std.proofs.Common.{length}
use Rattle.rp_program.proofs.draft.Draft.+any_way.Given as goal

abbrev pub decreases-any_way : goal.decreases-any_way
decreases-any_way l = length l.vars.now
