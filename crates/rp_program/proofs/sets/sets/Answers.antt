use Rattle.std.proofs.Common.{suc, arith}
use Rattle.rp_program.proofs.Picking.{sets_small}
use Rattle.rp_program.proofs.sets.sets.Goals as goal

pub overflow_add-all : goal.overflow_add-all
overflow_add-all c = let small = sets_small (suc c.loop-thing._thing) (omega arith) in omega (arith, small, c.loop-thing.invariant)
