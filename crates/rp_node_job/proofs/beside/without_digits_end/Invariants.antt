use Rattle.std.proofs.Common.{◌≡◌, ◌≤◌, length, take}
use Rattle.rp_node_job.specs.Names.{without_digits_end}
use Rattle.rp_node_job.proofs.beside.without_digits_end.Given as goal

abbrev pub invariant-loop-length : goal.invariant-loop-length
invariant-loop-length l = (l.length ≤ length l.name) × (without_digits_end (take l.length l.name) ≡ without_digits_end l.name)

abbrev pub decreases-loop-length : goal.decreases-loop-length
decreases-loop-length l = l.length
