use Rattle.std.proofs.Common.{◌≡◌, take}
use Rattle.rp_why.proofs.seeking.copied.Given as goal

abbrev pub invariant-loop-label : goal.invariant-loop-label
invariant-loop-label l = l.copied.items ≡ take l.label-index l.fn.labels
