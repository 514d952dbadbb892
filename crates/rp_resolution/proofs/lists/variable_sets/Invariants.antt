use Rattle.std.proofs.Common.{◌≡◌, ◌++◌, map, drop}
use Rattle.rp_resolution.specs.Context.{naming_of}
use Rattle.rp_resolution.specs.Variables.{numbered}
use Rattle.rp_resolution.proofs.lists.variable_sets.Given as goal

abbrev pub invariant-loop-i : goal.invariant-loop-i
invariant-loop-i l = map naming_of l.sets.items ++ numbered l.i (drop l.i l.variables) ≡ numbered 0 l.variables
