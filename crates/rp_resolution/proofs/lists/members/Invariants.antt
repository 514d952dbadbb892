use Rattle.std.proofs.Common.{◌≡◌, [], drop}
use Rattle.rp_resolution.specs.PartFaults.{member_faults}
use Rattle.rp_resolution.specs.Variables.{with_members}
use Rattle.rp_resolution.proofs.Each.{AreLeft}
use Rattle.rp_resolution.proofs.lists.members.Given as goal

abbrev pub invariant-loop-i : goal.invariant-loop-i
invariant-loop-i l = record {
  clean : AreLeft (member_faults l.variables) l.names l.i;
  numbers : with_members l.variables l.numbers.items (drop l.i l.names) ≡ with_members l.variables [] l.names;
}
