use Rattle.std.proofs.Common.{◌≡◌, ◌++◌, map, take}
use Rattle.rp_tree.specs.Clauses.{union_tree}
use Rattle.rp_resolution.specs.Context.{naming_of}
use Rattle.rp_resolution.specs.PartFaults.{union_faults}
use Rattle.rp_resolution.specs.Variables.{union_of}
use Rattle.rp_resolution.proofs.Each.{IsLeft}
use Rattle.rp_resolution.proofs.lists.add_unions.Given as goal

abbrev pub invariant-loop-i : goal.invariant-loop-i
invariant-loop-i l = record {
  clean : IsLeft union_tree (union_faults l.variables) l.unions l.i;
  sets : map naming_of l.sets.items ≡ map naming_of l.fn.sets.items ++ map (union_of l.variables) (map union_tree (take l.i l.unions));
}
