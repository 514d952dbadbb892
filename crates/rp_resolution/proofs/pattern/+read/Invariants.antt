use Rattle.std.proofs.Common.{map, take, drop}
use Rattle.rp_tree.specs.Tree.{tree_of}
use Rattle.rp_resolution.proofs.Parts.{ReadsSome}
use Rattle.rp_resolution.proofs.pattern.+read.Given as goal

abbrev pub invariant-read_all-loop-part : goal.invariant-read_all-loop-part
invariant-read_all-loop-part l = ReadsSome l.fn.names.items (map tree_of l.fn.parts) (map tree_of (take l.part-index l.parts)) (map tree_of (drop l.part-index l.parts)) l.names.items l.forms.items
