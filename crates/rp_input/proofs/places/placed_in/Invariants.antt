use Rattle.std.proofs.Common.{take}
use Rattle.csv.specs.Records.{fields_of}
use Rattle.rp_input.specs.Placed.{ArePlaced}
use Rattle.rp_input.proofs.places.placed_in.Given as goal

abbrev pub invariant-loop-index : goal.invariant-loop-index
invariant-loop-index l = ArePlaced (fields_of l.header) (take l.index l.columns) l.placed.items
