use Rattle.csv.specs.Records.{fields_of}
use Rattle.rp_input.proofs.Placing.{IsFoundBelow}
use Rattle.rp_input.proofs.placed.place_of.Given as goal

abbrev pub invariant-loop-place : goal.invariant-loop-place
invariant-loop-place l = IsFoundBelow l.source (fields_of l.header) l.place l.found
