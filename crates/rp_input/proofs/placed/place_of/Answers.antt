use Rattle.std.proofs.Common.{◌≤◌, length, arith}
use Rattle.csv.specs.Records.{fields_of}
use Rattle.rp_input.proofs.Placing.{at_place, found_end, found_next}
use Rattle.rp_input.proofs.placed.place_of.Goals as goal

pub loop-place-preserved : goal.loop-place-preserved
loop-place-preserved c =
    let header = fields_of c.args.header.now in
    let n = c.loop-place.place in
    let at = at_place header n c.field_at.result.now c.field_at.ensures in
    rw c.with_place-found.ensures (found_next c.args.source.now header n c.field_at.result.now at c.loop-place.found c.in_ok-named.named c.in_ok-named.ensures c.loop-place.invariant)

pub returns : goal.returns
returns c =
    let all : length (fields_of c.args.header.now) ≤ c.loop-place.place = omega arith in
    found_end c.args.source.now (fields_of c.args.header.now) c.loop-place.place c.loop-place.found all c.loop-place.invariant
