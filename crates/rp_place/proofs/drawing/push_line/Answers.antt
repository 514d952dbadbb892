use Rattle.std.proofs.Common.{append_assoc, rules}
use Rattle.rp_place.proofs.Aligned.{encodes-place_line}
use Rattle.rp_place.proofs.drawing.push_line.Goals as goal

pub returns-clause-text : goal.returns-clause-text
returns-clause-text c =
    let place = c.args.place.now in
    rw (encodes-place_line place.line place.front.now place.part.now place.behind.now) (search (rules, append_assoc))
