use Rattle.std.proofs.Common.{◌≡◌, ◌-◌, length, append_assoc, rules}
use Rattle.std.specs.Fmt.{decimal}
use Rattle.rp_place.proofs.Aligned.{encodes-right_aligned}
use Rattle.rp_place.proofs.drawing.push_number.Goals as goal

pub returns-clause-text : goal.returns-clause-text
returns-clause-text c =
    let blanks : c.saturating_sub-blanks.result ≡ 4 - length (decimal c.args.number) = search rules in
    rw (encodes-right_aligned c.args.number c.ranges.number.fits, ← blanks) (search (rules, append_assoc))
