use Rattle.rp_place.proofs.Rows.{three_lines}
use Rattle.rp_place.proofs.laws.law_lines.Goals as goal

pub returns : goal.returns
returns c = three_lines
