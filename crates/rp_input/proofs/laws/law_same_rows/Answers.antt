use Rattle.rp_input.proofs.SameRows.{same_rows}
use Rattle.rp_input.proofs.laws.law_same_rows.Goals as goal

pub returns : goal.returns
returns c = same_rows
