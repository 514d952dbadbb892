use Rattle.rp_input.proofs.SameFields.{same_field}
use Rattle.rp_input.proofs.laws.law_same_fields.Goals as goal

pub returns : goal.returns
returns c = same_field
