use Rattle.rp_describe.proofs.MissingNull.{missing_are_null}
use Rattle.rp_describe.proofs.laws.law_missing.Goals as goal

pub returns : goal.returns
returns c = missing_are_null
