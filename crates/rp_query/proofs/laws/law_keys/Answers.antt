use Rattle.rp_query.proofs.KeyFaults.{keys_fit}
use Rattle.rp_query.proofs.laws.law_keys.Goals as goal

pub returns : goal.returns
returns c = keys_fit
