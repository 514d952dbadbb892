use Rattle.std.proofs.Common.{rules}
use Rattle.rp_resolution.proofs.Telling.{telling}
use Rattle.rp_resolution.proofs.place.summed.Goals as goal

pub returns-in_err-variables : goal.returns-in_err-variables
returns-in_err-variables c = search (rules, telling)
