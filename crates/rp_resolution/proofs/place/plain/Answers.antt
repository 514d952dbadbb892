use Rattle.std.proofs.Common.{rules}
use Rattle.rp_resolution.proofs.Telling.{telling}
use Rattle.rp_resolution.proofs.place.plain.Goals as goal

pub returns-in_err-rows_of : goal.returns-in_err-rows_of
returns-in_err-rows_of c = search (rules, telling)
