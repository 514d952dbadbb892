use Rattle.std.proofs.Common.{rules}
use Rattle.rp_resolution.proofs.Telling.{telling}
use Rattle.rp_resolution.proofs.lists.union_set.Goals as goal

pub returns-in_err-require : goal.returns-in_err-require
returns-in_err-require c = search (rules, telling)

pub returns-in_err-members : goal.returns-in_err-members
returns-in_err-members c = search (rules, telling)

pub returns-in_err-name : goal.returns-in_err-name
returns-in_err-name c = search (rules, telling)
