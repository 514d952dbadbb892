use Rattle.std.proofs.Common.{rules}
use Rattle.rp_resolution.proofs.Telling.{telling}
use Rattle.rp_check.proofs.checking.sets_and_classes.Goals as goal

pub returns-in_err-sets : goal.returns-in_err-sets
returns-in_err-sets c = search (rules, telling)

pub returns-in_err-classes : goal.returns-in_err-classes
returns-in_err-classes c = search (rules, telling)

pub returns-in_err-classes-2 : goal.returns-in_err-classes-2
returns-in_err-classes-2 c = search (rules, telling)
