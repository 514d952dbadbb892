use Rattle.std.proofs.Common.{codes, refl, rules}
use Rattle.rp_command.proofs.Apps.{has_value}
use Rattle.rp_command.specs.Commands.{by_name_or, source_app}
use Rattle.rp_command.proofs.source.source_found.Goals as goal

pub input_of-requires : goal.input_of-requires
unfolding source_app
input_of-requires c = has_value source_app (by_name_or (codes "from") (codes "csv")) _ refl refl c.requires

pub returns-in_err-from-clause-other : goal.returns-in_err-from-clause-other
returns-in_err-from-clause-other c = λ error is. c.in_err-from.ensures.other error (search rules)
