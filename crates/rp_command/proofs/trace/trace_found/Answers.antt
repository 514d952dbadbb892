use Rattle.std.proofs.Common.{codes, refl}
use Rattle.rp_command.proofs.Apps.{has_value}
use Rattle.rp_command.specs.Commands.{by_place, trace_app}
use Rattle.rp_command.proofs.trace.trace_found.Goals as goal

pub text_of-pattern-requires : goal.text_of-pattern-requires
unfolding trace_app
text_of-pattern-requires c = has_value trace_app (by_place (codes "PATTERN")) _ refl refl c.requires
