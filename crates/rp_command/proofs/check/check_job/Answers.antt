use Rattle.std.proofs.Common.{codes, refl}
use Rattle.clap.specs.declared.builder.value_parser.ValueParser.TheVariants as parser
use Rattle.rp_command.proofs.Apps.{passed}
use Rattle.rp_command.specs.Commands.{by_flag, check_app}
use Rattle.rp_command.proofs.check.check_job.Goals as goal

pub input_options-input-requires-clause-header : goal.input_options-input-requires-clause-header
unfolding check_app
input_options-input-requires-clause-header c = passed check_app (by_flag (codes "no-header")) parser.Bool _ refl refl c.requires.rules
