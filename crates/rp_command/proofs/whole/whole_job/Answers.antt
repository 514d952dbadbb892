use Rattle.std.proofs.Common.{codes, refl}
use Rattle.clap.specs.declared.builder.value_parser.ValueParser.TheVariants as parser
use Rattle.rp_command.proofs.Apps.{has_value, passed}
use Rattle.rp_command.specs.Commands.{by_flag, by_name, by_number, whole_app}
use Rattle.rp_command.specs.Values.{number_parser}
use Rattle.rp_command.proofs.whole.whole_job.Goals as goal

pub input_options-input-requires-clause-header : goal.input_options-input-requires-clause-header
unfolding whole_app
input_options-input-requires-clause-header c = passed whole_app (by_flag (codes "no-header")) parser.Bool _ refl refl c.requires.rules

pub text_of-clause-requires : goal.text_of-clause-requires
unfolding whole_app
text_of-clause-requires c = has_value whole_app (by_name (codes "clause")) _ refl refl c.requires.rules

pub flag_of-requires : goal.flag_of-requires
unfolding whole_app
flag_of-requires c = passed whole_app (by_flag (codes "progress")) parser.Bool _ refl refl c.requires.rules

pub number_of-requires : goal.number_of-requires
unfolding whole_app
number_of-requires c = passed whole_app (by_number (codes "most-turns")) number_parser _ refl refl c.requires.rules
