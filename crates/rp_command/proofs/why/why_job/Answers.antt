use Rattle.std.proofs.Common.{codes, refl}
use Rattle.clap.specs.declared.builder.value_parser.ValueParser.TheVariants as parser
use Rattle.rp_command.proofs.Apps.{has_value, passed}
use Rattle.rp_command.specs.Commands.{by_flag, by_name, by_number, why_app}
use Rattle.rp_command.specs.Values.{number_parser}
use Rattle.rp_command.proofs.why.why_job.Goals as goal

pub input_options-input-requires-clause-header : goal.input_options-input-requires-clause-header
unfolding why_app
input_options-input-requires-clause-header c = passed why_app (by_flag (codes "no-header")) parser.Bool _ refl refl c.requires.rules

pub text_of-clause-requires : goal.text_of-clause-requires
unfolding why_app
text_of-clause-requires c = has_value why_app (by_name (codes "clause")) _ refl refl c.requires.rules

pub number_of-requires : goal.number_of-requires
unfolding why_app
number_of-requires c = passed why_app (by_number (codes "row")) number_parser _ refl refl c.requires.rules

pub number_of-requires-2 : goal.number_of-requires-2
unfolding why_app
number_of-requires-2 c = passed why_app (by_number (codes "most-turns")) number_parser _ refl refl c.requires.rules
