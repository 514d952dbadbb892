use Rattle.std.proofs.Common.{codes, refl}
use Rattle.clap.specs.declared.builder.value_parser.ValueParser.TheVariants as parser
use Rattle.rp_command.proofs.Apps.{has_value, passed}
use Rattle.rp_command.specs.Commands.{by_flag, by_name, by_number, node_app}
use Rattle.rp_command.specs.Values.{number_parser}
use Rattle.rp_command.proofs.node.node_job.Goals as goal

pub text_of-requires : goal.text_of-requires
unfolding node_app
text_of-requires c = has_value node_app (by_name (codes "table")) _ refl refl c.requires

pub text_of-requires-2 : goal.text_of-requires-2
unfolding node_app
text_of-requires-2 c = has_value node_app (by_name (codes "clause")) _ refl refl c.requires

pub text_of-requires-3 : goal.text_of-requires-3
unfolding node_app
text_of-requires-3 c = has_value node_app (by_name (codes "listen")) _ refl refl c.requires

pub text_of-requires-4 : goal.text_of-requires-4
unfolding node_app
text_of-requires-4 c = has_value node_app (by_name (codes "state")) _ refl refl c.requires

pub number_of-requires : goal.number_of-requires
unfolding node_app
number_of-requires c = passed node_app (by_number (codes "connections")) number_parser _ refl refl c.requires

pub number_of-requires-2 : goal.number_of-requires-2
unfolding node_app
number_of-requires-2 c = passed node_app (by_number (codes "idle")) number_parser _ refl refl c.requires

pub flag_of-requires : goal.flag_of-requires
unfolding node_app
flag_of-requires c = passed node_app (by_flag (codes "acknowledge")) parser.Bool _ refl refl c.requires

pub flag_of-requires-2 : goal.flag_of-requires-2
unfolding node_app
flag_of-requires-2 c = passed node_app (by_flag (codes "verbose")) parser.Bool _ refl refl c.requires
