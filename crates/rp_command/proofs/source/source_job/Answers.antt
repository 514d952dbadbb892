use Rattle.std.proofs.Common.{◌∷◌, [], codes, refl}
use Rattle.clap.specs.declared.builder.value_parser.ValueParser.TheVariants as parser
use Rattle.rp_command.proofs.Apps.{has_value, passed}
use Rattle.rp_command.specs.Commands.{by_flag, by_name, by_number, by_places, source_app}
use Rattle.rp_command.specs.Values.{number_parser}
use Rattle.rp_command.proofs.source.source_job.Goals as goal

pub input_options-input-requires-clause-header : goal.input_options-input-requires-clause-header
unfolding source_app
input_options-input-requires-clause-header c = passed source_app (by_flag (codes "no-header")) parser.Bool _ refl refl c.requires.rules

pub text_of-clause-requires : goal.text_of-clause-requires
unfolding source_app
text_of-clause-requires c = has_value source_app (by_name (codes "clause")) _ refl refl c.requires.rules

pub number_of-requires : goal.number_of-requires
unfolding source_app
number_of-requires c = passed source_app (by_number (codes "idle")) number_parser _ refl refl c.requires.rules

pub flag_of-requires : goal.flag_of-requires
unfolding source_app
flag_of-requires c = passed source_app (by_flag (codes "acknowledge")) parser.Bool _ refl refl c.requires.rules

pub flag_of-requires-2 : goal.flag_of-requires-2
unfolding source_app
flag_of-requires-2 c = passed source_app (by_flag (codes "verbose")) parser.Bool _ refl refl c.requires.rules

pub texts_of-addresses-requires : goal.texts_of-addresses-requires
unfolding source_app
texts_of-addresses-requires c = has_value source_app (by_places (codes "ADDR")) _ refl refl c.requires.rules

pub count_of-requires : goal.count_of-requires
unfolding source_app
count_of-requires c =
    let budget = record (by_number (codes "budget")) { defaults = codes "100000" ∷ [] } in
    record { value = has_value source_app budget _ refl refl c.requires.rules; number = passed source_app budget number_parser _ refl refl c.requires.rules }
