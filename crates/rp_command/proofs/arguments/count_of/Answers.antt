use Rattle.clap.specs.Words.{found_of}
use Rattle.rp_command.proofs.Getters.{no_number}
use Rattle.rp_command.proofs.arguments.count_of.Goals as goal

pub unreachable-requires : goal.unreachable-requires
unreachable-requires c = no_number (found_of c.args.matches.now) c.args.id.now c.number_of.result c.in_default.is c.number_of.ensures c.requires.value
