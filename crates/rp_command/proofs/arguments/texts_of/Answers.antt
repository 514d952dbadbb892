use Rattle.std.proofs.Common.{map, string_bytes}
use Rattle.clap.specs.Words.{found_of}
use Rattle.rp_command.proofs.Getters.{texts_read}
use Rattle.rp_command.proofs.arguments.texts_of.Goals as goal

pub returns-clause-value : goal.returns-clause-value
returns-clause-value c = λ given. texts_read (found_of c.args.matches.now) c.args.id.now c.get_strs.result c.in-Some.words
    (map string_bytes c.texts.result.items) c.get_strs.ensures c.in-Some.is (c.texts.ensures.same given) c.requires
