use Rattle.std.proofs.Common.{ap, map, string_bytes}
use Rattle.clap.specs.Words.{found_of}
use Rattle.rp_command.proofs.Getters.{no_texts_found, texts_found}
use Rattle.rp_command.proofs.arguments.texts_if_any.Goals as goal

pub returns-in-Some-clause-value : goal.returns-in-Some-clause-value
returns-in-Some-clause-value c = λ given. texts_found (found_of c.args.matches.now) c.args.id.now c.get_strs.result c.in-Some.words
    (map string_bytes c.texts.result.items) c.get_strs.ensures c.in-Some.is (c.texts.ensures.same given)

pub returns-in-None-clause-value : goal.returns-in-None-clause-value
returns-in-None-clause-value c = λ given. no_texts_found (found_of c.args.matches.now) c.args.id.now c.get_strs.result (map string_bytes c.new.result.items)
    c.get_strs.ensures c.in-None.is (ap (map string_bytes) c.new.ensures.items)
