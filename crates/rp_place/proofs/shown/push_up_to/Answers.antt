use Rattle.std.proofs.Common.{rules, chars}
use Rattle.std.proofs.lemmas.Iterator.{YieldsList-from_chars, YieldsList-from_map, YieldsList-from_take}
use Rattle.std.proofs.lemmas.List.{take-map}
use Rattle.rp_place.specs.Shown.{shown_character}
use Rattle.rp_place.proofs.Extending.{extended}
use Rattle.rp_place.proofs.shown.push_up_to.Goals as goal

pub returns : goal.returns
returns c =
    rw (take-map shown_character c.args.most (chars c.args.text.now))
    (extended c.args.out.now c.extend.new.self c.extend.result c.extend.ensures.ran
    (YieldsList-from_map _ shown_character (YieldsList-from_take c.args.most (YieldsList-from_chars c.args.text.now c.utf8.text (cc)) (cc)) c.map.ensures.closure (λ x r q k. search rules)))
