use Rattle.std.proofs.Common.{rules, chars}
use Rattle.std.proofs.lemmas.Iterator.{YieldsList-from_chars, YieldsList-from_map}
use Rattle.std.proofs.lemmas.Iterator.Adapters.{YieldsList-from_skip}
use Rattle.std.proofs.lemmas.List.{drop-map}
use Rattle.rp_place.specs.Shown.{shown_character}
use Rattle.rp_place.proofs.Extending.{extended}
use Rattle.rp_place.proofs.shown.push_from.Goals as goal

pub returns : goal.returns
returns c =
    rw (drop-map shown_character c.args.skipped (chars c.args.text.now))
    (extended c.args.out.now c.extend.new.self c.extend.result c.extend.ensures.ran
    (YieldsList-from_map _ shown_character (YieldsList-from_skip c.args.skipped (YieldsList-from_chars c.args.text.now c.utf8.text (cc)) (cc)) c.map.ensures.closure (λ x r q k. search rules)))
