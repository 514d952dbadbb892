use Rattle.std.proofs.Common.{◌∷◌, [], rules}
use Rattle.std.specs.Prelude.{codes}
use Rattle.serde_json.specs.View.{view}
use Rattle.rp_query.specs.declared.item.SkipFault.TheVariants.{SkipNoRow, SkipSame}
use Rattle.rp_json.specs.Forms.{named}
use Rattle.rp_protocol.specs.ReplyLines.{name_of_fault}
use Rattle.rp_protocol.proofs.FieldTexts.{by_word}
use Rattle.rp_protocol.proofs.read_reply.fault.Goals as goal

pub returns-then-eq : goal.returns-then-eq
returns-then-eq c =
    by_word (codes "fault") (named name_of_fault (SkipNoRow ∷ SkipSame ∷ [])) (view c.args.json.now) (view c.in_ok-get.field-0.now)
    c.in_ok-text.text.now (codes "SkipNoRow") (search rules) c.in_ok-get.ensures c.in_ok-text.ensures

pub returns-then-eq-2 : goal.returns-then-eq-2
returns-then-eq-2 c =
    by_word (codes "fault") (named name_of_fault (SkipNoRow ∷ SkipSame ∷ [])) (view c.args.json.now) (view c.in_ok-get.field-0.now)
    c.in_ok-text.text.now (codes "SkipSame") (search rules) c.in_ok-get.ensures c.in_ok-text.ensures
