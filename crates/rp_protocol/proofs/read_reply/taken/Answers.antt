use Rattle.std.proofs.Common.{◌∷◌, [], rules}
use Rattle.std.specs.Prelude.{codes}
use Rattle.serde_json.specs.View.{view}
use Rattle.rp_feed.specs.declared.answer.Taken.TheVariants.{New, Repeat, Old}
use Rattle.rp_json.specs.Forms.{named}
use Rattle.rp_protocol.specs.ReplyLines.{name_of_taken}
use Rattle.rp_protocol.proofs.FieldTexts.{by_word}
use Rattle.rp_protocol.proofs.read_reply.taken.Goals as goal

pub returns-then-eq : goal.returns-then-eq
returns-then-eq c =
    by_word (codes "taken") (named name_of_taken (New ∷ Repeat ∷ Old ∷ [])) (view c.args.json.now) (view c.in_ok-get.field-0.now)
    c.in_ok-text.text.now (codes "new") (search rules) c.in_ok-get.ensures c.in_ok-text.ensures

pub returns-then-eq-2 : goal.returns-then-eq-2
returns-then-eq-2 c =
    by_word (codes "taken") (named name_of_taken (New ∷ Repeat ∷ Old ∷ [])) (view c.args.json.now) (view c.in_ok-get.field-0.now)
    c.in_ok-text.text.now (codes "repeat") (search rules) c.in_ok-get.ensures c.in_ok-text.ensures

pub returns-then-eq-3 : goal.returns-then-eq-3
returns-then-eq-3 c =
    by_word (codes "taken") (named name_of_taken (New ∷ Repeat ∷ Old ∷ [])) (view c.args.json.now) (view c.in_ok-get.field-0.now)
    c.in_ok-text.text.now (codes "old") (search rules) c.in_ok-get.ensures c.in_ok-text.ensures
