use Rattle.std.proofs.Common.{◌∙◌, arith}
use Rattle.std.proofs.lemmas.Str.Pattern.{rfind_char}
use Rattle.rp_place.proofs.Feeds.{last_line-none, last_line-some}
use Rattle.rp_place.proofs.place.last_line.Goals as goal

pub returns-in-None : goal.returns-in-None
returns-in-None c =
    last_line-none c.args.text.now (rw c.in-None.is at (rfind_char 10 c.args.text.now c.rfind.result c.rfind.ensures.cases (omega arith)))

pub returns-in-Some : goal.returns-in-Some
returns-in-Some c =
    let (within, here, none) = rw c.in-Some.is at (rfind_char 10 c.args.text.now c.rfind.result c.rfind.ensures.cases (omega arith)) in
    c.range_from.ensures.value ∙ last_line-some c.args.text.now c.in-Some.feed within here none
