use Rattle.std.proofs.Common.{rules}
use Rattle.std.proofs.lemmas.Iterator.Consumers.{YieldsList-end}
use Rattle.std.proofs.lemmas.Iterator.Splits.{YieldsList-from_lines}
use Rattle.rp_place.proofs.drawing.lines_of_help.Goals as goal

pub returns : goal.returns
returns c =
    let told = YieldsList-end (YieldsList-from_lines c.args.help.now (search rules)) c.loop-line.yielded _ c.loop-line.yielded_by _ _ c.in-None.is c.next.ensures.steps in
    rw (← told.0) (search rules)
