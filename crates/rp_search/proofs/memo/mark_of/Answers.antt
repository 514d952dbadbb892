use Rattle.std.proofs.Common.{rules}
use Rattle.rp_search.proofs.memo.mark_of.Goals as goal

pub returns-in-Some-clause-mark : goal.returns-in-Some-clause-mark
returns-in-Some-clause-mark g c =
    let split = c.in-Some.ensures.at in (
      c.is_lasting.ensures.alike (search rules),
      record { place = split.at; row = split.row; top = split.top; words = split.words },
    )
