use Rattle.rp_place.proofs.Widths.{as_wide, under_place}
use Rattle.rp_place.proofs.laws.law_marks.Goals as goal

pub returns-clause-under : goal.returns-clause-under
returns-clause-under c = under_place

pub returns-clause-wide : goal.returns-clause-wide
returns-clause-wide c = as_wide
