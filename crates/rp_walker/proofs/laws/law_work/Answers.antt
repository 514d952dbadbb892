use Rattle.rp_walker.proofs.Working.{back_decides, closed_decides, walker_grows, work_linear}
use Rattle.rp_walker.proofs.Seeing.{polls_seen, seen_grows, seen_same}
use Rattle.rp_walker.proofs.laws.law_work.Goals as goal

pub returns-clause-closed : goal.returns-clause-closed
returns-clause-closed c = closed_decides

pub returns-clause-grows : goal.returns-clause-grows
returns-clause-grows c = walker_grows c.law_search.ensures.work

pub returns-clause-linear : goal.returns-clause-linear
returns-clause-linear c = work_linear

pub returns-clause-back : goal.returns-clause-back
returns-clause-back c = back_decides c.law_conditions.ensures.back

pub returns-clause-seen : goal.returns-clause-seen
returns-clause-seen c = polls_seen

pub returns-clause-rises : goal.returns-clause-rises
returns-clause-rises c = seen_grows c.law_search.ensures.work

pub returns-clause-same : goal.returns-clause-same
returns-clause-same c = seen_same c.law_search.ensures.work
