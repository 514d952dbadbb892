use Rattle.rp_known.proofs.Earlier.{earlier_begins, leg_stays, came_stays}
use Rattle.rp_known.proofs.laws.law_earlier.Goals as goal

pub returns-clause-begins : goal.returns-clause-begins
returns-clause-begins c = λ q p. earlier_begins c.law_early_conditions.ensures c.law_words.ensures.extend c.law_words.ensures.within c.law_found.ensures.stays q p

pub returns-clause-walk : goal.returns-clause-walk
returns-clause-walk c = λ q p d from to came. came_stays c.law_early_conditions.ensures c.law_words.ensures.extend c.law_words.ensures.within c.law_found.ensures.stays q p came

pub returns-clause-leg : goal.returns-clause-leg
returns-clause-leg c = λ q p place. leg_stays c.law_early_conditions.ensures c.law_words.ensures.extend c.law_words.ensures.within c.law_found.ensures.stays q p place
