use Rattle.rp_known.proofs.Legs.{leg_stays, found_kept}
use Rattle.rp_known.proofs.Growth.{known_grows, comes_stays}
use Rattle.rp_known.proofs.Short.{known_short}
use Rattle.rp_known.proofs.laws.law_known.Goals as goal

pub returns-clause-grows : goal.returns-clause-grows
returns-clause-grows c = λ q p p' reaches k.
    known_grows (leg_stays c.law_words.ensures.extend c.law_words.ensures.within c.law_found.ensures.stays c.law_values.ensures.stays c.law_tests.ensures) q p p' reaches k

pub returns-clause-walk : goal.returns-clause-walk
returns-clause-walk c = λ q p p' d from to reaches one k walks.
    comes_stays (leg_stays c.law_words.ensures.extend c.law_words.ensures.within c.law_found.ensures.stays c.law_values.ensures.stays c.law_tests.ensures) q p p' reaches one k walks

pub returns-clause-leg : goal.returns-clause-leg
returns-clause-leg c = leg_stays c.law_words.ensures.extend c.law_words.ensures.within c.law_found.ensures.stays c.law_values.ensures.stays c.law_tests.ensures

pub returns-clause-short : goal.returns-clause-short
returns-clause-short c = λ q p few. known_short c.law_words.ensures.within q p few

pub returns-clause-found : goal.returns-clause-found
returns-clause-found c = found_kept c.law_words.ensures.extend c.law_words.ensures.within c.law_found.ensures.stays c.law_values.ensures.stays c.law_tests.ensures
