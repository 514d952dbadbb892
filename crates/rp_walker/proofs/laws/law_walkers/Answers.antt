use Rattle.rp_walker.proofs.Later.{stands_later, stands_can}
use Rattle.rp_walker.proofs.laws.law_walkers.Goals as goal

pub returns-clause-stay : goal.returns-clause-stay
returns-clause-stay c = λ q p p' w sound g h. stands_later c.law_known.ensures.found c.law_search.ensures.stays c.law_tests.ensures c.law_totals.ensures q p p' sound w g h

pub returns-clause-can : goal.returns-clause-can
returns-clause-can c = λ q p w h. stands_can q p w h
