use Rattle.rp_walker.proofs.Lefts.{left_bounded, left_same}
use Rattle.rp_walker.proofs.laws.law_left.Goals as goal

pub returns-clause-bounded : goal.returns-clause-bounded
returns-clause-bounded c = λ q p w h. left_bounded c.law_search.ensures.bounded q p w h

pub returns-clause-same : goal.returns-clause-same
returns-clause-same c = λ q p p' w sound agrees h. left_same c.law_search.ensures.same c.law_tests.ensures q p p' sound w agrees h
