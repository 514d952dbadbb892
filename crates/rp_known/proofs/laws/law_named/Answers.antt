use Rattle.rp_known.proofs.Named.{known_named}
use Rattle.rp_known.proofs.Typed.{known_typed}
use Rattle.rp_known.proofs.laws.law_named.Goals as goal

pub returns-clause-named : goal.returns-clause-named
returns-clause-named c = known_named

pub returns-clause-typed : goal.returns-clause-typed
returns-clause-typed c = known_typed c.law_kinds.ensures.cells c.law_kinds.ensures.values known_named
