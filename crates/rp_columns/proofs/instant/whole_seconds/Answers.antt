use Rattle.std.proofs.Common.{arith}
use Rattle.jiff_core.proofs.SignedLemmas.{signed_casts}
use Rattle.rp_columns.proofs.instant.whole_seconds.Goals as goal

pub returns-clause-value : goal.returns-clause-value
returns-clause-value c = omega (arith, signed_casts)

pub returns-clause-bound : goal.returns-clause-bound
returns-clause-bound c = omega (arith, signed_casts)
