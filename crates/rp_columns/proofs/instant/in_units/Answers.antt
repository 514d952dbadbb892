use Rattle.std.proofs.Common.{arith}
use Rattle.jiff_core.proofs.SignedLemmas.{signed_casts}
use Rattle.rp_columns.proofs.instant.in_units.Goals as goal

pub overflow_add-result-in-Microsecond : goal.overflow_add-result-in-Microsecond
overflow_add-result-in-Microsecond c = omega (arith, signed_casts)

pub returns-in-Second : goal.returns-in-Second
returns-in-Second c = rw c.in-Second.is (omega (arith, signed_casts))

pub returns-in-Millisecond : goal.returns-in-Millisecond
returns-in-Millisecond c = rw c.in-Millisecond.is (omega (arith, signed_casts))

pub returns-in-Microsecond : goal.returns-in-Microsecond
returns-in-Microsecond c = rw c.in-Microsecond.is (omega (arith, signed_casts))
