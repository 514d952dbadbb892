use Rattle.std.proofs.Common.{◌≡◌, arith}
use Rattle.jiff_core.proofs.SignedLemmas.{signed_casts}
use Rattle.jiff_core.specs.Date.{epoch_day}
use Rattle.rp_columns.proofs.LocalTimes.{local_nanoseconds, local_seconds}
use Rattle.rp_columns.proofs.zone.local_time.Goals as goal

pub returns-clause-seconds : goal.returns-clause-seconds
returns-clause-seconds c =
    let day : epoch_day c.in-Ok.date ≡ c.args.day = omega (arith, signed_casts, c.in-Ok.ensures.value) in
    local_seconds c.in-Ok.date c.from_second.result c.args.day c.args.second day c.from_second.ensures.seconds

pub returns-clause-nanoseconds : goal.returns-clause-nanoseconds
returns-clause-nanoseconds c = local_nanoseconds c.in-Ok.date c.from_second.result c.from_second.ensures.subsec
