use Rattle.std.proofs.Common.{◌≡◌, true, arith, pos, refl, w32, FitsSigned}
use Rattle.std.proofs.lemmas.Int.{to_z-of_z}
use Rattle.std.proofs.lemmas.Bool.Decides.{nat_tests}
use Rattle.jiff_core.proofs.SignedLemmas.{signed_casts}
use Rattle.jiff_core.specs.Calendar.{days_from_civil}
use Rattle.rp_columns.specs.Instants.{is_day}
use Rattle.rp_columns.proofs.instant.day_number.Goals as goal

pub returns-in-Ok-clause-value : goal.returns-in-Ok-clause-value
returns-in-Ok-clause-value c =
    let v = c.in-Ok.ensures.value in
    let d = c.in-Ok.date in
    let y : d.year ≡ pos c.args.year = omega (arith, signed_casts, v.0) in
    let m : d.month ≡ c.args.month = omega (arith, signed_casts, v.1) in
    let n : d.day ≡ c.args.day = omega (arith, signed_casts, v.2) in
    let month_in = d.month_in in
    let day_in = d.day_in in
    let is : is_day c.args.year c.args.month c.args.day ≡ true = grind (arith, nat_tests, rw (y, m, n) at day_in) in
    let number : c.to_unix_epoch_day.result ≡ days_from_civil (pos c.args.year) c.args.month c.args.day = rw (y, m, n) at c.to_unix_epoch_day.ensures.value in
    let fits : FitsSigned w32 c.to_unix_epoch_day.result = record { sfits = c.to_unix_epoch_day.type_inv } in
    rw (is, to_z-of_z w32 c.to_unix_epoch_day.result fits, number) refl
