use Rattle.std.proofs.Common.{◌≡◌, true, [], refl}
use Rattle.std.specs.Prelude.{nat_le}
use Rattle.rp_resolution.specs.declared.fault.CheckKind.TheVariants.{BadBounds}
use Rattle.rp_resolution.specs.ExprFaults.{unless}
use Rattle.rp_resolution.proofs.Telling.{allowed}
use Rattle.rp_resolution.proofs.place.allow_offset.Goals as goal

pub returns-in-Some : goal.returns-in-Some
returns-in-Some c =
    let within = nat_le c.in-Some.offset.rows 1000 in
    rw c.in-Some.is (allowed [] (unless within BadBounds c.in-Some.offset.at) (λ u. within ≡ true) c.require.result refl c.require.ensures)
