-- What is known of rows grows with them.
use Rattle.std.proofs.Common.{refl}
use Rattle.rp_words.specs.declared.word.End.TheVariants.{Open}
use Rattle.rp_query.specs.declared.query.QueryData.{QueryData}
use Rattle.rp_query.specs.Sound.{IsSound}
use Rattle.rp_known.specs.WalkLaws.{KnownGrows}
use Rattle.rp_schedules.specs.Schedules.{Grows}
use Rattle.rp_schedules.specs.Records.{known_of_rows}

pub answer_grows : KnownGrows → (q : QueryData) → IsSound q → Grows (known_of_rows q)
answer_grows grows q sound rows more e =
    let h = grows q (record { rows = rows; end = Open }) (record { rows = _; end = e }) sound (record { open_before = refl; more = more; rows = refl }) in
    record { rest = h.rest; is = h.is }
