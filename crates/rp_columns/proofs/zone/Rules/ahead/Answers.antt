use Rattle.std.proofs.Common.{rules, ◌≡◌, ◌∙◌, ◌+ℤ◌, ◌*ℤ◌, pos, ap, arith}
use Rattle.jiff_core.proofs.SignedLemmas.{signed_casts}
use Rattle.jiff_core.specs.DateTime.{civil_seconds}
use Rattle.jiff_core.specs.Timestamp.{nanos_of_seconds}
use Rattle.jiff_tz.specs.Tzif.{ambiguous_at}
use Rattle.rp_columns.specs.Zones.{only}
use Rattle.rp_columns.proofs.LocalTimes.{local_offsets}
use Rattle.rp_columns.proofs.zone.Rules.ahead.Goals as goal

pub returns : goal.returns
returns c =
    let table : c.deref.result.now ≡ c.args.self.now = search rules in
    let second : civil_seconds c.local_time.result ≡ c.args.day *ℤ pos 86400 +ℤ pos c.args.second = omega (arith, signed_casts, c.local_time.ensures.seconds) in
    let offsets = local_offsets c.args.self.now c.local_time.result (c.args.day *ℤ pos 86400 +ℤ pos c.args.second) second (c.local_time.ensures.nanoseconds ∙ ap nanos_of_seconds second) in
    c.only.ensures ∙ ap only (c.to_ambiguous_offset.ensures ∙ ap (λ t. ambiguous_at t c.local_time.result) table ∙ offsets)
