use Rattle.std.proofs.Common.{ap, ◌∙◌}
use Rattle.std.specs.Prelude.{nat_lt}
use Rattle.rp_feed.specs.Fed.{Numbered}
use Rattle.rp_feed.proofs.Places.{number_read}
use Rattle.rp_feed.proofs.held_rows.is_below.Goals as goal

pub returns : goal.returns
returns c = ap (λ z. nat_lt z c.args.number) (ap (λ (e : Numbered). e.0) c.index.ensures ∙ number_read c.args.rows.now.items c.args.place c.index.result.now c.requires)
