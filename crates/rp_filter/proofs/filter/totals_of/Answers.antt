use Rattle.std.proofs.Common.{arith, []}
use Rattle.rp_filter.specs.Meets.{only_label}
use Rattle.rp_filter.proofs.filter.totals_of.Goals as goal

pub enter-requires-clause-new : goal.enter-requires-clause-new
enter-requires-clause-new c = record {
  before = [];
  label = only_label;
  is = c.requires.only;
  totals = c.in_ok-totals.ensures.none c.args.rows.now.rows.items 1;
}
