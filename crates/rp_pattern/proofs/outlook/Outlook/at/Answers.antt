use Rattle.std.proofs.Common.{arith}
use Rattle.rp_pattern.specs.Ways.{kept_of, stack_of}
use Rattle.rp_pattern.proofs.Outlooks.{all_within}
use Rattle.rp_pattern.proofs.Serving.{none_served}
use Rattle.rp_pattern.proofs.outlook.Outlook.at.Goals as goal

pub invariant_of-result : goal.invariant_of-result
invariant_of-result c = record {
  starts = c.ranges.row.fits;
  within = all_within c.args.row 0 (stack_of c.args.ways) (omega (arith, c.ranges.row.fits)) c.requires;
  served = none_served c.new.result (kept_of c.args.ways) c.args.row (stack_of c.args.ways) c.new.ensures;
}
