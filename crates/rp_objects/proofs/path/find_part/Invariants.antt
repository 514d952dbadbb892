use Rattle.std.proofs.Common.{◌≡◌, ◌≤◌, drop, length}
use Rattle.json.specs.Value.{members_view}
use Rattle.rp_objects.specs.Paths.{among}
use Rattle.rp_objects.specs.Seen.{seen_among}
use Rattle.rp_objects.proofs.path.find_part.Given as goal

abbrev pub invariant-loop-left : goal.invariant-loop-left
invariant-loop-left l = record {
  found : seen_among l.found ≡ among l.part (members_view (drop l.left l.members));
  within : l.left ≤ length l.members;
}

abbrev pub decreases-loop-left : goal.decreases-loop-left
decreases-loop-left l = l.left
