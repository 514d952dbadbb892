use Rattle.std.proofs.Common.{◌≡◌, map, drop}
use Rattle.std.specs.Prelude.{max}
use Rattle.rp_resolution.specs.Queries.{greatest}
use Rattle.rp_query.specs.Reach.{condition_reach}
use Rattle.rp_resolution.proofs.shown.condition_reach_of_all.Given as goal

abbrev pub invariant-loop-condition : goal.invariant-loop-condition
invariant-loop-condition l = max l.most (greatest (map condition_reach (drop l.condition-index l.conditions))) ≡ greatest (map condition_reach l.conditions)
