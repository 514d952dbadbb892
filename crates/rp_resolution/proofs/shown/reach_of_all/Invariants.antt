use Rattle.std.proofs.Common.{◌≡◌, map, drop}
use Rattle.std.specs.Prelude.{max}
use Rattle.rp_resolution.specs.Queries.{greatest}
use Rattle.rp_query.specs.Reach.{reach}
use Rattle.rp_resolution.proofs.shown.reach_of_all.Given as goal

abbrev pub invariant-loop-expr : goal.invariant-loop-expr
invariant-loop-expr l = max l.most (greatest (map reach (drop l.expr-index l.exprs))) ≡ greatest (map reach l.exprs)
