use Rattle.std.proofs.Common.{◌≡◌, ◌++◌, map, take, drop}
use Rattle.rp_eval.specs.Kept.{Kept, cut_back}
use Rattle.rp_eval.proofs.totals.cut_series.Given as goal

abbrev pub invariant-loop-number : goal.invariant-loop-number
invariant-loop-number l = l.series ≡ map (cut_back l.depth) (take l.number l.fn.series) ++ map (λ (k : Kept). k) (drop l.number l.fn.series)
