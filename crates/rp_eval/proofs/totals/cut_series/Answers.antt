use Rattle.std.proofs.Common.{◌≡◌, ◌<◌, ◌+◌, length, get_or, refl, sym, ap, ◌∙◌, arith, rules}
use Rattle.rp_eval.specs.Kept.{Kept, cut_back}
use Rattle.rp_eval.proofs.KeptSeries.{mixed_set, mixed_get, unchanged}
use Rattle.rp_eval.proofs.totals.cut_series.Goals as goal

pub loop-number-init : goal.loop-number-init
loop-number-init c = unchanged c.args.series.now

pub loop-number-preserved : goal.loop-number-preserved
loop-number-preserved c =
    let old = c.args.series.now in
    let n = c.loop-number.number in
    let k = c.index-series-number.result in
    let f = cut_back c.args.depth in
    let lt : n < length old = omega (arith, c.loop-number-test.true) in
    let here : k ≡ get_or c.loop-number.series n k = search rules in
    let was = mixed_get f (λ (k : Kept). k) old n k k c.loop-number.series lt c.loop-number.invariant here in
    mixed_set f (λ (k : Kept). k) old n (n + 1) k c.cut.new.self c.loop-number.series lt refl c.loop-number.invariant (c.cut.ensures ∙ ap f (sym here ∙ was))
