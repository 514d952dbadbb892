use Rattle.std.proofs.Common.{take, get_or, false}
use Rattle.std.proofs.lemmas.List.{take_more}
use Rattle.rp_words.specs.declared.word.Label.{Label}
use Rattle.rp_engine_tests.proofs.values.plans.totals_of.Goals as goal

pub loop-depth-init : goal.loop-depth-init
loop-depth-init g c = c.in_ok-totals.ensures.none (g.R.Rows.known c.args.rows.now) 1

pub enter-requires-clause-new : goal.enter-requires-clause-new
enter-requires-clause-new g c =
    let ls = c.args.labels.now in
    let none : Label = record { var = 0; excluded = false } in
    record { before = take c.loop-depth.depth ls; label = get_or ls c.loop-depth.depth none; is = take_more ls c.loop-depth.depth none c.loop-depth-test.true; totals = c.loop-depth.invariant }
