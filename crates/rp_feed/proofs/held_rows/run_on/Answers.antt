use Rattle.std.proofs.Common.{◌+◌, ◌≤◌, ◌∙◌, sym, arith}
use Rattle.rp_feed.specs.Fed.{first_missing}
use Rattle.rp_feed.proofs.Places.{run_on_more, run_on_done}
use Rattle.rp_feed.proofs.held_rows.run_on.Goals as goal

pub loop-run-smaller : goal.loop-run-smaller
loop-run-smaller c =
    let on : c.args.first + (c.loop-run.run + 1) ≤ first_missing c.args.first c.args.rows.now.items = run_on_more c.args.first c.loop-run.run c.args.rows.now.items c.loop-run.invariant (sym c.row_in.ensures.variant ∙ sym c.is_some.ensures ∙ c.loop-run-test.true) in
    omega arith

pub loop-run-preserved : goal.loop-run-preserved
loop-run-preserved c = run_on_more c.args.first c.loop-run.run c.args.rows.now.items c.loop-run.invariant (sym c.row_in.ensures.variant ∙ sym c.is_some.ensures ∙ c.loop-run-test.true)

pub returns : goal.returns
returns c = run_on_done c.args.first c.loop-run.run c.args.rows.now.items c.loop-run.invariant (sym c.row_in.ensures.variant ∙ sym c.is_some.ensures ∙ c.loop-run-test.false)
