use Rattle.std.proofs.Common.{◌+◌, ◌-◌, ◌/◌, sym, ◌∙◌, arith}
use Rattle.rp_feed.proofs.Places.{below_more, below_less}
use Rattle.rp_feed.proofs.held_rows.place_between.Goals as goal

pub loop-low-preserved-then-is_below : goal.loop-low-preserved-then-is_below
loop-low-preserved-then-is_below c =
    let w = c.loop-low.invariant.within in
    let l = c.loop-low-test.true in
    record {
      low = below_more 0 c.args.number (c.loop-low.low + (c.loop-low.high - c.loop-low.low) / 2) c.args.rows.now.items c.requires.ascend (omega (arith, w, l)) (sym c.is_below.ensures ∙ c.if-is_below.true);
      high = c.loop-low.invariant.high;
      within = c.loop-low.invariant.within;
    }

pub loop-low-preserved : goal.loop-low-preserved
loop-low-preserved c =
    let w = c.loop-low.invariant.within in
    let l = c.loop-low-test.true in
    record {
      low = c.loop-low.invariant.low;
      high = below_less c.args.number (c.loop-low.low + (c.loop-low.high - c.loop-low.low) / 2) c.args.rows.now.items (omega (arith, w, l)) (sym c.is_below.ensures ∙ c.if-is_below.false);
      within = omega (arith, w, l);
    }
