use Rattle.std.proofs.Common.{◌∙◌, sym, arith}
use Rattle.rp_objects.proofs.LinesTaken.{skip_one}
use Rattle.rp_objects.proofs.lines.Lines.next_full.Goals as goal

pub lines-preserved : goal.lines-preserved
lines-preserved c =
    let first = c.in-Some.ensures.some in
    let room = c.lines.invariant.room in
    let shorter = first.1 in
    record {
      skipped = skip_one _ _ _ _ c.lines.invariant.skipped c.in-Some.line.now c.in-Some.rest.now first.0 (sym c.is_blank.ensures ∙ c.if-not-is_blank.false);
      room = omega (arith, room, shorter);
    }
