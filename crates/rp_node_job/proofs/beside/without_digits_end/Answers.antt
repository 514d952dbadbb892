use Rattle.std.proofs.Common.{◌∙◌, sym, arith, rules}
use Rattle.rp_node_job.proofs.Ends.{digit_before, none_before, other_before}
use Rattle.rp_node_job.proofs.beside.without_digits_end.Goals.{then-loop-length-test+else-is_digit, else-loop-length-test}
use Rattle.rp_node_job.proofs.beside.without_digits_end.Goals as goal

pub loop-length-preserved : goal.loop-length-preserved
loop-length-preserved c =
    let kept = c.loop-length.invariant in
    (omega (arith, kept.0), digit_before c.args.name.now c.loop-length.length 0 c.loop-length-test.true kept.0 (search rules) ∙ kept.1)

pub returns : goal.returns
returns c =
    let kept = c.loop-length.invariant in
    elim c.loop-length-test.branch [
      | then-loop-length-test+else-is_digit w ↦ sym (other_before c.args.name.now c.loop-length.length 0 w.loop-length-test.true kept.0 (search rules)) ∙ kept.1
      | else-loop-length-test w ↦ sym (none_before c.args.name.now c.loop-length.length (omega (arith, w.loop-length-test.false))) ∙ kept.1
    ]
