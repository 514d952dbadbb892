use Rattle.std.proofs.Common.{◌≡◌}
use Rattle.rp_question.specs.Adding.{AreRowsOfFirst}
use Rattle.rp_question.proofs.question.Question.rows_of_all.Given as goal

abbrev pub invariant-loop-index : goal.invariant-loop-index
invariant-loop-index g l = record {
  seen : g.I.Inputs.seen l.inputs ≡ g.I.Inputs.seen l.fn.inputs;
  rows : AreRowsOfFirst l.self.reading (g.I.Inputs.seen l.fn.inputs).texts l.index l.all.items;
}
