use Rattle.std.proofs.Common.{rules, ◌∙◌, ap, arith}
use Rattle.rp_words.specs.Turns.{turns}
use Rattle.rp_pattern.proofs.compiled.Compiled.new.Goals as goal

pub invariant_of-result : goal.invariant_of-result
invariant_of-result c = record {
  placed = search rules;
  turns = λ n e row.
      let same = ap (turns n e) c.in_ok-form.ensures.ok ∙ c.in_ok-share.ensures.turns n e ∙ ap (turns n e) c.form.ensures.tree in
      omega (arith, c.requires.turns n e row, ap (λ t. t row) same);
}

pub returns-clause-turns : goal.returns-clause-turns
returns-clause-turns c = λ n e row.
    ap (λ t. t row) (ap (turns n e) c.in_ok-form.ensures.ok ∙ c.in_ok-share.ensures.turns n e ∙ ap (turns n e) c.form.ensures.tree)
