use Rattle.std.proofs.Common.{◌∷◌, ap, sym, ◌∙◌}
use Rattle.rp_program.specs.Parts.{form_part}
use Rattle.rp_pattern.specs.Continuations.{node_part, iterations_part, tail_parts}
use Rattle.rp_pattern.proofs.Steps.{always_splits, same_splits, taken_as}
use Rattle.rp_pattern.proofs.machine.node.Node.take_other_apart.Goals as goal

pub returns-in-Variable : goal.returns-in-Variable
returns-in-Variable c =
    let a = c.args in
    let x = a.self.now.excluded in
    taken_as a.n a.end a.row _ (λ n e. node_part n e a.self.now ∷ tail_parts n e a.then.now)
    (λ n e. ap (λ f. form_part n e f x ∷ tail_parts n e a.then.now) (sym c.in-Variable.is ∙ c.requires.form)) c.take_row-expansion.new.split c.take_row-expansion.result
    (c.take_row-expansion.ensures (λ n e. tail_parts n e a.then.now))

pub take_permute-requires : goal.take_permute-requires
take_permute-requires c = (c.in-Permute.field-0, sym c.requires.form ∙ c.in-Permute.is)

pub returns-in_ok-split-in-Quantified : goal.returns-in_ok-split-in-Quantified
returns-in_ok-split-in-Quantified c =
    let a = c.args in
    let s = c.in_ok-split-in-Quantified.split in
    let it = c.in_ok-iterations-in-Quantified.iterations in
    always_splits a.n a.end a.row (λ n e. node_part n e a.self.now ∷ tail_parts n e a.then.now) s (λ n e.
    let same = c.in_ok-iterations-in-Quantified.ensures.part n e a.row in
    same_splits n e a.row (iterations_part n e c.in-Quantified.lower it) (node_part n e a.self.now) (tail_parts n e a.then.now) s same.0 same.1 (c.in_ok-split-in-Quantified.ensures n e))
