use Rattle.std.proofs.Common.{sym, ap, ◌∙◌}
use Rattle.rp_words.specs.Words.{further}
use Rattle.rp_words.specs.Turns.{iterations}
use Rattle.rp_program.specs.Parts.{form_part}
use Rattle.rp_pattern.specs.Continuations.{node_part}
use Rattle.rp_program.proofs.Expansions.{quantified_words, quantified_turns}
use Rattle.rp_pattern.proofs.Steps.{node_as}
use Rattle.rp_pattern.proofs.machine.node.Node.iterations.Goals as goal

pub returns-clause-part : goal.returns-clause-part
returns-clause-part c = λ n e i.
    let a = c.args in
    let x = a.self.now.excluded in
    let body = node_as n e c.in_ok-of.field-0 a.body.now.value x c.in_ok-of.ensures in
    let bound = c.further_after.ensures n in (
      ap (λ h. (iterations a.lower h a.reluctant (node_part n e c.in_ok-of.field-0)).0 i) bound
          ∙ ap (λ p. (iterations a.lower (further n a.lower a.upper) a.reluctant p).0 i) body
          ∙ quantified_words n e x a.body.now a.lower a.upper a.reluctant i
          ∙ ap (λ f. (form_part n e f x).0 i) (sym c.requires),
      ap (λ h. (iterations a.lower h a.reluctant (node_part n e c.in_ok-of.field-0)).1 i) bound
          ∙ ap (λ p. (iterations a.lower (further n a.lower a.upper) a.reluctant p).1 i) body
          ∙ quantified_turns n e x a.body.now a.lower a.upper a.reluctant i
          ∙ ap (λ f. (form_part n e f x).1 i) (sym c.requires),
    )
