use Rattle.std.proofs.Common.{◌∙◌, Some, ap, sym}
use Rattle.rp_command.proofs.arguments.text_of.Goals as goal

pub returns-clause-value : goal.returns-clause-value
returns-clause-value c = λ given. c.given_word.ensures ∙ ap Some (sym (c.text.ensures.same given))
