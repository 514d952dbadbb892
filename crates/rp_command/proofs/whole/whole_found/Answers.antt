use Rattle.std.proofs.Common.{codes, inl, inr, refl, rules}
use Rattle.rp_command.proofs.Apps.{has_value}
use Rattle.rp_command.specs.Commands.{by_name_or, whole_app}
use Rattle.rp_command.proofs.whole.whole_found.Goals as goal

pub input_of-requires : goal.input_of-requires
unfolding whole_app
input_of-requires c = has_value whole_app (by_name_or (codes "from") (codes "csv")) _ refl refl c.requires

pub answer_of-requires : goal.answer_of-requires
unfolding whole_app
answer_of-requires c = has_value whole_app (by_name_or (codes "format") (codes "lines")) _ refl refl c.requires

pub returns-in_err-from-clause-other : goal.returns-in_err-from-clause-other
returns-in_err-from-clause-other c = λ error is.
    let fault = c.in_err-from.ensures.other error (search rules) in
    (fault.0, inl fault.1)

pub returns-in_err-format-clause-other : goal.returns-in_err-format-clause-other
returns-in_err-format-clause-other c = λ error is.
    let fault = c.in_err-format.ensures.other error (search rules) in
    (fault.0, inr fault.1)
