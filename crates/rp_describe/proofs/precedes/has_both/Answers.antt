use Rattle.rp_describe.proofs.Precedences.{none_earlier, none_later}
use Rattle.rp_describe.proofs.precedes.has_both.Goals as goal

pub returns-then-has_variable : goal.returns-then-has_variable
returns-then-has_variable c = λ no. none_later c.args.earlier c.args.later c.args.form.now (c.has_variable-then-has_variable.ensures no)

pub returns-else-has_variable : goal.returns-else-has_variable
returns-else-has_variable c = λ no. none_earlier c.args.earlier c.args.later c.args.form.now (c.has_variable.ensures no)
