use Rattle.std.proofs.Common.{inl, inr}
use Rattle.rp_describe.proofs.precedes.are_apart.Goals as goal

pub returns-then-has_variable : goal.returns-then-has_variable
returns-then-has_variable c = λ no. inr (c.has_variable-then-has_variable.ensures no)

pub returns-else-has_variable : goal.returns-else-has_variable
returns-else-has_variable c = λ no. inl (c.has_variable.ensures no)
