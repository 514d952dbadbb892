use Rattle.rp_lexer.specs.Lexes.{nothing}
use Rattle.rp_lexer.proofs.gap.gap_end.Goals as goal

pub returns-clause-gap : goal.returns-clause-gap
returns-clause-gap c = c.loop-end.invariant.gap c.loop-end.at nothing
