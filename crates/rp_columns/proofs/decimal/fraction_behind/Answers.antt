use Rattle.std.proofs.Common.{◌∙◌}
use Rattle.rp_columns.proofs.Numbers.{some_digit}
use Rattle.rp_columns.proofs.decimal.fraction_behind.Goals as goal

pub returns-clause-some : goal.returns-clause-some
returns-clause-some c = c.begins_with_digit.ensures ∙ some_digit c.args.bytes.now
