use Rattle.std.proofs.Common.{List, length, ap, arith}
use Rattle.rp_value.specs.declared.value.Value.{Value}
use Rattle.rp_answer.specs.Kept.{kept_count}
use Rattle.rp_answer.proofs.matcher.Matcher.resume.Goals as goal

pub returns-clause-count : goal.returns-clause-count
returns-clause-count c = omega (arith, kept_count c.new.result, c.new.ensures.first, ap (λ (xs : List (List Value)). length xs) c.new.ensures.none)
