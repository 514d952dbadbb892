use Rattle.std.proofs.Common.{rules}
use Rattle.rp_search.proofs.asking.lasts.Goals as goal

pub returns-then-is_lasting-clause-lasts : goal.returns-then-is_lasting-clause-lasts
returns-then-is_lasting-clause-lasts g c = λ lt. (c.is_lasting.ensures.alike (search rules), search rules)
