use Rattle.std.proofs.Common.{rules}
use Rattle.rp_resolution.proofs.Telling.{telling}
use Rattle.rp_check.proofs.checking.query_of.Goals as goal

pub returns-in_err-query : goal.returns-in_err-query
returns-in_err-query c = search (rules, telling)

pub new-requires : goal.new-requires
new-requires c = c.in_ok-data.ensures.1.1

pub returns : goal.returns
returns c = (c.in_ok-data.ensures.0, rw c.in_ok-query.ensures c.in_ok-data.ensures.1.0)
