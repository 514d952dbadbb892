use Rattle.rp_whole.proofs.Wrote.{halted_by_limit, whole_unless_halted, whole_within_limit}
use Rattle.rp_whole.proofs.laws.law_limits.Goals as goal

pub returns-clause-whole : goal.returns-clause-whole
returns-clause-whole c = whole_unless_halted

pub returns-clause-by_limit : goal.returns-clause-by_limit
returns-clause-by_limit c = halted_by_limit

pub returns-clause-within : goal.returns-clause-within
returns-clause-within c = whole_within_limit c.law_legs.ensures.lead
