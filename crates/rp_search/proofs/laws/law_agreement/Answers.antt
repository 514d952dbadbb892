use Rattle.rp_search.proofs.Agreement.{same_is_tested, same_is_tested_first, same_status, same_is_found, headed_agree, leader_finds_same, leader_heads}
use Rattle.rp_search.proofs.laws.law_agreement.Goals as goal

pub returns-clause-tests : goal.returns-clause-tests
returns-clause-tests c = same_is_tested

pub returns-clause-status : goal.returns-clause-status
returns-clause-status c = same_status

pub returns-clause-words : goal.returns-clause-words
returns-clause-words c = same_is_found

pub returns-clause-led : goal.returns-clause-led
returns-clause-led c = leader_finds_same c.law_leaders.ensures

pub returns-clause-first : goal.returns-clause-first
returns-clause-first c = same_is_tested_first

pub returns-clause-headed : goal.returns-clause-headed
returns-clause-headed c = headed_agree

pub returns-clause-heads : goal.returns-clause-heads
returns-clause-heads c = leader_heads c.law_leaders.ensures
