use Rattle.std.proofs.Common.{refl}
use Rattle.rp_known.specs.Plans.{tested_by}
use Rattle.rp_known.specs.Walk.{found_at}
use Rattle.rp_conditions.specs.Tested.{outcome_of}
use Rattle.rp_known.proofs.InRows.{walk_in, found_in}
use Rattle.rp_known.proofs.Legs.{leg_on, found_on, match_known}
use Rattle.rp_known.proofs.Values.{continues_on}
use Rattle.rp_known.proofs.laws.law_legs.Goals as goal

pub returns-clause-lead : goal.returns-clause-lead
returns-clause-lead c = leg_on

pub returns-clause-searches : goal.returns-clause-searches
returns-clause-searches c = found_on

pub returns-clause-known : goal.returns-clause-known
returns-clause-known c = λ q p start known. match_known c.law_words.ensures.within (outcome_of (tested_by q p) start) q p start known (found_at q p start) refl

pub returns-clause-in_rows : goal.returns-clause-in_rows
returns-clause-in_rows c = λ q p d from to h comes.
    walk_in (λ q p start known. match_known c.law_words.ensures.within (outcome_of (tested_by q p) start) q p start known (found_at q p start) refl) q p comes h

pub returns-clause-searches_in_rows : goal.returns-clause-searches_in_rows
returns-clause-searches_in_rows c = λ q p place result known covered are. found_in p place known covered q result are

pub returns-clause-continuing : goal.returns-clause-continuing
returns-clause-continuing c = continues_on
