use Rattle.std.proofs.Common.{◌-◌, max, arith, refl}
use Rattle.rp_conditions.proofs.Outliving.{goes_on_from, outcome_stays}
use Rattle.rp_conditions.proofs.laws.law_tests.Goals as goal

pub returns : goal.returns
returns c = λ t p' e' start one sound g.
    record {
      later = g.later;
      stay = outcome_stays c.law_conditions.ensures.stays t p' e' start one sound g;
      variables = refl;
      remembered = (
        refl,
        λ row le. outcome_stays c.law_conditions.ensures.stays t p' e' row (omega (arith, one, le)) sound
            (goes_on_from (max 1 (start - t.query.reach)) (max 1 (row - t.query.reach)) t.rows p' t.ending e' (omega (arith, le)) g),
      );
    }
