use Rattle.std.proofs.Common.{rules}
use Rattle.rp_conditions.specs.Entered.{tested_by}
use Rattle.rp_conditions.proofs.Refusals.{back_decided, closed_decided}
use Rattle.rp_conditions.proofs.tester.Tester.decides_known_rows.Goals as goal

pub returns-then-looks_back : goal.returns-then-looks_back
unfolding tested_by
returns-then-looks_back g c = λ yes. back_decided c.law_conditions.ensures.back (tested_by c.args.self.now) (c.looks_back.ensures.0 (search rules))

pub returns-in-Closed : goal.returns-in-Closed
unfolding tested_by
returns-in-Closed g c = λ yes. closed_decided (tested_by c.args.self.now) (search rules)
