use Rattle.std.proofs.Common.{rules}
use Rattle.rp_conditions.specs.Entered.{tested_by}
use Rattle.rp_conditions.specs.Tested.{asked_of}
use Rattle.rp_conditions.proofs.Refusals.{alike_decided, alike_local}
use Rattle.rp_conditions.proofs.tester.TesterTests.is_lasting.Goals as goal

pub returns-then-judges_rows-clause-alike : goal.returns-then-judges_rows-clause-alike
unfolding tested_by
returns-then-judges_rows-clause-alike g c = λ yes. alike_local (asked_of (tested_by c.args.self.now)) (c.law_local_tests.ensures.rows (tested_by c.args.self.now) (c.judges_rows.ensures.0 (search rules)))

pub returns-clause-alike : goal.returns-clause-alike
unfolding tested_by
returns-clause-alike g c = λ yes. alike_decided (tested_by c.args.self.now) (c.decides_known_rows.ensures yes)
