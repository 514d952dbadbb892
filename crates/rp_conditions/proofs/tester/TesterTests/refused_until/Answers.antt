use Rattle.std.proofs.Common.{rules}
use Rattle.rp_conditions.specs.Entered.{tested_by}
use Rattle.rp_conditions.specs.Tested.{asked_of}
use Rattle.rp_conditions.proofs.Refusals.{lasts_decided, lasts_local, lasts_not_yet}
use Rattle.rp_conditions.proofs.tester.TesterTests.refused_until.Goals as goal

pub returns-then-judges_rows-clause-lasts : goal.returns-then-judges_rows-clause-lasts
unfolding tested_by
returns-then-judges_rows-clause-lasts g c = lasts_local (asked_of (tested_by c.args.self.now)) (c.law_local_tests.ensures.rows (tested_by c.args.self.now) (c.judges_rows.ensures.0 (search rules))) c.args.start c.args.labels.now _ c.requires.refused

pub returns-then-not-decides_known_rows-clause-lasts : goal.returns-then-not-decides_known_rows-clause-lasts
unfolding tested_by
returns-then-not-decides_known_rows-clause-lasts g c = lasts_not_yet (asked_of (tested_by c.args.self.now)) c.args.start c.args.labels.now

pub returns-clause-lasts : goal.returns-clause-lasts
unfolding tested_by
returns-clause-lasts g c = lasts_decided (tested_by c.args.self.now) (c.decides_known_rows.ensures (search rules)) c.args.start c.args.labels.now c.refuses_until.result c.requires.known c.refuses_until.ensures
