use Rattle.rp_conditions.specs.Entered.{HasEntered}
use Rattle.rp_conditions.proofs.tester.TesterTests.cut.Goals as goal

pub returns-clause-none : goal.returns-clause-none
unfolding HasEntered
returns-clause-none g c = λ zero start. c.cut.ensures.none zero (g.R.Rows.known c.args.self.now.rows.now) start
