use Rattle.rp_pattern_tests.proofs.support.+some_form.Given as goal

abbrev pub decreases-some_form : goal.decreases-some_form
decreases-some_form l = l.levels
