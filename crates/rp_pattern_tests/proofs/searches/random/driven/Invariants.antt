use Rattle.rp_pattern_tests.proofs.searches.random.driven.Given as goal

abbrev pub ghosts-counted : goal.ghosts-counted
ghosts-counted a = record { name = a.blank.name; parts = a.blank.parts }
