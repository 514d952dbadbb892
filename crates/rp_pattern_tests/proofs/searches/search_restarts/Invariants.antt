use Rattle.rp_pattern_tests.proofs.searches.search_restarts.Given as goal

abbrev pub ghosts-restarted : goal.ghosts-restarted
ghosts-restarted rt a = record { name = a.blank.name; parts = a.blank.parts }
