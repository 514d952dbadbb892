use Rattle.rp_engine_tests.proofs.answers.long.run_clause.Given as goal

abbrev pub ghosts-run : goal.ghosts-run
ghosts-run a = record { name = a.blank.name; parts = a.blank.parts }
