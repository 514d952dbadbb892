use Rattle.rp_engine_tests.proofs.answers.cases.cases_by_a_plain_program.Given as goal

abbrev pub ghosts-play_patterns : goal.ghosts-play_patterns
ghosts-play_patterns a = record { name = a.blank.name; parts = a.blank.parts }
