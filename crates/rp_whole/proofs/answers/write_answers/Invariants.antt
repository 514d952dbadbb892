use Rattle.rp_whole.proofs.answers.write_answers.Given as goal

abbrev pub ghosts-write_parts : goal.ghosts-write_parts
ghosts-write_parts g a = record { name = a.counting.blank.name; parts = a.counting.blank.parts }
