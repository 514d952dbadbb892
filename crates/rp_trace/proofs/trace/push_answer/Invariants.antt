use Rattle.rp_trace.proofs.trace.push_answer.Given as goal

abbrev pub ghosts-push_match : goal.ghosts-push_match
ghosts-push_match a = record { name = a.blank.name; parts = a.blank.parts }
