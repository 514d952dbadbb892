use Rattle.rp_search.proofs.FoundLaws.{found_stays, found_resumes, closed_decides, match_is_word, refused_stays, good_stays}
use Rattle.rp_search.proofs.laws.law_found.Goals as goal

pub returns-clause-stays : goal.returns-clause-stays
returns-clause-stays c = λ rows old new ws ws' s a r k. found_stays rows old new s a r k

pub returns-clause-resumes : goal.returns-clause-resumes
returns-clause-resumes c = λ rows old new ws ws' s a r. found_resumes rows old new s a r

pub returns-clause-closed : goal.returns-clause-closed
returns-clause-closed c = λ test ws h a. closed_decides test ws h a

pub returns-clause-word : goal.returns-clause-word
returns-clause-word c = λ test ws ls h. match_is_word test ws ls h

pub returns-clause-refused : goal.returns-clause-refused
returns-clause-refused c = λ rows old new w w' s a b h. refused_stays rows old new w w' s a b h

pub returns-clause-good : goal.returns-clause-good
returns-clause-good c = λ rows old new w s a h. good_stays rows old new w s a h
