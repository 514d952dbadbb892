use Rattle.rp_same_query.proofs.SameWords.{words_follow}
use Rattle.rp_same_query.proofs.law_same_words.Goals as goal

pub returns : goal.returns
returns c = words_follow
