use Rattle.rp_words.proofs.Leaders.{leaders_head}
use Rattle.rp_words.proofs.laws.law_leaders.Goals as goal

pub returns : goal.returns
returns c = leaders_head
