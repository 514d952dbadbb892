use Rattle.rp_lexer.proofs.Tables.{keyword_found}
use Rattle.rp_lexer.proofs.scan.keyword.Goals as goal

pub returns : goal.returns
returns c = keyword_found c.args.name.now c.find_word.result c.find_word.ensures
