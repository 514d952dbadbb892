use Rattle.rp_lexer.proofs.Tables.{mark_found}
use Rattle.rp_lexer.proofs.scan.mark.Goals as goal

pub returns : goal.returns
returns c = mark_found c.args.rest.now c.find_mark.result c.find_mark.ensures
