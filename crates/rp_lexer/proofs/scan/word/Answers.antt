use Rattle.rp_lexer.proofs.Scanned.{name_token, word_token}
use Rattle.rp_lexer.proofs.scan.word.Goals as goal

pub returns-in-Some-clause-token : goal.returns-in-Some-clause-token
returns-in-Some-clause-token c =
    word_token c.args.text.now c.args.start c.requires.within c.name_len.result c.in-Some.word c.requires.starts c.name_len.ensures c.in-Some.ensures

pub returns-in-None-clause-token : goal.returns-in-None-clause-token
returns-in-None-clause-token c =
    name_token c.args.text.now c.args.start c.requires.within c.name_len.result c.requires.starts c.name_len.ensures c.in-None.ensures
