use Rattle.std.proofs.Common.{refl}
use Rattle.rp_lexer.proofs.Scanned.{text_token}
use Rattle.rp_lexer.proofs.scan.literal.Goals as goal

pub returns-in-Some-clause-ok : goal.returns-in-Some-clause-ok
returns-in-Some-clause-ok c =
    (text_token c.args.text.now c.args.start c.requires.within c.in-Some.length c.requires.quote c.in-Some.ensures, refl)
