use Rattle.std.proofs.Common.{refl}
use Rattle.rp_lexer.proofs.Scanned.{mark_token, mark_fault}
use Rattle.rp_lexer.proofs.scan.marked.Goals as goal

pub returns-in-Some-clause-ok : goal.returns-in-Some-clause-ok
returns-in-Some-clause-ok c =
    (mark_token c.args.text.now c.args.start c.requires.within c.in-Some.mark c.in-Some.length c.requires.stops c.requires.sign c.in-Some.ensures, refl)

pub returns-in-None-clause-err : goal.returns-in-None-clause-err
returns-in-None-clause-err c =
    (mark_fault c.args.text.now c.args.start c.requires.within c.requires.stops c.requires.sign c.in-None.ensures, refl)
