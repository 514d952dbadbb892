use Rattle.std.proofs.Common.{refl}
use Rattle.rp_lexer.proofs.Scanned.{number_digits, number_token, number_fault}
use Rattle.rp_lexer.proofs.scan.number.Goals as goal

pub value_of-requires : goal.value_of-requires
value_of-requires c = number_digits c.args.text.now c.args.start c.requires.within c.digits_len.result c.requires.digit c.digits_len.ensures

pub returns-in-Some-clause-ok : goal.returns-in-Some-clause-ok
returns-in-Some-clause-ok c =
    (number_token c.args.text.now c.args.start c.requires.within c.digits_len.result c.requires.digit c.digits_len.ensures c.in-Some.ensures.1, refl)

pub returns-in-None-clause-err : goal.returns-in-None-clause-err
returns-in-None-clause-err c =
    (number_fault c.args.text.now c.args.start c.requires.within c.digits_len.result c.requires.digit c.digits_len.ensures c.in-None.ensures, refl)
