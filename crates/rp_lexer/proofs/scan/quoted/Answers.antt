use Rattle.std.proofs.Common.{refl, subst, arith, get_or}
use Rattle.rp_lexer.specs.Scan.{Closes}
use Rattle.rp_lexer.proofs.Scanned.{rest_of, quoted_token, empty_fault}
use Rattle.rp_lexer.proofs.scan.quoted.Goals as goal

pub returns-in-Some-clause-ok : goal.returns-in-Some-clause-ok
returns-in-Some-clause-ok c =
    (quoted_token c.args.text.now c.args.start c.requires.within c.in-Some.length c.requires.quote c.in-Some.ensures (λ e. omega arith), refl)

pub returns-in-Some-eq2-clause-err : goal.returns-in-Some-eq2-clause-err
returns-in-Some-eq2-clause-err c =
    let rest = rest_of c.args.text.now c.args.start in
    let closes = subst (λ len. Closes (get_or rest 0 0) rest len) c.in-Some-eq2.field-0-test c.in-Some-eq2.ensures in
    (empty_fault c.args.text.now c.args.start c.requires.within c.requires.quote closes, refl)
