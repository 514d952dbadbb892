use Rattle.std.proofs.Common.{sym, subst}
use Rattle.rp_describe.specs.Said.{IsSaidOf}
use Rattle.rp_describe.proofs.Depending.{said_left, said_right}
use Rattle.rp_describe.proofs.looks.with_variable.Goals as goal

pub returns-in-Some-clause-kept : goal.returns-in-Some-clause-kept
returns-in-Some-clause-kept c = λ v d said.
    subst (IsSaidOf c.args.query.now v d) (sym c.and.ensures) (said_left c.args.others c.in-Some.looks c.args.query.now v d said)

pub returns-in-Some-clause-said : goal.returns-in-Some-clause-said
returns-in-Some-clause-said c = λ d defined.
    subst (IsSaidOf c.args.query.now c.args.variable d) (sym c.and.ensures)
    (said_right c.args.others c.in-Some.looks c.args.query.now c.args.variable d (c.in-Some.ensures.said d defined))
