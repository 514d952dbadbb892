use Rattle.std.proofs.Common.{sym, subst}
use Rattle.std.specs.List.{AllByRecursion}
use Rattle.std.proofs.lemmas.List.{drop_more}
use Rattle.rp_describe.specs.Missing.{IsMissing}
use Rattle.rp_describe.proofs.missing.are_missing.Goals as goal

pub loop-member-preserved : goal.loop-member-preserved
loop-member-preserved c = λ all.
    c.loop-member.invariant
    (subst (AllByRecursion (IsMissing c.args.looker.now.form.now c.args.looker.now.variable)) (sym (drop_more c.args.members.now c.loop-member.member-index 0 c.loop-member-test.true))
    ((c.if-member-looker.false, c.may_precede.ensures c.if-may_precede.false), all))
