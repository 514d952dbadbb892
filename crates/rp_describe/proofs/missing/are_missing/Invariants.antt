use Rattle.std.proofs.Common.{drop}
use Rattle.std.specs.List.{AllByRecursion}
use Rattle.rp_describe.specs.Missing.{IsMissing}
use Rattle.rp_describe.proofs.missing.are_missing.Given as goal

abbrev pub invariant-loop-member : goal.invariant-loop-member
invariant-loop-member l =
    AllByRecursion (IsMissing l.looker.form.now l.looker.variable) (drop l.member-index l.members) → AllByRecursion (IsMissing l.looker.form.now l.looker.variable) l.members
