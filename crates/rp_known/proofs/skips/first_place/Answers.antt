use Rattle.std.proofs.Common.{◌∙◌, sym, false, add-one}
use Rattle.rp_known.specs.Skips.{is_of}
use Rattle.rp_known.proofs.Places.{first_here, first_not_here}
use Rattle.rp_known.proofs.skips.first_place.Goals as goal

pub returns-then-includes-clause-is : goal.returns-then-includes-clause-is
returns-then-includes-clause-is c =
    sym (first_here (is_of c.args.variables.now) c.args.labels.now c.loop-place.place (record { var = 0; excluded = false }) c.loop-place-test.true c.loop-place.invariant (sym c.includes.ensures ∙ c.if-includes.true))

pub loop-place-preserved : goal.loop-place-preserved
loop-place-preserved c =
    rw add-one (first_not_here (is_of c.args.variables.now) c.args.labels.now c.loop-place.place (record { var = 0; excluded = false }) c.loop-place-test.true c.loop-place.invariant (sym c.includes.ensures ∙ c.if-includes.false))
