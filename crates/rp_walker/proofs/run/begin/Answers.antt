use Rattle.std.proofs.Common.{subst}
use Rattle.rp_known.specs.Known.{known_in}
use Rattle.rp_walker.specs.Stages.{IsSpare}
use Rattle.rp_walker.proofs.run.begin.Goals as goal

pub returns-in-Some-clause-searches : goal.returns-in-Some-clause-searches
returns-in-Some-clause-searches g c =
    let q = c.args.query.now in
    let p = known_in g.R.Rows.known g.R.Rows.ending c.args.rows.now in
    c.begin_again.ensures.searches q p c.args.start c.requires.known (subst (λ o. IsSpare q p c.args.start o) c.in-Some.is c.requires.spare)
