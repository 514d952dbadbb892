use Rattle.std.proofs.Common.{◌≤◌, arith, rules}
use Rattle.rp_eval.proofs.Refusing.{below_more}
use Rattle.rp_eval.proofs.lasting.refuses_from.Goals as goal

pub rows-preserved : goal.rows-preserved
rows-preserved g c =
    let le : c.rows.at ≤ c.args.ends.now.own = search rules in (
      omega (arith, c.rows.invariant.0),
      omega (arith, le),
      below_more g.R.Rows.known g.R.Rows.ending c.args.ends.now c.args.term.now c.rows.at c.rows.invariant.2 (c.is_refused_from.ensures (search rules)),
    )
