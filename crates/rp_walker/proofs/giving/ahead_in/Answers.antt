use Rattle.std.proofs.Common.{◌≡◌, ◌+◌, length, ap, ◌∙◌, arith}
use Rattle.rp_query.specs.declared.query.Plan.{Plan}
use Rattle.rp_walker.proofs.Begins.{all_ahead}
use Rattle.rp_walker.proofs.giving.ahead_in.Goals as goal

pub returns-in_default : goal.returns-in_default
returns-in_default c =
    let e = c.rows_from-in_default.ensures in
    let next : c.rows_from-in_default.result.next ≡ c.args.place.start = ap (λ r. r.next) e in
    let end : c.rows_from-in_default.result.end ≡ c.args.place.start + length c.args.labels.now = ap (λ r. r.end) e in
    let some = c.if-rows-eq0.false in
    record {
      seen = ap (λ r. r.seen) e;
      low = omega (arith, next);
      ordered = omega (arith, next, end);
      high = omega (arith, end);
      rows = all_ahead c.args.query.now c.args.place c.args.labels.now c.rows_from-in_default.result (omega (arith, some)) (λ k. c.in_default.not-One (ap (λ (plan : Plan). plan.rows) c.plan-2.ensures.plan ∙ k)) next end;
    }
