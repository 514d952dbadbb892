use Rattle.rp_eval.specs.Entered.{plan_of, kept_in}
use Rattle.rp_eval.specs.Looks.{setting_of}
use Rattle.rp_eval.proofs.KeptSeries.{series_of}
use Rattle.rp_eval.proofs.Places.{every_ends, listed_ends}
use Rattle.rp_eval.proofs.find.ends_here.Goals as goal

pub returns-in-Universal : goal.returns-in-Universal
returns-in-Universal g c = λ ends is_final.
    every_ends (setting_of g.R.Rows.known g.R.Rows.ending c.args.view.now) is_final c.args.rows_of c.in-Universal.is c.requires.current (c.ends_at.ensures ends)

pub returns-in-Some : goal.returns-in-Some
returns-in-Some g c = λ ends is_final.
    let v = c.args.view.now in
    let k = c.in-Some.series.now in
    let of = series_of (g.R.Rows.known v.rows.now) (plan_of v.totals.now) v.start v.labels.now (kept_in v.totals.now) c.in-Listed.number k c.requires.totals c.in-Some.ensures in
    listed_ends (setting_of g.R.Rows.known g.R.Rows.ending v) is_final c.in-Listed.number c.args.rows_of k c.in-Listed.is of c.requires.current (c.ends_at-in-Some.ensures ends)
