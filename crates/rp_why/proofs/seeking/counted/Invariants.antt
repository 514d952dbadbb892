use Rattle.std.proofs.Common.{◌-◌, ◌≤◌}
use Rattle.rp_why.specs.Seeking.{Searches, closed_by}
use Rattle.rp_why.specs.Sought.{NoneFrom}
use Rattle.rp_why.proofs.seeking.counted.Given as goal

abbrev pub invariant-rows : goal.invariant-rows
invariant-rows g l = record {
  begun : l.fn.wanted.first ≤ l.start;
  within : l.start ≤ l.fn.wanted.last;
  searches : Searches l.fn.query (closed_by l.fn.rows.rows.items) l.start l.run;
  none : NoneFrom l.fn.query (closed_by l.fn.rows.rows.items) l.fn.wanted.with_rows l.fn.wanted.first l.start;
}

abbrev pub decreases-rows : goal.decreases-rows
decreases-rows g l = l.fn.wanted.last - l.start
