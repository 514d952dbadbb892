use Rattle.rp_feed.proofs.Ordered.{row_is_added, rows_are_dropped, taken_is_added, taken_stays, order_stays, order_is_kept}
use Rattle.rp_feed.proofs.laws.law_rows.Goals as goal

pub returns : goal.returns
returns c = record {
  added = row_is_added;
  dropped = rows_are_dropped;
  taken = taken_is_added;
  stays_taken = taken_stays;
  ordered_after_row = order_stays;
  ordered_after_drop = order_is_kept;
}
