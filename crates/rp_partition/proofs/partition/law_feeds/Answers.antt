use Rattle.rp_partition.proofs.partition.law_feeds.Goals as goal

pub returns : goal.returns
returns c = record {
  added = c.law_rows.ensures.added;
  dropped = c.law_rows.ensures.dropped;
  stays = c.law_rows.ensures.stays_taken;
  ordered = c.law_rows.ensures.ordered_after_row;
  kept = c.law_rows.ensures.ordered_after_drop;
  one = c.law_front.ensures.one;
  grows = c.law_front.ensures.grows;
  front_stays = c.law_front.ensures.stays;
}
