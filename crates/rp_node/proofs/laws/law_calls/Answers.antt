use Rattle.rp_node.proofs.Events.{rows_are_events, closes_are_events, polls_are_events, refused_polls_are_events}
use Rattle.rp_node.proofs.SameRestarts.{restarts_are_one, restarts_are_same, restarts_are_taken}
use Rattle.rp_node.proofs.laws.law_calls.Goals as goal

pub returns : goal.returns
returns c = record {
  rows = rows_are_events c.law_same_rows.ensures c.law_new.ensures.row;
  closes = closes_are_events c.law_same_rows.ensures;
  polls = polls_are_events c.law_same_rows.ensures;
  refused = refused_polls_are_events c.law_same_rows.ensures;
  restarts = restarts_are_one;
  same = restarts_are_same c.law_same_query.ensures.key c.law_same_query.ensures.kinds c.law_same_query.ensures.reads;
  taken = restarts_are_taken c.law_same_query.ensures.key c.law_same_query.ensures.kinds c.law_same_query.ensures.reads;
}
