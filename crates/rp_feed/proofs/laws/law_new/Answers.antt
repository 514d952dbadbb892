use Rattle.rp_feed.proofs.Answering.{new_is_due, new_close_is_due}
use Rattle.rp_feed.proofs.laws.law_new.Goals as goal

pub returns : goal.returns
returns c = record { row = new_is_due; close = new_close_is_due }
