use Rattle.rp_feed.proofs.Again.{feeds_are_taken_again, again_is_the_same}
use Rattle.rp_feed.proofs.laws.law_again.Goals as goal

pub returns : goal.returns
returns c = record { again = feeds_are_taken_again; same = again_is_the_same }
