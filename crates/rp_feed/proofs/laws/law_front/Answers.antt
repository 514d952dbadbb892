use Rattle.rp_feed.proofs.Ordered.{front_is_one, front_grows, front_stays}
use Rattle.rp_feed.proofs.laws.law_front.Goals as goal

pub returns : goal.returns
returns c = record { one = front_is_one; grows = front_grows; stays = front_stays }
