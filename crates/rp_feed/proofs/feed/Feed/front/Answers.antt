use Rattle.std.proofs.Common.{refl}
use Rattle.rp_feed.proofs.Answering.{is_front}
use Rattle.rp_feed.proofs.feed.Feed.front.Goals as goal

pub returns-clause-run : goal.returns-clause-run
returns-clause-run c = rw (← c.self.view_is) (is_front c.self.inside.first c.self.inside.ready c.self.inside.rows.items c.self.inside.closed c.self.invariant _ refl)
