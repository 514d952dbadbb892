use Rattle.std.proofs.Common.{sym, ap, ◌∙◌, refl}
use Rattle.rp_feed.specs.Answers.{memory_aside}
use Rattle.rp_partition.proofs.Taking.{close_later, joined_later, search_later, close_no_memory}
use Rattle.rp_partition.proofs.partition.Partition.close.Goals as goal

pub returns : goal.returns
returns c =
    let p = c.args.self.now in
    let later = close_later c.law_feeds.ensures p.feed c.close-taken.new.self c.args.count c.close-taken.result c.requires.joined.feed.ordered
    (λ e. c.law_new.ensures.close p.feed c.args.count (sym c.close-taken.ensures.answer ∙ e)) c.close-taken.ensures.changes in
    record {
      taken = record {
        joined = joined_later c.law_walkers.ensures.stay c.law_walkers.ensures.can c.args.query.now c.plan-plan.ensures.sound p c.close-taken.new.self c.requires.joined c.front-front.ensures.feed
            later;
        answer = ap memory_aside c.close-taken.ensures.answer ∙ close_no_memory p.feed c.args.count;
        feed = c.close-taken.ensures.changes;
        walker = refl;
        search = search_later c.law_work.ensures.rises c.args.query.now p c.close-taken.new.self c.requires.joined.feed.ordered c.front-front.ensures.feed.ordered later;
      };
    }
