use Rattle.std.proofs.Common.{sym, ap, ◌∙◌, refl}
use Rattle.std.specs.Cmp.Lexicographic.{pointwise}
use Rattle.rp_value.specs.contracts.value.ValuePartialEq.TheImpl.{eq-value}
use Rattle.rp_feed.specs.Answers.{memory_aside}
use Rattle.rp_partition.proofs.Taking.{row_later, joined_later, search_later}
use Rattle.rp_partition.proofs.partition.Partition.take.Goals as goal

pub returns : goal.returns
returns c =
    let p = c.args.self.now in
    let later = row_later c.law_feeds.ensures p.feed c.take-taken.new.self c.args.number c.args.row c.take-taken.result c.requires.joined.feed.ordered
    (λ e. c.law_new.ensures.row (pointwise eq-value.it) p.feed c.args.number c.args.row (sym c.take-taken.ensures.answer ∙ ap memory_aside e)) c.take-taken.ensures.changes in
    record {
      taken = record {
        joined = joined_later c.law_walkers.ensures.stay c.law_walkers.ensures.can c.args.query.now c.plan-plan.ensures.sound p c.take-taken.new.self c.requires.joined c.front-front.ensures.feed
            later;
        answer = c.take-taken.ensures.answer;
        feed = c.take-taken.ensures.changes;
        walker = refl;
        search = search_later c.law_work.ensures.rises c.args.query.now p c.take-taken.new.self c.requires.joined.feed.ordered c.front-front.ensures.feed.ordered later;
      };
    }
