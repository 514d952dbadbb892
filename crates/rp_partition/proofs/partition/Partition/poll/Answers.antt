use Rattle.std.proofs.Common.{ℕ, ◌-◌, ap, arith, subst}
use Rattle.rp_known.specs.Known.{Known}
use Rattle.rp_walker.specs.declared.record.MatcherState.{MatcherState}
use Rattle.rp_walker.specs.Bound.{PollWorks, search_seen}
use Rattle.rp_walker.specs.Polls.{Answers, GoesAlong, StopsAtLast}
use Rattle.rp_walker.specs.Walking.{record_of}
use Rattle.rp_partition.specs.Joined.{held_of, work_of}
use Rattle.rp_partition.specs.PartRows.{known_by}
use Rattle.rp_partition.proofs.Bounds.{dropped_works, none_works}
use Rattle.rp_partition.proofs.Rows.{known_alike}
use Rattle.rp_partition.proofs.Dropping.{still_polled, polled_err, polled_ok}
use Rattle.rp_partition.proofs.partition.Partition.poll.Goals as goal

pub returns-then-budget-eq0-clause-polled : goal.returns-then-budget-eq0-clause-polled
returns-then-budget-eq0-clause-polled g c = still_polled c.args.query.now (held_of c.args.self.now) c.requires.joined.feed.ordered

pub returns-in_err-answer-clause-polled : goal.returns-in_err-answer-clause-polled
returns-in_err-answer-clause-polled g c =
    let q = c.args.query.now in
    let fed = c.args.self.now.feed in
    let known = known_alike c.new-rows.result.feed.now fed c.new-rows.result.end c.new-rows.ensures.feed c.new-rows.ensures.end in
    polled_err c.law_feeds.ensures q fed (record_of c.args.self.now.walker) (record_of c.poll.new.self) (λ whole. c.law_schedules.ensures.fits q whole c.plan-plan.ensures.sound) c.poll.ensures.stays.first
    c.from_residual.result c.from_residual.ensures.0 c.requires.joined.feed.ordered
    (subst (λ (k : Known). GoesAlong q k (record_of c.args.self.now.walker) (record_of c.poll.new.self)) known c.poll.ensures.moves)
    c.in_err-answer.ensures.out_of_memory.given

pub returns-clause-polled : goal.returns-clause-polled
returns-clause-polled g c =
    let q = c.args.query.now in
    let fed = c.args.self.now.feed in
    let known = known_alike c.new-rows.result.feed.now fed c.new-rows.result.end c.new-rows.ensures.feed c.new-rows.ensures.end in
    polled_ok c.law_feeds.ensures q fed (record_of c.args.self.now.walker) (record_of c.poll.new.self) (λ whole. c.law_schedules.ensures.fits q whole c.plan-plan.ensures.sound) c.poll.ensures.stays.first
    c.in_ok-answer.answer (held_of c.drop_rows.new.self)
    (subst (λ (k : Known). GoesAlong q k (record_of c.args.self.now.walker) (record_of c.poll.new.self)) known c.poll.ensures.moves)
    (subst (λ (k : Known). Answers q k (record_of c.args.self.now.walker) (record_of c.poll.new.self) c.in_ok-answer.answer) known c.in_ok-answer.ensures.answers)
    c.in_ok-answer.ensures.given
    (subst (λ (k : Known). StopsAtLast q k (record_of c.args.self.now.walker) (record_of c.poll.new.self) c.in_ok-answer.answer) known c.in_ok-answer.ensures.stops)
    c.drop_rows.ensures.state c.drop_rows.ensures.drops c.drop_rows.ensures.fits

pub returns-clause-works : goal.returns-clause-works
returns-clause-works g c =
    let q = c.args.query.now in
    let fed = c.args.self.now.feed in
    let w = c.args.self.now.walker in
    let mid = c.poll.new.self in
    let later = c.drop_rows.new.self in
    let answer = c.in_ok-answer.answer in
    let taken : ℕ = c.poll.new.steps - c.args.steps.now in
    let known = known_alike c.new-rows.result.feed.now fed c.new-rows.result.end c.new-rows.ensures.feed c.new-rows.ensures.end in
    let works = subst (λ (k : Known). PollWorks taken q k w mid answer) known c.in_ok-answer.ensures.works in
    dropped_works taken q (known_by fed) (search_seen q (known_by fed) w) (search_seen q (known_by fed) mid) (work_of q later).search (record_of w) (record_of mid) (record_of later.walker) answer
    (ap (λ (r : MatcherState). r.matches) c.drop_rows.ensures.state) c.drop_rows.ensures.search c.drop_rows.ensures.let_go
    (c.law_work.ensures.seen taken q (known_by fed) w mid answer works)

pub returns-then-budget-eq0-clause-works : goal.returns-then-budget-eq0-clause-works
returns-then-budget-eq0-clause-works g c =
    let q = c.args.query.now in
    let fed = c.args.self.now.feed in
    none_works (c.args.steps.now - c.args.steps.now) q (known_by fed) (search_seen q (known_by fed) c.args.self.now.walker) (record_of c.args.self.now.walker) (omega arith)
