use Rattle.std.proofs.Common.{◌≡◌, ◌≤◌, ◌+◌, min, sym, ap, ◌∙◌, subst, arith}
use Rattle.rp_query.specs.declared.query.QueryData.{QueryData}
use Rattle.rp_feed.specs.Fed.{Fed, front_of}
use Rattle.rp_known.specs.Known.{Known}
use Rattle.rp_known.specs.Plans.{first_read}
use Rattle.rp_walker.specs.declared.record.MatcherState.{MatcherState}
use Rattle.rp_walker.specs.declared.walker.Walker.{Walker}
use Rattle.rp_walker.specs.LeftLaw.{HoldsNoMore as NoMoreIsKept, StaysOver}
use Rattle.rp_walker.specs.Walking.{record_of}
use Rattle.rp_walker.specs.Records.{horizon_of}
use Rattle.rp_partition.specs.PartRows.{known_by}
use Rattle.rp_partition.proofs.Rows.{known_alike}
use Rattle.rp_partition.proofs.Dropping.{Forgets, forgets, drops, drops_after, fits_after, in_rows_after}
use Rattle.rp_partition.proofs.partition.Partition.drop_rows.Goals as goal

module _ (c : goal.After-keep_from) where
  abbrev q : QueryData
  q = c.args.query.now

  abbrev fed : Fed
  fed = c.args.self.now.feed

  abbrev new : Fed
  new = c.forget.new.self

  abbrev walker : Walker
  walker = c.args.self.now.walker

  bound : c.min.result ≡ min c.horizon-horizon.result (front_of fed + 1)
  bound = c.min.ensures ∙ ap (λ n. min c.horizon-horizon.result (n + 1)) c.front-next.ensures.front

  within : c.min.result ≤ front_of fed + 1
  within = omega (arith, bound)

  forgot : Forgets c.min.result fed new
  forgot = forgets c.min.result fed new c.forget.ensures.none c.forget.ensures.dropped

  horizon : c.horizon-horizon.result ≡ horizon_of q (known_by fed) (record_of walker)
  horizon =
      c.horizon-horizon.ensures
      ∙ ap (λ (k : Known). horizon_of q k (record_of walker)) (known_alike c.new-rows.result.feed.now fed c.new-rows.result.end c.new-rows.ensures.feed c.new-rows.ensures.end)

  over : StaysOver q walker new.first (known_by fed) (known_by new)
  over = c.law_drops.ensures q (known_by fed) (known_by new) walker new.first c.plan-plan.ensures.sound
      (drops c.law_feeds.ensures fed new c.min.result c.requires.joined.feed.ordered within q (record_of walker) c.requires.joined.first c.horizon-horizon.result horizon bound forgot)
      c.requires.joined.stands

  state : record_of c.keep_from.new.self ≡ record (record_of walker) { first = new.first }
  state = c.keep_from.ensures.«record» ∙ ap (λ n. record (record_of walker) { first = n }) c.first.ensures

pub returns-clause-held : goal.returns-clause-held
returns-clause-held c =
    subst (λ (r : MatcherState). NoMoreIsKept (q c) (known_by (new c)) (record r { first = (new c).first })) (sym (state c)) (over c).held

pub returns-clause-joined : goal.returns-clause-joined
returns-clause-joined c = record {
  feed = c.front-front.ensures.feed;
  stands = c.keep_from.ensures.stands (q c) (known_by (new c)) (λ going. subst (λ n. n ≤ first_read (q c) (record_of (walker c)).at) (sym c.first.ensures) ((over c).reads going)) (over c).stands;
  first = ap (λ (r : MatcherState). r.first) (state c);
  in_rows = in_rows_after (known_by (fed c)) (known_by (new c)) (record_of (walker c)) (record_of c.keep_from.new.self) (new c).first (over c).as_many (state c) c.requires.joined.in_rows;
}

pub returns-clause-drops : goal.returns-clause-drops
returns-clause-drops c = drops_after c.law_feeds.ensures (fed c) (new c) c.min.result c.requires.joined.feed.ordered (within c) (forgot c)

pub returns-clause-left : goal.returns-clause-left
returns-clause-left c = c.keep_from.ensures.left (q c) (known_by (new c)) ∙ (over c).left

pub returns-clause-search : goal.returns-clause-search
returns-clause-search c = λ going.
    c.keep_from.ensures.seen going (q c) (known_by (new c)) ∙ c.law_work.ensures.same (q c) (known_by (fed c)) (known_by (new c)) (walker c) (over c).as_many

pub returns-clause-let_go : goal.returns-clause-let_go
returns-clause-let_go c = λ over. c.keep_from.ensures.let_go over (q c) (known_by (new c))

pub returns-clause-fits : goal.returns-clause-fits
returns-clause-fits c = λ whole fits.
    fits_after c.law_feeds.ensures (fed c) (new c) c.min.result c.requires.joined.feed.ordered (within c) (q c) whole (record_of (walker c)) (record_of c.keep_from.new.self)
    (c.law_schedules.ensures.fits (q c) whole c.plan-plan.ensures.sound) (forgot c) (state c) (over c).reads fits
