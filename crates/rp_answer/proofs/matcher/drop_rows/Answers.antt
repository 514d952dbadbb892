use Rattle.std.proofs.Common.{◌≡◌, ◌≤◌, sym, ap, ◌∙◌, subst}
use Rattle.rp_query.specs.declared.query.QueryData.{QueryData}
use Rattle.rp_known.specs.Plans.{first_read}
use Rattle.rp_walker.specs.declared.record.MatcherState.{MatcherState}
use Rattle.rp_walker.specs.LeftLaw.{Drops, HoldsNoMore, StaysOver}
use Rattle.rp_walker.specs.Walking.{record_of}
use Rattle.rp_answer.specs.declared.kept.Kept.{Kept}
use Rattle.rp_answer.specs.Matching.{known_by}
use Rattle.rp_answer.proofs.Dropping.{drops, same_count}
use Rattle.rp_answer.proofs.matcher.drop_rows.Goals as goal

module _ (c : goal.After-keep_from) where
  abbrev q : QueryData
  q = c.args.query.now

  abbrev new : Kept
  new = c.forget.new.self

  dropped : Drops q (record_of c.args.walker.now) new.first (known_by c.args.rows.now) (known_by new)
  dropped =
      let e = c.forget.ensures in
      drops c.args.rows.now new e.low e.rows e.last e.end q (record_of c.args.walker.now) c.horizon-horizon.result c.requires.first c.horizon-horizon.ensures e.not_past e.all

  over : StaysOver q c.args.walker.now new.first (known_by c.args.rows.now) (known_by new)
  over = c.law_drops.ensures q (known_by c.args.rows.now) (known_by new) c.args.walker.now new.first c.plan-plan.ensures.sound dropped c.requires.stands

  state : record_of c.keep_from.new.self ≡ record (record_of c.args.walker.now) { first = new.first }
  state = c.keep_from.ensures.«record» ∙ ap (λ f. record (record_of c.args.walker.now) { first = f }) c.first.ensures

pub returns-clause-agrees : goal.returns-clause-agrees
returns-clause-agrees c = (dropped c).agree

pub returns-clause-count : goal.returns-clause-count
returns-clause-count c = let e = c.forget.ensures in same_count c.args.rows.now (new c) e.low e.rows e.last e.end

pub returns-clause-held : goal.returns-clause-held
returns-clause-held c = subst (HoldsNoMore (q c) (known_by (new c))) (sym (state c)) (over c).held

pub returns-clause-ready : goal.returns-clause-ready
returns-clause-ready c = record {
  stands = c.keep_from.ensures.stands (q c) (known_by (new c)) (λ going. subst (λ f. f ≤ first_read (q c) (record_of c.args.walker.now).at) (sym c.first.ensures) ((over c).reads going)) (over c).stands;
  first = ap (λ (r : MatcherState). r.first) (state c);
}

pub returns-clause-left : goal.returns-clause-left
returns-clause-left c = c.keep_from.ensures.left (q c) (known_by (new c)) ∙ (over c).left
