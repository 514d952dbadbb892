use Rattle.std.proofs.Common.{◌≡◌, ◌+◌, Some, None, refl, sym, ap, ◌∙◌, subst, arith}
use Rattle.rp_known.specs.declared.place.Place.{Place}
use Rattle.rp_known.specs.Items.{item_at}
use Rattle.rp_known.specs.Known.{known_in}
use Rattle.rp_known.specs.Walk.{here}
use Rattle.rp_walker.specs.declared.record.MatcherState.{MatcherState}
use Rattle.rp_walker.specs.declared.stage.Stage.TheVariants.{Giving as GivingStage}
use Rattle.rp_walker.specs.Given.{result_of}
use Rattle.rp_walker.specs.Records.{place_of}
use Rattle.rp_walker.specs.Steps.{ended_by}
use Rattle.rp_walker.specs.Stages.{IsGoing}
use Rattle.rp_walker.proofs.Steps.{past_shown, gives_shown, gave, not_yet, left_going, stays_put, stands_going, IsLastIn, never_last}
use Rattle.rp_walker.proofs.Working.{gives_on, same_spends}
use Rattle.rp_walker.proofs.walker.Walker.give_item.Goals as goal

pub returns-in-None-clause-keeps : goal.returns-in-None-clause-keeps
returns-in-None-clause-keeps g c =
    let w = c.args.self.now in
    let h = c.requires.going in
    let a = c.args.ahead in
    let q = c.args.query.now in
    let p = known_in g.R.Rows.known g.R.Rows.ending c.args.rows.now in
    let result = result_of c.args.found in
    let none : item_at q p (place_of w.state) result a.next ≡ None = ap (λ (x : Place). item_at q p x result a.next) (sym c.place_of-place.ensures) ∙ sym c.in_ok-make_item.ensures ∙ c.in-None.is in
    record {
      given = refl;
      over = tt;
      first = refl;
      in_rows = λ h. h;
      stands = stands_going q p (record w { stage = GivingStage c.args.found a }) h (c.requires.gives, omega (arith, c.requires.due), c.requires.totals, c.requires.serves);
      lowers = omega arith;
      follows = λ within. record { moves = stays_put q p w.state h.going within; is = (refl, not_yet q p w.state result a c.requires.gives c.requires.more c.requires.shown c.requires.due within none) };
    }

pub returns-in-Some-clause-keeps : goal.returns-in-Some-clause-keeps
returns-in-Some-clause-keeps g c =
    let w = c.args.self.now in
    let h = c.requires.going in
    let a = c.args.ahead in
    let q = c.args.query.now in
    let p = known_in g.R.Rows.known g.R.Rows.ending c.args.rows.now in
    let result = result_of c.args.found in
    let r : MatcherState = record w.state { here = a.seen + 1; given = w.state.given + 1 } in
    let going : IsGoing q r = record { going = h.going; from_one = h.from_one; fewer = h.fewer; kept = h.kept; enough = omega (arith, h.enough, c.requires.due) } in
    let some : item_at q p (place_of w.state) result a.next ≡ Some c.in-Some.item = ap (λ (x : Place). item_at q p x result a.next) (sym c.place_of-place.ensures) ∙ sym c.in_ok-make_item.ensures ∙ c.in-Some.is in
    record {
      given = refl;
      over = λ l. absurd (never_last q p (place_of w.state) result a.next (subst IsLastIn (sym some) l));
      first = refl;
      in_rows = λ h. h;
      stands = stands_going q p (record w { state = r; stage = GivingStage c.args.found (past_shown a) }) going (gives_shown q p (place_of w.state) result a c.requires.gives c.requires.more c.requires.shown, omega arith, c.requires.totals, c.requires.serves);
      lowers = omega (arith, c.requires.more, left_going q p w.state (GivingStage c.args.found a) h.going c.requires.gives.known, left_going q p r (GivingStage c.args.found (past_shown a)) h.going c.requires.gives.known);
      follows = λ within.
          let is_here = gave q p w.state result a c.requires.gives c.requires.more c.requires.shown c.requires.due within c.in-Some.item some in
          record {
            moves = record { before = 0; comes = here; counted = omega (arith, c.requires.due); within = omega (arith, is_here.more, c.requires.due); ended = subst (λ b. ended_by b q p r) (sym h.going) tt };
            is = (refl, is_here.at);
          };
    }

pub returns-in-None-clause-works : goal.returns-in-None-clause-works
returns-in-None-clause-works g c =
    same_spends c.args.query.now (known_in g.R.Rows.known g.R.Rows.ending c.args.rows.now) c.args.self.now.state (GivingStage c.args.found c.args.ahead)

pub returns-in-Some-clause-works : goal.returns-in-Some-clause-works
returns-in-Some-clause-works g c =
    let r = c.args.self.now.state in
    let a = c.args.ahead in
    let going = c.requires.going.going in
    gives_on c.args.query.now (known_in g.R.Rows.known g.R.Rows.ending c.args.rows.now) r (record r { here = a.seen + 1; given = r.given + 1 }) c.args.found a (past_shown a)
    going going refl refl refl refl c.requires.more
