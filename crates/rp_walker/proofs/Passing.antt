-- Rows that give no item.
use Rattle.std.proofs.Common.{◌≡◌, ◌+◌, ◌<◌, ◌≤◌, true, false, refl, sym, subst, arith}
use Rattle.rp_query.specs.declared.query.QueryData.{QueryData}
use Rattle.rp_known.specs.Known.{Known}
use Rattle.rp_walker.specs.declared.ahead.Ahead.{Ahead}
use Rattle.rp_walker.specs.declared.stage.Ended.{Ended}
use Rattle.rp_walker.specs.declared.stage.Stage.TheVariants.{Giving}
use Rattle.rp_walker.specs.declared.stage.Step.{Step}
use Rattle.rp_walker.specs.declared.stage.Step.TheVariants.{Went}
use Rattle.rp_walker.specs.declared.walker.Walker.{Walker}
use Rattle.rp_walker.specs.Given.{is_hidden, result_of, run_of}
use Rattle.rp_walker.specs.Records.{place_of}
use Rattle.rp_walker.specs.Stages.{IsGoing, Gives, MatchTotalled, Serves}
use Rattle.rp_walker.specs.Walking.{KeepsGoing}
use Rattle.rp_walker.proofs.Steps.{past_hidden, past_shown, gives_hidden, gives_shown, left_going, stays_put, stands_going}

module _ (q : QueryData) (p : Known) (w : Walker) (found : Ended) (a : Ahead) (g : IsGoing q w.state) (gives : Gives q p (place_of w.state) (result_of found) a) (totals : MatchTotalled q p w.state.at found) (serves : Serves q p w.state.at (run_of found)) where
  went_to : (b : Ahead) → b.next ≡ a.next + 1 → b.end ≡ a.end → a.next < a.end → Gives q p (place_of w.state) (result_of found) b → b.seen ≤ w.state.here → KeepsGoing 1 q p w.state (Giving found a) (record w { stage = Giving found b }) Went
  went_to b next end more after enough =
      record {
        given = refl;
        over = tt;
        first = refl;
        in_rows = λ h. h;
        stands = stands_going q p (record w { stage = Giving found b }) g (after, enough, totals, serves);
        lowers = omega (arith, more, next, end, left_going q p w.state (Giving found a) g.going gives.known, left_going q p w.state (Giving found b) g.going gives.known);
        follows = λ within. record { moves = stays_put q p w.state g.going within; is = refl };
      }

  so_went : (b : Ahead) (new : Walker) (step : Step) → step ≡ Went → new ≡ record w { stage = Giving found b } → KeepsGoing 1 q p w.state (Giving found a) (record w { stage = Giving found b }) Went → KeepsGoing 1 q p w.state (Giving found a) new step
  so_went b new step went now k = subst (λ s. KeepsGoing 1 q p w.state (Giving found a) new s) (sym went) (subst (λ n. KeepsGoing 1 q p w.state (Giving found a) n Went) (sym now) k)

  pub passes_hidden : a.seen ≤ w.state.here → a.next < a.end → is_hidden q.plan.rows w.state.at (result_of found) a.next ≡ true → (new : Walker) (step : Step) → step ≡ Went →
      new ≡ record w { stage = Giving found (past_hidden a) } → KeepsGoing 1 q p w.state (Giving found a) new step
  passes_hidden not_past more hidden new step went now =
      so_went (past_hidden a) new step went now (went_to (past_hidden a) refl refl more (gives_hidden q p (place_of w.state) (result_of found) a gives more hidden) not_past)

  pub passes_given : a.seen < w.state.here → a.next < a.end → is_hidden q.plan.rows w.state.at (result_of found) a.next ≡ false → (new : Walker) (step : Step) → step ≡ Went →
      new ≡ record w { stage = Giving found (past_shown a) } → KeepsGoing 1 q p w.state (Giving found a) new step
  passes_given before more shown new step went now =
      so_went (past_shown a) new step went now (went_to (past_shown a) refl refl more (gives_shown q p (place_of w.state) (result_of found) a gives more shown) (omega (arith, before)))
