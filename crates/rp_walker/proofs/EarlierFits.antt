-- A record that fitted under the older rule of AND and OR fits.
use Rattle.std.proofs.Common.{◌≡◌, ◌≤◌, [], ◌∷◌, ◌++◌, length, length-append, append_assoc, Bool, true, false, sym, ap, ◌∙◌, subst, arith}
use Rattle.rp_query.specs.declared.query.QueryData.{QueryData}
use Rattle.rp_known.specs.Known.{Known}
use Rattle.rp_known.specs.Walk.{Leg, Goes, Pauses, Ends, leg, leg_items, first_place}
use Rattle.rp_known.specs.WalkLaws.{Stays, LegsLeadOn}
use Rattle.rp_known.specs.Earlier.{early_leg, EarlierWalkStays, EarlierLegStays}
use Rattle.rp_walker.specs.declared.record.MatcherState.{MatcherState}
use Rattle.rp_walker.specs.Records.{place_of, IsOnWalk, IsOver, Fits, fits_by}
use Rattle.rp_walker.specs.Steps.{IsEnd}
use Rattle.rp_walker.specs.EarlierFits.{WasOnWalk, WasOver, fitted_by}
use Rattle.rp_walker.proofs.Moving.{comes_after}
use Rattle.rp_walker.proofs.Fitting.{end_walk}

-- a leg that stays has no fewer items
no_fewer : (s t : Leg) → Stays s t → length (leg_items s) ≤ length (leg_items t)
no_fewer (Goes xs next) t h = omega (arith, ap (λ u. length (leg_items u)) h)
no_fewer (Pauses xs) t h = omega (arith, length-append xs h.rest, ap length h.is)
no_fewer (Ends xs) t h = omega (arith, ap (λ u. length (leg_items u)) h)

module _ (walk_stays : EarlierWalkStays) (leg_stays : EarlierLegStays) (leads : LegsLeadOn) (q : QueryData) (r : MatcherState) (p : Known) where
  on_walk : WasOnWalk q r p → IsOnWalk q r p
  on_walk h =
      record {
        before = h.before;
        comes = walk_stays q p h.before first_place (place_of r) h.came;
        counted = h.counted;
        within = omega (arith, h.within, no_fewer (early_leg q p (place_of r)) (leg q p (place_of r)) (leg_stays q p (place_of r)));
        kept = h.kept;
      }

  is_over : WasOver q r p → IsOver q r p
  is_over h =
      let now : leg q p h.place ≡ Ends h.last = subst (λ t. Stays t (leg q p h.place)) h.ended (leg_stays q p h.place) in
      let w = end_walk q p h.place (subst IsEnd (sym now) tt) in
      let b = comes_after leads q p (walk_stays q p h.before first_place h.place h.came) in
      record {
        front = b.front ++ w.1.front;
        last = w.1.last;
        is = b.is ∙ ap (λ z. b.front ++ z) (w.0 ∙ w.1.is) ∙ sym (append_assoc b.front w.1.front (w.1.last ∷ []));
        ends = w.1.ends;
        counted = omega (
          arith,
          h.counted,
          b.many,
          ap length (b.is ∙ ap (λ z. b.front ++ z) w.0),
          length-append b.front (leg_items (leg q p h.place)),
          ap (λ t. length (leg_items t)) now,
        );
      }

  by_over : (over : Bool) → fitted_by over q r p → fits_by over q r p
  by_over true h = is_over h
  by_over false h = on_walk h

  pub fits_still : fitted_by r.over q r p → Fits q r p
  fits_still h = by_over r.over h
