-- What steps over the rows that are kept mean for the partition that they are of.
use Rattle.std.proofs.Common.{◌≡◌, ℕ, suc, ◌+◌, ◌-◌, ◌<◌, ◌≤◌, List, [], ◌∷◌, ◌++◌, length, length-append, append_assoc, Bool, true, false, cond, Option, Some, None, refl, sym, ap, ◌∙◌, subst, arith}
use Rattle.std.specs.Prelude.{slice_get, nat_le, ⊤, Result, Ok, Err}
use Rattle.rp_words.specs.declared.word.Label.{Label}
use Rattle.rp_words.specs.declared.word.End.{End}
use Rattle.rp_words.specs.declared.word.End.TheVariants.{Open as OpenEnd, Closed as ClosedEnd}
use Rattle.rp_search.specs.Found.{Found, Match, NoMatch, Waits}
use Rattle.rp_query.specs.declared.query.QueryData.{QueryData}
use Rattle.rp_query.specs.Sound.{IsSound}
use Rattle.rp_query.specs.declared.item.Item.{Item}
use Rattle.rp_query.specs.declared.item.SkipFault.{SkipFault}
use Rattle.rp_known.specs.declared.place.Place.{Place}
use Rattle.rp_known.specs.Known.{Known, count}
use Rattle.rp_known.specs.Plans.{first_read}
use Rattle.rp_known.specs.Skips.{next_start}
use Rattle.rp_known.specs.Items.{items_of}
use Rattle.rp_known.specs.Walk.{Leg, Goes, Pauses, Ends, after_item, after_items, after_match, after_found, found_at, at_last, searched, leg, leg_items, and_then, walk, walk_from, known, first_place, ComesTo, here, on}
use Rattle.rp_known.specs.WalkLaws.{LegStays, LeadsOn, LegsLeadOn}
use Rattle.rp_walker.specs.declared.record.MatcherState.{MatcherState}
use Rattle.rp_walker.specs.Records.{place_of, IsWithin, IsOnWalk, IsOver, IsLast, fits_by}
use Rattle.rp_walker.specs.Steps.{IsStop, IsEnd, HasEnded, ended_by, Moves}
use Rattle.rp_walker.specs.FitLaws.{AgreesFrom, Meant}
use Rattle.rp_walker.proofs.Moving.{comes_further, comes_after, get_behind}
use Rattle.rp_walker.proofs.Agreeing.{leg_agrees, comes_agrees, walk_agrees, still_read}

-- ---- the last item of a leg that ends

pub record LastOf (xs : List Item) : Type 0 where
  pub front : List Item
  pub last : Item
  pub is : xs ≡ front ++ last ∷ []
  pub ends : IsLast last

abbrev EndsWell : Leg → Type 0
EndsWell (Goes xs next) = ⊤
EndsWell (Pauses xs) = ⊤
EndsWell (Ends xs) = LastOf xs

item_well : (x : Item) (t : Leg) → EndsWell t → EndsWell (after_item x t)
item_well x (Goes xs next) h = tt
item_well x (Pauses xs) h = tt
item_well x (Ends xs) h = record { front = x ∷ h.front; last = h.last; is = ap (λ z. x ∷ z) h.is; ends = h.ends }

items_well : (xs : List (Option Item)) (t : Leg) → EndsWell t → EndsWell (after_items xs t)
items_well [] t h = h
items_well (Some x ∷ xs) t h = item_well x (after_items xs t) (items_well xs t h)
items_well (None ∷ xs) t h = tt

match_well : (place : Place) (labels : List Label) (r : Result ℕ SkipFault) → EndsWell (after_match place labels r)
match_well place labels (Ok row) = tt
match_well place labels (Err fault) = record { front = []; last = _; is = refl; ends = tt }

found_well : (q : QueryData) (place : Place) (f : Found) → EndsWell (after_found q place f)
found_well q place Waits = tt
found_well q place NoMatch = tt
found_well q place (Match ls) = match_well place ls (next_start q.plan.skip place.start ls)

last_well : (e : End) → EndsWell (at_last e)
last_well OpenEnd = tt
last_well ClosedEnd = record { front = []; last = _; is = refl; ends = tt }

leg_well : (q : QueryData) (p : Known) (place : Place) → EndsWell (leg q p place)
leg_well q p place = go (nat_le place.start (count p))
  where
    go : (b : Bool) → EndsWell (cond b (searched q p place (found_at q p place.start)) (at_last p.end))
    go true = items_well (items_of q p place (found_at q p place.start)) (after_found q place (found_at q p place.start)) (found_well q place (found_at q p place.start))
    go false = last_well p.end

-- ---- where the walk stops

abbrev next_in : Place → Leg → Place
next_in other (Goes xs next) = next
next_in other (Pauses xs) = other
next_in other (Ends xs) = other

stop_walk : (q : QueryData) (p : Known) (place : Place) → IsStop (leg q p place) → walk_from q p place ≡ leg_items (leg q p place)
stop_walk q p place = go (leg q p place)
  where
    go : (t : Leg) → IsStop t → and_then t (walk (suc (count p) - place.start) q p) ≡ leg_items t
    go (Goes xs next) s = absurd s
    go (Pauses xs) s = refl
    go (Ends xs) s = refl

pub end_walk : (q : QueryData) (p : Known) (place : Place) → IsEnd (leg q p place) → (walk_from q p place ≡ leg_items (leg q p place)) × LastOf (leg_items (leg q p place))
end_walk q p place = go (leg q p place) (leg_well q p place)
  where
    go : (t : Leg) → EndsWell t → IsEnd t → (and_then t (walk (suc (count p) - place.start) q p) ≡ leg_items t) × LastOf (leg_items t)
    go (Goes xs next) w e = absurd e
    go (Pauses xs) w e = absurd e
    go (Ends xs) w e = (refl, w)

module _ (leads : LegsLeadOn) where
  pub comes_up : {q : QueryData} {p : Known} {d : ℕ} {x y : Place} → ComesTo q p x d y → x.start ≤ y.start
  comes_up here = omega arith
  comes_up {q = q} {p = p} (on {place = place} {next = next} {xs = xs} is r) =
      let l : LeadsOn place (Goes xs next) = subst (LeadsOn place) is (leads q p place) in
      let later : place.start < next.start = l.0 in
      omega (arith, later, comes_up r)

  -- no place that a walk comes to lies behind the one where it stops
  pub comes_no_further : {q : QueryData} {p : Known} {d d' : ℕ} {x y z : Place} → ComesTo q p x d y → IsStop (leg q p y) → ComesTo q p x d' z → z.start ≤ y.start
  comes_no_further r stop here = comes_up r
  comes_no_further here stop (on is r) = absurd (subst IsStop is stop)
  comes_no_further {q = q} {p = p} {z = z} (on {next = next} {xs = xs} is r) stop (on {next = next'} {xs = ys} {d = d'} is' r') =
      let same : next' ≡ next = ap (next_in next) (sym is' ∙ is) in
      comes_no_further r stop (subst (λ n. ComesTo q p n d' z) same r')

module _ (law : LegStays) (leads : LegsLeadOn) (q : QueryData) (reaches : IsSound q) (old new : MatcherState) (k p : Known) (from_one : 1 ≤ old.at) (a : AgreesFrom old.first p k) (fits : IsOnWalk q old p) where
  pub within_kept : IsWithin q k old
  within_kept = subst (λ t. old.here ≤ length (leg_items t)) (sym (leg_agrees law leads q reaches p k old.first a (place_of old) fits.kept from_one)) fits.within

  module _ (same_first : new.first ≡ old.first) (m : Moves q k old new) where
    up : old.at ≤ new.at
    up = comes_up leads m.comes

    still_kept : old.first ≤ first_read q new.at
    still_kept = still_read q old.first old.at new.at up fits.kept

    comes : ComesTo q p first_place (fits.before + m.before) (place_of new)
    comes = comes_further leads q p fits.comes (comes_agrees law leads q reaches p k old.first a fits.kept from_one m.comes)

    counted : new.given ≡ fits.before + m.before + new.here
    counted = omega (arith, fits.counted, m.counted)

    same_leg : leg q k (place_of new) ≡ leg q p (place_of new)
    same_leg = leg_agrees law leads q reaches p k old.first a (place_of new) still_kept (omega (arith, up, from_one))

    on_walk : IsOnWalk q new p
    on_walk =
        record {
          before = fits.before + m.before;
          comes = comes;
          counted = counted;
          within = subst (λ t. new.here ≤ length (leg_items t)) same_leg m.within;
          kept = subst (λ i. i ≤ first_read q new.at) (sym same_first) still_kept;
        }

    -- all that is known, where no more than the items of the last leg is
    all_of : walk_from q p (place_of new) ≡ leg_items (leg q p (place_of new)) → new.here ≡ length (leg_items (leg q p (place_of new))) → length (known q p) ≡ new.given
    all_of w h =
        let b = comes_after leads q p comes in
        ap length (b.is ∙ ap (λ z. b.front ++ z) w) ∙ length-append b.front (leg_items (leg q p (place_of new))) ∙ omega (arith, b.many, h, counted)

    over : HasEnded q k new → IsOver q new p
    over h =
        let ends : IsEnd (leg q p (place_of new)) = subst IsEnd same_leg h.ends in
        let w = end_walk q p (place_of new) ends in
        let b = comes_after leads q p comes in
        record {
          front = b.front ++ w.1.front;
          last = w.1.last;
          is = b.is ∙ ap (λ z. b.front ++ z) (w.0 ∙ w.1.is) ∙ sym (append_assoc b.front w.1.front (w.1.last ∷ []));
          ends = w.1.ends;
          counted = sym (all_of w.0 (h.all ∙ ap (λ t. length (leg_items t)) same_leg));
        }

    ended_there : (b : Bool) → ended_by b q k new → ended_by b q p new
    ended_there true h =
        record { ends = subst IsEnd same_leg h.ends; all = h.all ∙ ap (λ t. length (leg_items t)) same_leg }
    ended_there false h = tt

    moves_there : Moves q p old new
    moves_there =
        record {
          before = m.before;
          comes = comes_agrees law leads q reaches p k old.first a fits.kept from_one m.comes;
          counted = m.counted;
          within = on_walk.within;
          ended = ended_there new.over m.ended;
        }

    fits_new : (b : Bool) → ended_by b q k new → fits_by b q new p
    fits_new true h = over h
    fits_new false h = on_walk

    pub meant : Meant q old new k p
    meant =
        record {
          fits = fits_new new.over m.ended;
          moves = moves_there;
          next = λ x h.
              let b = comes_after leads q p fits.comes in
              let place : old.given ≡ length b.front + old.here = omega (arith, fits.counted, b.many) in
              ap (slice_get (known q p)) place ∙ ap (λ z. slice_get z (length b.front + old.here)) b.is ∙ get_behind leads q p b.front (walk_from q p (place_of old)) old.here
              ∙ ap (λ z. slice_get z old.here) (sym (walk_agrees law leads q reaches p k old.first a (place_of old) fits.kept from_one)) ∙ h;
          last = λ d before place came. comes_no_further leads comes (subst IsStop same_leg d.stops) came;
          ended = λ d ends. d.over (subst IsEnd (sym same_leg) ends);
          done = λ d. all_of (stop_walk q p (place_of new) (subst IsStop same_leg d.stops)) (d.all ∙ ap (λ t. length (leg_items t)) same_leg);
        }
