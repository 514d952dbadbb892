-- Steps one after another.
use Rattle.std.proofs.Common.{◌≡◌, ℕ, zero, suc, ◌+◌, ◌-◌, ◌<◌, ◌≤◌, List, [], ◌∷◌, ◌++◌, length, length-append, append_assoc, Bool, true, false, cond, Some, refl, sym, ap, ◌∙◌, subst, arith}
use Rattle.std.specs.Prelude.{slice_get, nat_le}
use Rattle.std.proofs.lemmas.Bool.Decides.{nat_tests}
use Rattle.rp_words.specs.declared.word.End.{End}
use Rattle.rp_words.specs.declared.word.End.TheVariants.{Open as OpenEnd, Closed as ClosedEnd}
use Rattle.rp_query.specs.declared.query.QueryData.{QueryData}
use Rattle.rp_known.specs.Known.{Known, count}
use Rattle.rp_query.specs.declared.item.Item.{Item}
use Rattle.rp_walker.specs.declared.record.MatcherState.{MatcherState}
use Rattle.rp_known.specs.declared.place.Place.{Place}
use Rattle.rp_known.specs.Walk.{Leg, Goes, Pauses, Ends, searched, found_at, at_last, leg, leg_items, and_then, walk, walk_from, ComesTo, here, on}
use Rattle.rp_walker.specs.Records.{place_of}
use Rattle.rp_walker.specs.Steps.{Moves}
use Rattle.rp_known.specs.WalkLaws.{LeadsOn, LegsLeadOn}

module _ (leads : LegsLeadOn) (q : QueryData) (p : Known) where
  pub comes_further : {a b c : Place} {d d' : ℕ} → ComesTo q p a d b → ComesTo q p b d' c → ComesTo q p a (d + d') c
  comes_further {a = a} {c = c} {d' = d'} here r = subst (λ k. ComesTo q p a k c) (let z : d' ≡ 0 + d' = omega arith in z) r
  comes_further {a = a} {c = c} {d' = d'} (on {xs = xs} {d = d} is s) r =
      subst (λ k. ComesTo q p a k c) (let z : length xs + (d + d') ≡ length xs + d + d' = omega arith in z) (on is (comes_further s r))

  pub moves_more : {a b c : MatcherState} → Moves q p a b → Moves q p b c → Moves q p a c
  moves_more x y =
      record { before = x.before + y.before; comes = comes_further x.comes y.comes; counted = omega (arith, x.counted, y.counted); within = y.within; ended = y.ended }

  -- ---- the walk from a place is the leg there, and then the walk from the next

  and_then_same : (t : Leg) (f g : Place → List Item) → ((xs : List Item) (next : Place) → t ≡ Goes xs next → f next ≡ g next) → and_then t f ≡ and_then t g
  and_then_same (Goes xs next) f g h = ap (λ z. xs ++ z) (h xs next refl)
  and_then_same (Pauses xs) f g h = refl
  and_then_same (Ends xs) f g h = refl

  last_stops : (e : End) (xs : List Item) (next : Place) → at_last e ≡ Goes xs next → ⊥
  last_stops OpenEnd xs next h = cc
  last_stops ClosedEnd xs next h = cc

  goes_within : (place next : Place) (xs : List Item) → leg q p place ≡ Goes xs next → place.start ≤ count p
  goes_within place next xs = go (nat_le place.start (count p)) refl
    where
      go : (b : Bool) → nat_le place.start (count p) ≡ b → cond b (searched q p place (found_at q p place.start)) (at_last p.end) ≡ Goes xs next → place.start ≤ count p
      go true e h = grind (arith, nat_tests)
      go false e h = absurd (last_stops p.end xs next h)

  goes_later : (place next : Place) (xs : List Item) → leg q p place ≡ Goes xs next → place.start < next.start
  goes_later place next xs e = let l : LeadsOn place (Goes xs next) = subst (LeadsOn place) e (leads q p place) in l.0

  -- enough turns give as much as more of them
  walk_enough : (k k' : ℕ) (place : Place) → count p < place.start + k → count p < place.start + k' → walk (suc k) q p place ≡ walk (suc k') q p place
  walk_enough zero k' place h h' = and_then_same (leg q p place) (walk zero q p) (walk k' q p) (λ xs next e. absurd (omega (arith, h, goes_within place next xs e)))
  walk_enough (suc k) zero place h h' = and_then_same (leg q p place) (walk (suc k) q p) (walk zero q p) (λ xs next e. absurd (omega (arith, h', goes_within place next xs e)))
  walk_enough (suc k) (suc k') place h h' =
      and_then_same (leg q p place) (walk (suc k) q p) (walk (suc k') q p)
      (λ xs next e. walk_enough k k' next (omega (arith, h, goes_later place next xs e)) (omega (arith, h', goes_later place next xs e)))

  -- the walk goes on as it does from the next place
  walk_on : (place next : Place) (xs : List Item) → leg q p place ≡ Goes xs next → walk_from q p place ≡ xs ++ walk_from q p next
  walk_on place next xs e =
      let within = goes_within place next xs e in
      let later = goes_later place next xs e in
      let turns : suc (count p) - place.start ≡ suc (count p - place.start) = omega (arith, within) in
      ap (λ t. and_then t (walk (suc (count p) - place.start) q p)) e
      ∙ ap (λ k. xs ++ walk k q p next) turns
      ∙ ap (λ z. xs ++ z) (walk_enough (count p - place.start) (suc (count p) - next.start) next (omega (arith, within, later)) (omega arith))

  -- what a walk gives until it comes to a place
  pub record Before (from to : Place) (d : ℕ) : Type 0 where
    pub front : List Item
    pub many : length front ≡ d
    pub is : walk_from q p from ≡ front ++ walk_from q p to

  pub comes_after : {a b : Place} {d : ℕ} → ComesTo q p a d b → Before a b d
  comes_after here = record { front = []; many = refl; is = refl }
  comes_after (on {place = place} {next = next} {last = last} {xs = xs} {d = d} e r) =
      let h = comes_after r in
      record {
        front = xs ++ h.front;
        many = length-append xs h.front ∙ ap (λ k. length xs + k) h.many;
        is = walk_on place next xs e ∙ ap (λ z. xs ++ z) h.is ∙ sym (append_assoc xs h.front (walk_from q p last));
      }

  pub get_behind : (front xs : List Item) (k : ℕ) → slice_get (front ++ xs) (length front + k) ≡ slice_get xs k
  get_behind [] xs k = ap (slice_get xs) (let z : 0 + k ≡ k = omega arith in z)
  get_behind (y ∷ ys) xs k = ap (slice_get (y ∷ (ys ++ xs))) (let z : suc (length ys) + k ≡ suc (length ys + k) = omega arith in z) ∙ get_behind ys xs k

  get_front : (xs ys : List Item) (k : ℕ) (x : Item) → slice_get xs k ≡ Some x → slice_get (xs ++ ys) k ≡ Some x
  get_front [] ys k x e = cc
  get_front (y ∷ xs) ys zero x e = e
  get_front (y ∷ xs) ys (suc k) x e = get_front xs ys k x e

  -- an item of the leg at a place is one of the walk from it
  pub next_in_walk : (place : Place) (k : ℕ) (x : Item) → slice_get (leg_items (leg q p place)) k ≡ Some x → slice_get (walk_from q p place) k ≡ Some x
  next_in_walk place k x = go (leg q p place)
    where
      go : (t : Leg) → slice_get (leg_items t) k ≡ Some x → slice_get (and_then t (walk (suc (count p) - place.start) q p)) k ≡ Some x
      go (Goes xs next) e = get_front xs (walk (suc (count p) - place.start) q p next) k x e
      go (Pauses xs) e = e
      go (Ends xs) e = e

  -- what comes next after steps that gave nothing came next before them
  pub next_before : (a b : MatcherState) (x : Item) → Moves q p a b → b.given ≡ a.given → slice_get (walk_from q p (place_of b)) b.here ≡ Some x → slice_get (walk_from q p (place_of a)) a.here ≡ Some x
  next_before a b x m same e =
      let h = comes_after m.comes in
      let here_is : a.here ≡ length h.front + b.here = omega (arith, m.counted, same, h.many) in
      ap (slice_get (walk_from q p (place_of a))) here_is ∙ ap (λ z. slice_get z (length h.front + b.here)) h.is ∙ get_behind h.front (walk_from q p (place_of b)) b.here ∙ e
