-- A walk over known partitions that agree from a row on.
use Rattle.std.proofs.Common.{◌≡◌, ℕ, zero, suc, ◌-◌, ◌<◌, ◌≤◌, List, [], ◌∷◌, ◌++◌, length, length-append, refl, sym, ap, ◌∙◌, subst, arith}
use Rattle.rp_query.specs.declared.query.QueryData.{QueryData}
use Rattle.rp_query.specs.Sound.{IsSound}
use Rattle.rp_query.specs.declared.item.Item.{Item}
use Rattle.rp_known.specs.declared.place.Place.{Place}
use Rattle.rp_known.specs.Known.{Known, count}
use Rattle.rp_known.specs.WalkLaws.{GoesOnFrom}
use Rattle.rp_known.specs.Plans.{first_read}
use Rattle.rp_known.specs.Walk.{Leg, Goes, Pauses, Ends, leg, and_then, walk, walk_from, ComesTo, here, on}
use Rattle.rp_known.specs.WalkLaws.{IsPrefixOf, Stays, LegStays, LeadsOn, LegsLeadOn}
use Rattle.rp_walker.specs.FitLaws.{AgreesFrom}

none_left : (xs : List Item) → length xs ≡ 0 → xs ≡ []
none_left [] h = refl
none_left (x ∷ xs) h = absurd (omega (arith, h))

append_none : (xs : List Item) → xs ++ [] ≡ xs
append_none [] = refl
append_none (x ∷ xs) = ap (λ z. x ∷ z) (append_none xs)

prefix_both : (xs ys : List Item) → IsPrefixOf xs ys → IsPrefixOf ys xs → ys ≡ xs
prefix_both xs ys h k =
    let none : length h.rest ≡ 0 = omega (arith, length-append xs h.rest, ap length h.is, length-append ys k.rest, ap length k.is) in
    sym h.is ∙ ap (λ z. xs ++ z) (none_left h.rest none) ∙ append_none xs

stays_both : (s t : Leg) → Stays s t → Stays t s → t ≡ s
stays_both (Goes xs next) t h k = h
stays_both (Ends xs) t h k = h
stays_both (Pauses xs) (Pauses ys) h k = ap Pauses (prefix_both xs ys h k)
stays_both (Pauses xs) (Goes ys next) h k = absurd (cc)
stays_both (Pauses xs) (Ends ys) h k = absurd (cc)

pub goes_on_later : (first later : ℕ) (p p' : Known) → first ≤ later → GoesOnFrom first p p' → GoesOnFrom later p p'
goes_on_later first later p p' le g = record { later = g.later; same = λ row from known. g.same row (omega (arith, le, from)) known }

pub still_read : (q : QueryData) (first x y : ℕ) → x ≤ y → first ≤ first_read q x → first ≤ first_read q y
still_read q first x y h k = omega (arith, h, k)

pub turned : {first : ℕ} {p p' : Known} → AgreesFrom first p p' → AgreesFrom first p' p
turned a = record { on = a.back; back = a.on }

module _ (law : LegStays) (leads : LegsLeadOn) (q : QueryData) (reaches : IsSound q) (p p' : Known) (first : ℕ) (a : AgreesFrom first p p') where
  pub leg_agrees : (place : Place) → first ≤ first_read q place.start → 1 ≤ place.start → leg q p' place ≡ leg q p place
  leg_agrees place h one =
      stays_both (leg q p place) (leg q p' place) (law q p p' place reaches one (goes_on_later first (first_read q place.start) p p' h a.on)) (law q p' p place reaches one (goes_on_later first (first_read q place.start) p' p h a.back))

  later_start : (place next : Place) (xs : List Item) → leg q p place ≡ Goes xs next → place.start < next.start
  later_start place next xs is = let l : LeadsOn place (Goes xs next) = subst (LeadsOn place) is (leads q p place) in l.0

  pub comes_agrees : {d : ℕ} {from to : Place} → first ≤ first_read q from.start → 1 ≤ from.start → ComesTo q p' from d to → ComesTo q p from d to
  comes_agrees h one here = here
  comes_agrees h one (on {place = place} {next = next} {xs = xs} is r) =
      let same : leg q p place ≡ Goes xs next = sym (leg_agrees place h one) ∙ is in
      let later = later_start place next xs same in
      on same (comes_agrees (still_read q first place.start next.start (omega (arith, later)) h) (omega (arith, one, later)) r)

  and_then_same : (t : Leg) (f g : Place → List Item) → ((xs : List Item) (next : Place) → t ≡ Goes xs next → f next ≡ g next) → and_then t f ≡ and_then t g
  and_then_same (Goes xs next) f g h = ap (λ z. xs ++ z) (h xs next refl)
  and_then_same (Pauses xs) f g h = refl
  and_then_same (Ends xs) f g h = refl

  walks_agree : (k : ℕ) (place : Place) → first ≤ first_read q place.start → 1 ≤ place.start → walk k q p' place ≡ walk k q p place
  walks_agree zero place h one = refl
  walks_agree (suc k) place h one =
      ap (λ t. and_then t (walk k q p')) (leg_agrees place h one)
      ∙ and_then_same (leg q p place) (walk k q p') (walk k q p)
      (λ xs next is. (let later = later_start place next xs is in walks_agree k next (still_read q first place.start next.start (omega (arith, later)) h) (omega (arith, one, later))))

  pub as_many : count p' ≡ count p
  as_many = let x : count p ≤ count p' = a.on.later.0 in let y : count p' ≤ count p = a.back.later.0 in omega (arith, x, y)

  pub walk_agrees : (place : Place) → first ≤ first_read q place.start → 1 ≤ place.start → walk_from q p' place ≡ walk_from q p place
  walk_agrees place h one = ap (λ n. walk (suc (suc n - place.start)) q p' place) as_many ∙ walks_agree (suc (suc (count p) - place.start)) place h one
