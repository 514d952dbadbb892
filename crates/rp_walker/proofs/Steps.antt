-- What one step over the rows ahead does.
use Rattle.std.proofs.Common.{◌≡◌, ℕ, suc, ◌+◌, ◌-◌, ◌<◌, ◌≤◌, List, [], ◌∷◌, ◌++◌, length, length-append, append_assoc, map, Bool, true, false, cond, Some, None, sym, ap, ◌∙◌, subst, arith, Option}
use Rattle.std.specs.Prelude.{nat_le, option_map}
use Rattle.std.proofs.lemmas.Bool.Decides.{nat_tests}
use Rattle.rp_search.specs.Found.{Found, Match, NoMatch, Waits}
use Rattle.rp_known.specs.Walk.{after_items, after_found, found_at, at_last, searched, leg, leg_items, here}
use Rattle.rp_walker.specs.Records.{place_of, IsWithin, IsLast}
use Rattle.rp_walker.specs.Steps.{IsDone, IsStop, ended_by, Moves, IsEnd}
use Rattle.rp_query.specs.declared.query.QueryData.{QueryData}
use Rattle.rp_known.specs.Known.{Known, count}
use Rattle.rp_query.specs.declared.item.Item.{Item}
use Rattle.rp_query.specs.declared.item.Item.TheVariants.{Row as RowItem}
use Rattle.rp_walker.specs.declared.ahead.Ahead.{Ahead}
use Rattle.rp_walker.specs.declared.walker.Walker.{Walker}
use Rattle.rp_walker.specs.declared.record.MatcherState.{MatcherState}
use Rattle.rp_walker.specs.declared.stage.Stage.{Stage}
use Rattle.rp_known.specs.declared.place.Place.{Place}
use Rattle.rp_known.specs.Items.{item_at, item_rows, items_of}
use Rattle.rp_walker.specs.Given.{is_hidden, shown_from}
use Rattle.rp_walker.specs.Stages.{Gives, rows_ahead, IsGoing, StageStands, stage_left, starts_to, left_with}
use Rattle.rp_walker.specs.Walking.{stands_by}
use Rattle.rp_walker.proofs.Shown.{IsHere, item_here, none_here}
use Rattle.rp_value.specs.declared.value.Value.{Value}
use Rattle.rp_known.specs.Plans.{setting_of, cells_in}

-- ---- rows ahead

shown_step : (hidden : ℕ → Bool) (next end : ℕ) → next < end →
    shown_from hidden (end - next) next ≡ cond (hidden next) (shown_from hidden (end - (next + 1)) (next + 1)) (next ∷ shown_from hidden (end - (next + 1)) (next + 1))
shown_step hidden next end h =
    let more : end - next ≡ suc (end - (next + 1)) = omega (arith, h) in
    let one : suc next ≡ next + 1 = omega arith in
    ap (λ k. shown_from hidden k next) more
    ∙ ap (λ r. cond (hidden next) (shown_from hidden (end - (next + 1)) r) (next ∷ shown_from hidden (end - (next + 1)) r)) one

pub hidden_step : (hidden : ℕ → Bool) (next end : ℕ) → next < end → hidden next ≡ true → shown_from hidden (end - next) next ≡ shown_from hidden (end - (next + 1)) (next + 1)
hidden_step hidden next end h e = shown_step hidden next end h ∙ ap (λ b. cond b (shown_from hidden (end - (next + 1)) (next + 1)) (next ∷ shown_from hidden (end - (next + 1)) (next + 1))) e

pub visible_step : (hidden : ℕ → Bool) (next end : ℕ) → next < end → hidden next ≡ false → shown_from hidden (end - next) next ≡ next ∷ shown_from hidden (end - (next + 1)) (next + 1)
visible_step hidden next end h e = shown_step hidden next end h ∙ ap (λ b. cond b (shown_from hidden (end - (next + 1)) (next + 1)) (next ∷ shown_from hidden (end - (next + 1)) (next + 1))) e

abbrev pub past_hidden : Ahead → Ahead
past_hidden a = record { next = a.next + 1; end = a.end; seen = a.seen }

abbrev pub past_shown : Ahead → Ahead
past_shown a = record { next = a.next + 1; end = a.end; seen = a.seen + 1 }

module _ (q : QueryData) (p : Known) (place : Place) (result : Found) (a : Ahead) (g : Gives q p place result a) (more : a.next < a.end) where
  abbrev hides : ℕ → Bool
  hides = is_hidden q.plan.rows place.start result

  pub gives_hidden : is_hidden q.plan.rows place.start result a.next ≡ true → Gives q p place result (past_hidden a)
  gives_hidden e =
      record {
        known = g.known;
        found = g.found;
        in_rows = g.in_rows;
        passed = g.passed;
        rows = g.rows ∙ ap (λ rs. g.passed ++ rs) (hidden_step hides a.next a.end more e);
        seen = g.seen;
        fewer = omega (arith, g.fewer);
        low = omega (arith, g.low);
        ordered = omega (arith, more);
        high = g.high;
      }

  pub rows_here : is_hidden q.plan.rows place.start result a.next ≡ false → item_rows q.plan.rows place result ≡ g.passed ++ a.next ∷ rows_ahead q place.start result (past_shown a)
  rows_here e = g.rows ∙ ap (λ rs. g.passed ++ rs) (visible_step hides a.next a.end more e)

  pub gives_shown : is_hidden q.plan.rows place.start result a.next ≡ false → Gives q p place result (past_shown a)
  gives_shown e =
      record {
        known = g.known;
        found = g.found;
        in_rows = g.in_rows;
        passed = g.passed ++ a.next ∷ [];
        rows = rows_here e ∙ sym (append_assoc g.passed (a.next ∷ []) (rows_ahead q place.start result (past_shown a)));
        seen = omega (arith, g.seen, length-append g.passed (a.next ∷ []));
        fewer = omega (arith, g.fewer);
        low = omega (arith, g.low);
        ordered = omega (arith, more);
        high = g.high;
      }

-- ---- the leg of a search that has ended

pub leg_of : (q : QueryData) (p : Known) (place : Place) (result : Found) (rows : List ℕ) → place.start ≤ count p → found_at q p place.start ≡ result → item_rows q.plan.rows place result ≡ rows →
    leg q p place ≡ after_items (map (item_at q p place result) rows) (after_found q place result)
leg_of q p place result rows h found is =
    let known : nat_le place.start (count p) ≡ true = grind (arith, nat_tests) in
    ap (λ b. cond b (searched q p place (found_at q p place.start)) (at_last p.end)) known
    ∙ ap (λ f. after_items (items_of q p place f) (after_found q place f)) found
    ∙ ap (λ rs. after_items (map (item_at q p place result) rs) (after_found q place result)) is

module _ (q : QueryData) (p : Known) (r : MatcherState) (result : Found) (a : Ahead) (g : Gives q p (place_of r) result a) (more : a.next < a.end)
    (shown : is_hidden q.plan.rows r.at result a.next ≡ false) (due : a.seen ≡ r.here) (within : IsWithin q p r) where
  abbrev rest : List ℕ
  rest = rows_ahead q r.at result (past_shown a)

  leg_here : leg q p (place_of r) ≡ after_items (map (item_at q p (place_of r) result) (g.passed ++ a.next ∷ rest)) (after_found q (place_of r) result)
  leg_here = leg_of q p (place_of r) result (g.passed ++ a.next ∷ rest) g.known g.found (rows_here q p (place_of r) result a g more shown)

  passed_all : length g.passed ≡ r.here
  passed_all = sym g.seen ∙ due

  within_here : length g.passed ≤ length (leg_items (after_items (map (item_at q p (place_of r) result) (g.passed ++ a.next ∷ rest)) (after_found q (place_of r) result)))
  within_here = subst (λ k. k ≤ length (leg_items (after_items (map (item_at q p (place_of r) result) (g.passed ++ a.next ∷ rest)) (after_found q (place_of r) result)))) (sym passed_all)
      (subst (λ t. r.here ≤ length (leg_items t)) leg_here within)

  pub gave : (x : Item) → item_at q p (place_of r) result a.next ≡ Some x → IsHere (leg q p (place_of r)) r.here x
  gave x e =
      subst (λ t. IsHere t r.here x) (sym leg_here)
      (subst (λ k. IsHere (after_items (map (item_at q p (place_of r) result) (g.passed ++ a.next ∷ rest)) (after_found q (place_of r) result)) k x) passed_all
      (item_here (item_at q p (place_of r) result) (after_found q (place_of r) result) g.passed rest a.next x e within_here))

  pub not_yet : item_at q p (place_of r) result a.next ≡ None → IsDone q p r
  not_yet e =
      let s = none_here (item_at q p (place_of r) result) (after_found q (place_of r) result) g.passed rest a.next e within_here in
      record {
        stops = subst (λ t. IsStop t) (sym leg_here) s.stops;
        all = sym passed_all ∙ s.all ∙ ap (λ t. length (leg_items t)) (sym leg_here);
        over = λ ends. absurd (s.pauses (subst IsEnd leg_here ends));
      }

-- ---- no item at a row is the last of an answer

abbrev pub IsLastIn : Option Item → Type 0
IsLastIn None = ⊥
IsLastIn (Some x) = IsLast x

pub never_last : (q : QueryData) (p : Known) (place : Place) (result : Found) (row : ℕ) → IsLastIn (item_at q p place result row) → ⊥
never_last q p place Waits row h = h
never_last q p place NoMatch row h = h
never_last q p place (Match labels) row h = go (cells_in q (setting_of q p place.start labels (suc place.matches) row) q.output.items) h
  where
    go : (o : Option (List Value)) → IsLastIn (option_map (RowItem (Some (suc place.matches))) o) → ⊥
    go None h = h
    go (Some values) h = h

-- ---- what is left

-- where the answer goes on at a known row
pub left_going : (q : QueryData) (p : Known) (r : MatcherState) (stage : Stage) → r.over ≡ false → r.at ≤ count p →
    left_with q p r stage ≡ 1 + (stage_left q p r stage + (starts_to q p (count p) - starts_to q p r.at))
left_going q p r stage going h =
    let known : nat_le r.at (count p) ≡ true = grind (arith, nat_tests) in
    ap (λ b. cond b 0 (1 + cond (nat_le r.at (count p)) (stage_left q p r stage + (starts_to q p (count p) - starts_to q p r.at)) 0)) going
    ∙ ap (λ b. 1 + cond b (stage_left q p r stage + (starts_to q p (count p) - starts_to q p r.at)) 0) known

-- ---- a step that stays at its place

pub stays_put : (q : QueryData) (p : Known) (r : MatcherState) → r.over ≡ false → IsWithin q p r → Moves q p r r
stays_put q p r going w =
    record { before = 0; comes = here; counted = omega arith; within = w; ended = subst (λ b. ended_by b q p r) (sym going) tt }

pub stands_going : (q : QueryData) (p : Known) (w : Walker) → IsGoing q w.state → StageStands q p w.state w.stage → stands_by w.state.over q p w
stands_going q p w g s = subst (λ b. stands_by b q p w) (sym g.going) (record { going = g; stands = s })

-- the count of the rows entered has no part in it
pub stands_counted : (over : Bool) (q : QueryData) (p : Known) (w : Walker) (n : ℕ) → stands_by over q p w → stands_by over q p (record w { entered = n })
stands_counted true q p w n h = h
stands_counted false q p w n h = record { going = h.going; stands = h.stands }
