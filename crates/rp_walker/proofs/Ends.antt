-- How a start row ends, and how the answer ends.
use Rattle.std.proofs.Common.{◌≡◌, ℕ, zero, suc, ◌+◌, ◌-◌, ◌<◌, ◌≤◌, List, [], ◌∷◌, ◌++◌, length, length-append, map, Bool, true, false, cond, Option, Some, refl, sym, ap, ◌∙◌, subst, arith}
use Rattle.std.specs.Prelude.{◌≢◌, slice_get, nat_le, nat_eq, max}
use Rattle.std.proofs.lemmas.Bool.Decides.{nat_tests}
use Rattle.rp_words.specs.declared.word.End.{End}
use Rattle.rp_words.specs.declared.form.Form.{Form}
use Rattle.rp_words.specs.PatternForm.{form_of}
use Rattle.rp_words.specs.Turns.{turns, starts_turns}
use Rattle.rp_words.specs.Words.{words}
use Rattle.rp_search.specs.Found.{Found}
use Rattle.rp_query.specs.declared.query.QueryData.{QueryData}
use Rattle.rp_query.specs.declared.item.Item.{Item}
use Rattle.rp_known.specs.declared.place.Place.{Place}
use Rattle.rp_known.specs.Known.{Known, count}
use Rattle.rp_known.specs.Items.{item_at, item_rows}
use Rattle.rp_known.specs.Walk.{Leg, Goes, Ends, after_items, after_found, leg, leg_items, here, on}
use Rattle.rp_known.specs.WalkLaws.{LeadsOn, SearchesLeadOn, LeadsInRows, SearchesLeadInRows}
use Rattle.rp_walker.specs.Records.{place_of, IsWithin}
use Rattle.rp_walker.specs.Steps.{IsStop, IsEnd, ended_by, Moves}
use Rattle.rp_walker.specs.declared.ahead.Ahead.{Ahead}
use Rattle.rp_walker.specs.declared.record.MatcherState.{MatcherState}
use Rattle.rp_walker.specs.declared.run.Run.{Run}
use Rattle.rp_walker.specs.declared.stage.Ended.{Ended}
use Rattle.rp_walker.specs.declared.stage.Stage.{Stage}
use Rattle.rp_walker.specs.declared.stage.Stage.TheVariants.{Begin, Giving}
use Rattle.rp_walker.specs.declared.stage.Step.{Step}
use Rattle.rp_walker.specs.declared.stage.Step.TheVariants.{Went, Gave, Idle}
use Rattle.rp_walker.specs.declared.walker.Walker.{Walker}
use Rattle.rp_walker.specs.Given.{result_of, shown_from, is_hidden}
use Rattle.rp_walker.specs.Stages.{Gives, IsReady, IsGoing, stage_left, starts_to, left_with}
use Rattle.rp_walker.specs.Walking.{KeepsGoing}
use Rattle.rp_walker.proofs.Shown.{Adds, all_here}
use Rattle.rp_walker.proofs.Steps.{leg_of, left_going, stands_going}

-- ---- what is left

starts_more : (n : ℕ) (e : End) (f : Form) (a d : ℕ) → starts_turns n e f a ≤ starts_turns n e f (d + a)
starts_more n e f a zero = subst (λ k. starts_turns n e f a ≤ starts_turns n e f k) (sym (let z : 0 + a ≡ a = omega arith in z)) (omega arith)
starts_more n e f a (suc d) =
    let further : suc d + a ≡ suc (d + a) = omega arith in
    subst (λ k. starts_turns n e f a ≤ starts_turns n e f k) (sym further) (omega (arith, starts_more n e f a d))

pub starts_up : (n : ℕ) (e : End) (f : Form) (a b : ℕ) → a ≤ b → starts_turns n e f a ≤ starts_turns n e f b
starts_up n e f a b h =
    let whole : (b - a) + a ≡ b = omega (arith, h) in
    subst (λ k. starts_turns n e f a ≤ starts_turns n e f k) whole (starts_more n e f a (b - a))

pub starts_before : (n : ℕ) (e : End) (f : Form) (i : ℕ) → 1 ≤ i → starts_turns n e f i ≡ starts_turns n e f (i - 1) + (turns n e f i + length (words n e f i) + (n - i) + 4)
starts_before n e f zero h = absurd (omega (arith, h))
starts_before n e f (suc s) h =
    let before : s ≡ suc s - 1 = omega arith in
    ap (λ k. starts_turns n e f k + (turns n e f (suc s) + length (words n e f (suc s)) + (n - suc s) + 4)) before

-- at a later start row no more is left than the rows after this one take
pub left_later : (q : QueryData) (p : Known) (r r' : MatcherState) (spare : Option Run) → r'.over ≡ false → r.at < r'.at →
    left_with q p r' (Begin spare) ≤ 1 + (starts_to q p (count p) - starts_to q p r.at)
left_later q p r r' spare going h =
    subst (λ b. cond b 0 (1 + cond (nat_le r'.at (count p)) (stage_left q p r' (Begin spare) + (starts_to q p (count p) - starts_to q p r'.at)) 0) ≤ 1 + (starts_to q p (count p) - starts_to q p r.at)) (sym going) (go (nat_le r'.at (count p)) refl)
  where
    go : (b : Bool) → nat_le r'.at (count p) ≡ b → 1 + cond b (stage_left q p r' (Begin spare) + (starts_to q p (count p) - starts_to q p r'.at)) 0 ≤ 1 + (starts_to q p (count p) - starts_to q p r.at)
    go false e = omega arith
    go true e =
        let low : r'.at ≤ count p = grind (arith, nat_tests) in
        omega (arith, h, starts_before (count p) p.end (form_of q.pattern) r'.at (omega (arith, h)), starts_up (count p) p.end (form_of q.pattern) r.at (r'.at - 1) (omega (arith, h)), starts_up (count p) p.end (form_of q.pattern) r'.at (count p) low)

-- ---- all rows were passed

append_none : (xs : List ℕ) → xs ++ [] ≡ xs
append_none [] = refl
append_none (x ∷ xs) = ap (λ z. x ∷ z) (append_none xs)

module _ (q : QueryData) (p : Known) (place : Place) (result : Found) (a : Ahead) (g : Gives q p place result a) (all : a.next ≡ a.end) where
  rows_all : item_rows q.plan.rows place result ≡ g.passed
  rows_all =
      let none : a.end - a.next ≡ 0 = omega (arith, all) in
      g.rows ∙ ap (λ k. g.passed ++ shown_from (is_hidden q.plan.rows place.start result) k a.next) none ∙ append_none g.passed

  leg_all : leg q p place ≡ after_items (map (item_at q p place result) g.passed) (after_found q place result)
  leg_all = leg_of q p place result g.passed g.known g.found rows_all

  -- the items of the search, and then what follows it
  pub adds_all : (so_far : ℕ) → a.seen ≤ so_far → so_far ≤ length (leg_items (leg q p place)) → Adds (item_at q p place result) (after_found q place result) (leg q p place) a.seen
  adds_all so_far h w =
      subst (λ t. Adds (item_at q p place result) (after_found q place result) t a.seen) (sym leg_all)
      (subst (λ k. Adds (item_at q p place result) (after_found q place result) (after_items (map (item_at q p place result) g.passed) (after_found q place result)) k) (sym g.seen)
      (all_here (item_at q p place result) (after_found q place result) g.passed
      (omega (arith, g.seen, h, subst (λ t. so_far ≤ length (leg_items t)) leg_all w))))

-- ---- the walk goes on

still_kept : (x y b first : ℕ) → x ≤ y → first ≤ max 1 (x - b) → first ≤ max 1 (y - b)
still_kept x y b first h k = omega (arith, h, k)

pub leads_later : SearchesLeadOn → (q : QueryData) (r : MatcherState) (result : Found) (next : Place) → after_found q (place_of r) result ≡ Goes [] next → r.at < next.start
leads_later leads q r result next follows = (subst (LeadsOn (place_of r)) follows (leads q (place_of r) result)).0

module _ (leads : SearchesLeadOn) (stays : SearchesLeadInRows) (q : QueryData) (p : Known) (w : Walker) (found : Ended) (a : Ahead) (g : IsGoing q w.state) (gives : Gives q p (place_of w.state) (result_of found) a)
    (run : Run) (not_past : a.seen ≤ w.state.here) (all : a.next ≡ a.end) (next : Place) (follows : after_found q (place_of w.state) (result_of found) ≡ Goes [] next) (ready : IsReady q p next.start run) where
  abbrev moved_on : MatcherState
  moved_on = record w.state { at = next.start; matches = next.matches; covered = next.covered; here = 0 }

  leads_on : LeadsOn (place_of w.state) (Goes [] next)
  leads_on = subst (LeadsOn (place_of w.state)) follows (leads q (place_of w.state) (result_of found))

  later : w.state.at < next.start
  later = leads_on.0

  going_on : IsGoing q moved_on
  going_on =
      record {
        going = g.going;
        from_one = omega (arith, later);
        fewer = omega (arith, later, leads_on.1, g.fewer);
        kept = still_kept w.state.at next.start q.reach w.state.first (omega (arith, later)) g.kept;
        enough = omega arith;
      }

  moves_on : IsWithin q p w.state → Moves q p w.state moved_on
  moves_on within_old =
      let adds = adds_all q p (place_of w.state) (result_of found) a gives all w.state.here not_past within_old in
      let goes : leg q p (place_of w.state) ≡ Goes adds.items next = adds.goes next follows in
      let within : w.state.here ≤ length adds.items = subst (λ t. w.state.here ≤ length (leg_items t)) goes within_old in
      record {
        before = length adds.items + 0;
        comes = on goes here;
        counted = omega (arith, adds.many, not_past, within);
        within = omega arith;
        ended = subst (λ b. ended_by b q p moved_on) (sym g.going) tt;
      }

  pub goes_to : KeepsGoing 1 q p w.state (Giving found a) (record w { state = moved_on; stage = Begin (Some run) }) Went
  goes_to =
      record {
        given = refl;
        over = tt;
        first = refl;
        stands = stands_going q p (record w { state = moved_on; stage = Begin (Some run) }) going_on ready;
        in_rows = λ h. (let x : LeadsInRows p (Goes [] next) = subst (LeadsInRows p) follows (stays q p (place_of w.state) (result_of found) gives.known h.0 gives.in_rows) in (x.1, λ going. x.0));
        lowers = omega (arith, left_going q p w.state (Giving found a) g.going gives.known, left_later q p w.state moved_on (Some run) g.going later);
        follows = λ within_old. record { moves = moves_on within_old; is = refl };
      }

-- ---- the answer ends

-- so many items, and then this one, which is the last
pub record LastItem (t : Leg) (k : ℕ) (x : Item) : Type 0 where
  pub items : List Item
  pub many : length items ≡ k
  pub is : t ≡ Ends (items ++ x ∷ [])

get_last : (xs : List Item) (x : Item) → slice_get (xs ++ x ∷ []) (length xs) ≡ Some x
get_last [] x = refl
get_last (y ∷ xs) x = get_last xs x

module _ (q : QueryData) (p : Known) (w : Walker) (stage last_stage : Stage) (x : Item) (k : ℕ) (g : IsGoing q w.state) (some : 0 < left_with q p w.state stage)
    (not_past : k ≤ w.state.here) (last : IsWithin q p w.state → LastItem (leg q p (place_of w.state)) k x) where
  abbrev gave_last : MatcherState
  gave_last = record w.state { here = k + 1; given = w.state.given + 1; over = true }

  abbrev was_last : MatcherState
  was_last = record w.state { over = true }

  in_all : (t : Leg) → LastItem t k x → (length (leg_items t) ≡ k + 1) × IsEnd t × IsStop t
  in_all t h =
      let e : length (h.items ++ x ∷ []) ≡ k + 1 = omega (arith, h.many, length-append h.items (x ∷ [])) in
      (ap (λ u. length (leg_items u)) h.is ∙ e, subst IsEnd (sym h.is) tt, subst IsStop (sym h.is) tt)

  gives_last : w.state.here ≡ k → KeepsGoing 1 q p w.state stage (record w { state = gave_last; stage = last_stage }) (Gave x)
  gives_last due =
      record {
        given = refl;
        over = λ l. refl;
        first = refl;
        in_rows = λ h. (h.0, λ going. absurd (cc));
        stands = omega (arith, due, g.enough);
        lowers = some;
        follows = λ within_old.
            let h = last within_old in
            let ends = in_all (leg q p (place_of w.state)) h in
            let at : slice_get (leg_items (leg q p (place_of w.state))) w.state.here ≡ Some x =
            ap (λ t. slice_get (leg_items t) w.state.here) h.is ∙ ap (λ i. slice_get (h.items ++ x ∷ []) i) (due ∙ sym h.many) ∙ get_last h.items x in
            record {
              moves = record { before = 0; comes = here; counted = omega (arith, due); within = omega (arith, ends.0); ended = record { ends = ends.1; all = sym ends.0 } };
              is = (refl, at);
            };
      }

  gave_last_before : w.state.here ≢ k → KeepsGoing 1 q p w.state stage (record w { state = was_last; stage = last_stage }) Idle
  gave_last_before other =
      record {
        given = refl;
        over = tt;
        first = refl;
        in_rows = λ h. (h.0, λ going. absurd (cc));
        stands = g.enough;
        lowers = omega arith;
        follows = λ within_old.
            let ends = in_all (leg q p (place_of w.state)) (last within_old) in
            let here_is : w.state.here ≡ k + 1 = omega (arith, other, not_past, ends.0, within_old) in
            record {
              moves = record { before = 0; comes = here; counted = omega arith; within = within_old; ended = record { ends = ends.1; all = here_is ∙ sym ends.0 } };
              is = (refl, record { stops = ends.2; all = here_is ∙ sym ends.0; over = λ e. refl });
            };
      }

  -- whichever it is
  pub ends_with : (new : Walker) (step : Step) → (w.state.here ≢ k → (step ≡ Idle) × (new ≡ record w { state = was_last; stage = last_stage })) → (w.state.here ≡ k → (step ≡ Gave x) × (new ≡ record w { state = gave_last; stage = last_stage })) →
      KeepsGoing 1 q p w.state stage new step
  ends_with new step other due = go (nat_eq w.state.here k) refl
    where
      go : (b : Bool) → nat_eq w.state.here k ≡ b → KeepsGoing 1 q p w.state stage new step
      go true e =
          let h = due (grind (arith, nat_tests)) in
          subst (λ s. KeepsGoing 1 q p w.state stage new s) (sym h.0) (subst (λ n. KeepsGoing 1 q p w.state stage n (Gave x)) (sym h.1) (gives_last (grind (arith, nat_tests))))
      go false e =
          let ne : w.state.here ≢ k = λ same. grind (arith, nat_tests, same) in
          let h = other ne in
          subst (λ s. KeepsGoing 1 q p w.state stage new s) (sym h.0) (subst (λ n. KeepsGoing 1 q p w.state stage n Idle) (sym h.1) (gave_last_before ne))
