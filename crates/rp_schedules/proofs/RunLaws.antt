-- Every run of nodes is a schedule of what their records stand for.
use Rattle.std.proofs.Common.{◌≡◌, ◌≢◌, ◌⊎◌, inl, inr, ℕ, zero, suc, true, false, List, [], ◌∷◌, length, Option, Some, None, refl, sym, ap, ◌∙◌, subst, arith}
use Rattle.std.specs.Prelude.{slice_get, nat_lt, is_some, Contains, ⊤}
use Rattle.std.proofs.lemmas.Bool.Decides.{nat_tests}
use Rattle.std.proofs.lemmas.Bool.{cases_eq}
use Rattle.rp_schedules.specs.Schedules.{Standing, nothing_taken, with_number, Act, Takes, Closes, Gives, Idles, Pauses, Step, idles, World, at_start, StaysElsewhere, Becomes, Saves, Event, Done, Saved, Happens, done, saves, restarts, begins_anew, refused, Schedule, none as no_event, more as one_more}
use Rattle.rp_query.specs.declared.query.QueryData.{QueryData}
use Rattle.rp_query.specs.Sound.{IsSound}
use Rattle.rp_query.specs.declared.item.Item.{Item}
use Rattle.rp_known.specs.Walk.{known}
use Rattle.rp_schedules.specs.Schedules.{Grows}
use Rattle.rp_schedules.specs.Records.{Row, known_of_rows, Held, fresh, Fits, seen_part, StandsFor, Polls, item, idle, paused, PollFits, or_fresh, Nodes, Calls, row_taken, close_taken, polled, no_memory, saved, restarted, begun_anew, nothing_done, Runs, none, more, RunGivesFront}
use Rattle.rp_schedules.proofs.RecordLaws.{Lower, row_fits, close_fits, fresh_fits, row_steps, close_steps, poll_steps, same_known}
use Rattle.rp_schedules.proofs.SameFits.{Formulas, calls_by_same}
use Rattle.rp_schedules.proofs.ScheduleLaws.{gives_front}

abbrev pick : {P A : Type 0} → P ⊎ (P → ⊥) → A → A → A
pick (inl p) x y = x
pick (inr n) x y = y

pick_first : {P A : Type 0} (d : P ⊎ (P → ⊥)) (x y : A) → P → pick d x y ≡ x
pick_first (inl p) x y h = refl
pick_first (inr n) x y h = absurd (n h)

pick_other : {P A : Type 0} (d : P ⊎ (P → ⊥)) (x y : A) → (P → ⊥) → pick d x y ≡ y
pick_other (inl p) x y h = absurd (h p)
pick_other (inr n) x y h = refl

module _ {Key : Type 0} (key_cases : (j k : Key) → (j ≡ k) ⊎ (j ≢ k)) (lower : Lower) (formulas : Formulas) (q : QueryData) (sound : IsSound q) (grows : Grows (known_of_rows q)) (whole : Key → List Row) where
  -- a record, or none, that fits its partition and stands for this
  record Matches (key : Key) (o : Option Held) (s : Standing) : Type 0 where
    fits : Fits q (whole key) (or_fresh o)
    stands : StandsFor (or_fresh o) s

  fresh_stands : StandsFor fresh nothing_taken
  fresh_stands = record { taken = λ n l. (let t : nat_lt n 1 ≡ false = grind (arith, nat_tests) in rw t refl); closed = refl; given = refl }

  fresh_matches : (key : Key) → Matches key None nothing_taken
  fresh_matches key = record { fits = fresh_fits lower q sound (whole key); stands = fresh_stands }

  abbrev AllMatch : List (Key → Option Held) → List (Key → Standing) → Type 0
  AllMatch [] [] = ⊤
  AllMatch [] (s ∷ ss) = ⊥
  AllMatch (r ∷ rs) [] = ⊥
  AllMatch (r ∷ rs) (s ∷ ss) = ((key : Key) → Matches key (r key) (s key)) × AllMatch rs ss

  record Follows (nodes : Nodes Key) (w : World Key Standing) : Type 0 where
    now : (a : ℕ) (key : Key) → Matches key (nodes.now a key) (w.now a key)
    saves : (a : ℕ) → AllMatch (nodes.saved a) (w.saved a)

  record Found (ss : List (Key → Standing)) (which : ℕ) (r : Key → Option Held) : Type 0 where
    state : Key → Standing
    there : slice_get ss which ≡ Some state
    matches : (key : Key) → Matches key (r key) (state key)

  found : (rs : List (Key → Option Held)) (ss : List (Key → Standing)) (which : ℕ) (r : Key → Option Held) → AllMatch rs ss → slice_get rs which ≡ Some r → Found ss which r
  found [] ss which r m e = absurd (cc)
  found (h ∷ rs) [] which r m e = absurd m
  found (h ∷ rs) (s ∷ ss) zero r m e = let i : h ≡ r = cc in record { state = s; there = refl; matches = λ key. subst (λ (z : Key → Option Held). Matches key (z key) (s key)) i (m.0 key) }
  found (h ∷ rs) (s ∷ ss) (suc k) r m e = let f = found rs ss k r m.1 e in record { state = f.state; there = f.there; matches = f.matches }

  -- what an event makes of the world, so that it goes on following the nodes
  record Next (w : World Key Standing) (e : Event Key Item) (nodes : Nodes Key) : Type 0 where
    world : World Key Standing
    happens : Happens (known_of_rows q) whole w e world
    follows : Follows nodes world

  same_match : (key : Key) (o o' : Option Held) (s s' : Standing) → o' ≡ o → s' ≡ s → Matches key o s → Matches key o' s'
  same_match key o o' s s' e f m = rw (e, f) m

  -- one partition of one node moves
  module _ {old new : Nodes Key} (w : World Key Standing) (f : Follows old w) (a : ℕ) (key : Key) (act : Act Item) (stays : StaysElsewhere a key old new) (s : Standing)
      (step : Step (known_of_rows q) (whole key) (w.now a key) act s) (m : Matches key (new.now a key) s) where
    abbrev moved_now : ℕ → Key → Standing
    moved_now b = pick (cases_eq b a) (λ k. pick (key_cases k key) s (w.now a k)) (w.now b)

    here_is : moved_now a key ≡ s
    here_is = ap (λ z. z key) (pick_first (cases_eq a a) (λ k. pick (key_cases k key) s (w.now a k)) (w.now a) refl) ∙ pick_first (key_cases key key) s (w.now a key) refl

    keys_same : (other : Key) → other ≢ key → moved_now a other ≡ w.now a other
    keys_same other h = ap (λ z. z other) (pick_first (cases_eq a a) (λ k. pick (key_cases k key) s (w.now a k)) (w.now a) refl) ∙ pick_other (key_cases other key) s (w.now a other) h

    nodes_same : (b : ℕ) → b ≢ a → moved_now b ≡ w.now b
    nodes_same b h = pick_other (cases_eq b a) (λ k. pick (key_cases k key) s (w.now a k)) (w.now b) h

    moved_match : (b : ℕ) (k : Key) → Matches k (new.now b k) (moved_now b k)
    moved_match b k = elim (cases_eq b a) [
      | inl i ↦ elim (key_cases k key) [
        | inl j ↦ subst (λ (z : ℕ). Matches k (new.now z k) (moved_now z k)) (sym i) (subst (λ (z : Key). Matches z (new.now a z) (moved_now a z)) (sym j) (same_match key (new.now a key) (new.now a key) s (moved_now a key) refl here_is m))
        | inr j ↦ subst (λ (z : ℕ). Matches k (new.now z k) (moved_now z k)) (sym i) (same_match k (old.now a k) (new.now a k) (w.now a k) (moved_now a k) (stays.keys k j) (keys_same k j) (f.now a k))
      ]
      | inr i ↦ same_match k (old.now b k) (new.now b k) (w.now b k) (moved_now b k) (ap (λ z. z k) (stays.nodes b i)) (ap (λ z. z k) (nodes_same b i)) (f.now b k)
    ]

    moves : Next w (Done a key act) new
    moves = record {
      world = record { now = moved_now; saved = w.saved };
      happens = done (subst (λ (z : Standing). Step (known_of_rows q) (whole key) (w.now a key) act z) (sym here_is) step) (record { nodes = nodes_same; keys = keys_same; saves = refl });
      follows = record { now = moved_match; saves = λ b. subst (λ (z : ℕ → List (Key → Option Held)). AllMatch (z b) (w.saved b)) (sym stays.saves) (f.saves b) };
    }

  -- a record that stands for what it stood for
  given_same : {whole' : List Row} (old new : Held) (act : Act Item) → Polls q whole' old new act → act ≡ Pauses → new.state.given ≡ old.state.given
  given_same old new act (item at g) e = absurd (cc)
  given_same old new act (idle i g) e = absurd (cc)
  given_same old new act (paused g) e = g

  stands_still : {whole' : List Row} (old new : Held) (s : Standing) → StandsFor old s → PollFits q whole' old new Pauses → StandsFor new s
  stands_still old new s m p = record {
    taken = λ n l. m.taken n l ∙ sym (p.taken n l);
    closed = m.closed ∙ ap is_some (sym p.closed);
    given = m.given ∙ sym (given_same old new Pauses p.polls refl);
  }

  stays_following : {old new : Nodes Key} (w : World Key Standing) (f : Follows old w) (a : ℕ) (key : Key) → StaysElsewhere a key old new → Matches key (new.now a key) (w.now a key) → Follows new w
  stays_following {old = old} {new = new} w f a key stays m = record {
    now = λ b k. elim (cases_eq b a) [
      | inl i ↦ elim (key_cases k key) [
        | inl j ↦ subst (λ (z : ℕ). Matches k (new.now z k) (w.now z k)) (sym i) (subst (λ (z : Key). Matches z (new.now a z) (w.now a z)) (sym j) m)
        | inr j ↦ subst (λ (z : ℕ). Matches k (new.now z k) (w.now z k)) (sym i) (same_match k (old.now a k) (new.now a k) (w.now a k) (w.now a k) (stays.keys k j) refl (f.now a k))
      ]
      | inr i ↦ same_match k (old.now b k) (new.now b k) (w.now b k) (w.now b k) (ap (λ z. z k) (stays.nodes b i)) refl (f.now b k)
    ];
    saves = λ b. subst (λ (z : ℕ → List (Key → Option Held)). AllMatch (z b) (w.saved b)) (sym stays.saves) (f.saves b);
  }

  -- one node is put back
  module _ {old new : Nodes Key} (w : World Key Standing) (f : Follows old w) (a : ℕ) (r : Key → Option Held) (state : Key → Standing) (b : Becomes a r old new) (m : (key : Key) → Matches key (r key) (state key)) where
    abbrev put_now : ℕ → Key → Standing
    put_now c = pick (cases_eq c a) state (w.now c)

    put_becomes : Becomes a state w (record { now = put_now; saved = w.saved })
    put_becomes = record { state = pick_first (cases_eq a a) state (w.now a) refl; nodes = λ c h. pick_other (cases_eq c a) state (w.now c) h; saves = refl }

    put_match : (c : ℕ) (k : Key) → Matches k (new.now c k) (put_now c k)
    put_match c k = elim (cases_eq c a) [
      | inl i ↦ subst (λ (z : ℕ). Matches k (new.now z k) (put_now z k)) (sym i) (same_match k (r k) (new.now a k) (state k) (put_now a k) (ap (λ z. z k) b.state) (ap (λ z. z k) (pick_first (cases_eq a a) state (w.now a) refl)) (m k))
      | inr i ↦ same_match k (old.now c k) (new.now c k) (w.now c k) (put_now c k) (ap (λ z. z k) (b.nodes c i)) (ap (λ z. z k) (pick_other (cases_eq c a) state (w.now c) i)) (f.now c k)
    ]

    put_follows : Follows new (record { now = put_now; saved = w.saved })
    put_follows = record { now = put_match; saves = λ c. subst (λ (z : ℕ → List (Key → Option Held)). AllMatch (z c) (w.saved c)) (sym b.saves) (f.saves c) }

  -- a node's records are saved
  module _ {old new : Nodes Key} (w : World Key Standing) (f : Follows old w) (a : ℕ) (s : Saves a old new) where
    abbrev kept_saved : ℕ → List (Key → Standing)
    kept_saved c = pick (cases_eq c a) (w.now a ∷ w.saved a) (w.saved c)

    saves_next : Next w (Saved a) new
    saves_next = record {
      world = record { now = w.now; saved = kept_saved };
      happens = saves (record { state = pick_first (cases_eq a a) (w.now a ∷ w.saved a) (w.saved a) refl; nodes = λ c h. pick_other (cases_eq c a) (w.now a ∷ w.saved a) (w.saved c) h; now = refl });
      follows = record {
        now = λ c k. subst (λ (z : ℕ → Key → Option Held). Matches k (z c k) (w.now c k)) (sym s.now) (f.now c k);
        saves = λ c. elim (cases_eq c a) [
          | inl i ↦ subst (λ (z : ℕ). AllMatch (new.saved z) (kept_saved z)) (sym i) (both (new.saved a) (kept_saved a) s.state (pick_first (cases_eq a a) (w.now a ∷ w.saved a) (w.saved a) refl) (f.now a, f.saves a))
          | inr i ↦ both (new.saved c) (kept_saved c) (s.nodes c i) (pick_other (cases_eq c a) (w.now a ∷ w.saved a) (w.saved c) i) (f.saves c)
        ];
      };
    }
      where
        both : {rs : List (Key → Option Held)} {ss : List (Key → Standing)} (rs' : List (Key → Option Held)) (ss' : List (Key → Standing)) → rs' ≡ rs → ss' ≡ ss → AllMatch rs ss → AllMatch rs' ss'
        both rs' ss' e g h = rw (e, g) h

  next : {old : Nodes Key} (w : World Key Standing) → Follows old w → (e : Event Key Item) (new : Nodes Key) → Calls q whole old e new → Next w e new
  next {old = old} w f e new (row_taken {a = a} {key = key} k row i at free is stays) =
      let o = f.now a key in
      let r : Held = or_fresh (old.now a key) in
      let p = row_steps lower q sound (whole key) r (w.now a key) k row o.stands i at free in
      moves w f a key (Takes k) stays (record (w.now a key) { taken = with_number k (w.now a key).taken }) p.0
      (same_match key _ (new.now a key) (record (w.now a key) { taken = with_number k (w.now a key).taken }) _ is refl (record { fits = row_fits lower q sound (whole key) r k row o.fits i at free; stands = p.1 }))
  next {old = old} w f e new (close_taken {a = a} {key = key} is stays) =
      let o = f.now a key in
      let r : Held = or_fresh (old.now a key) in
      let p = close_steps lower q sound (whole key) r (w.now a key) o.stands in
      moves w f a key Closes stays (record (w.now a key) { closed = true }) p.0
      (same_match key _ (new.now a key) (record (w.now a key) { closed = true }) _ is refl (record { fits = close_fits lower q sound (whole key) r o.fits; stands = p.1 }))
  next {old = old} w f e new (polled {a = a} {key = key} {act = act} p stays) =
      let o = f.now a key in
      let u = p o.fits in
      let t = poll_steps lower q sound (whole key) (or_fresh (old.now a key)) (or_fresh (new.now a key)) (w.now a key) act o.fits o.stands u in
      moves w f a key act stays t.next t.step (record { fits = u.fits; stands = t.stands })
  next {old = old} w f e new (no_memory {a = a} {key = key} p stays) =
      let o = f.now a key in
      let u = p o.fits in
      record { world = w; happens = refused; follows = stays_following w f a key stays (record { fits = u.fits; stands = stands_still (or_fresh (old.now a key)) (or_fresh (new.now a key)) (w.now a key) o.stands u }) }
  next w f e new (saved {a = a} s) = saves_next w f a s
  next {old = old} w f e new (restarted {a = a} {which = which} {state = state} at b) =
      let g = found (old.saved a) (w.saved a) which state (f.saves a) at in
      record { world = record { now = put_now w f a state g.state b g.matches; saved = w.saved }; happens = restarts g.there (put_becomes w f a state g.state b g.matches); follows = put_follows w f a state g.state b g.matches }
  next w f e new (begun_anew {a = a} b) =
      record { world = record { now = put_now w f a (λ _. None) (λ _. nothing_taken) b fresh_matches; saved = w.saved }; happens = begins_anew (put_becomes w f a (λ _. None) (λ _. nothing_taken) b fresh_matches); follows = put_follows w f a (λ _. None) (λ _. nothing_taken) b fresh_matches }
  next w f e new nothing_done = record { world = w; happens = refused; follows = f }

  -- the schedule that a run follows
  record Scheduled (events : List (Event Key Item)) (nodes : Nodes Key) : Type 0 where
    world : World Key Standing
    schedule : Schedule (known_of_rows q) whole events world
    follows : Follows nodes world

  scheduled : {events : List (Event Key Item)} {nodes : Nodes Key} → Runs q whole events nodes → Scheduled events nodes
  scheduled none = record { world = at_start; schedule = no_event; follows = record { now = λ a key. fresh_matches key; saves = λ a. tt } }
  scheduled (more {e = e} {old = old} {new = new} r c) =
      let s = scheduled r in
      let n = next s.world s.follows e new (calls_by_same formulas q whole old new e sound c) in
      record { world = n.world; schedule = one_more s.schedule n.happens; follows = n.follows }

  -- an idle poll says that all that is known was given
  idle_polls : {whole' : List Row} (old new : Held) (act : Act Item) → Polls q whole' old new act → act ≡ Idles → old.state.given ≡ length (known q (seen_part whole' old.feed))
  idle_polls old new act (item at g) e = absurd (cc)
  idle_polls old new act (idle i g) e = i
  idle_polls old new act (paused g) e = absurd (cc)

  abbrev KnowsAll : Nodes Key → ℕ → Key → Type 0
  KnowsAll nodes a key = (or_fresh (nodes.now a key)).state.given ≡ length (known q (seen_part (whole key) (or_fresh (nodes.now a key)).feed))

  idle_call : {old new : Nodes Key} {e : Event Key Item} (a : ℕ) (key : Key) → Calls q whole old e new → e ≡ Done a key Idles → Fits q (whole key) (or_fresh (old.now a key)) → KnowsAll old a key
  idle_call a key (row_taken k row i at free is stays) e fits = absurd (cc)
  idle_call a key (close_taken is stays) e fits = absurd (cc)
  idle_call {old = old} {new = new} a key (polled {a = b} {key = k} {act = act} p stays) e fits =
      let i : b ≡ a = cc in
      let j : k ≡ key = cc in
      let is : act ≡ Idles = cc in
      idle_polls (or_fresh (old.now a key)) (or_fresh (new.now a key)) act (moved p i j fits).polls is
    where
      moved : {x y : ℕ} {u v : Key} {o : Act Item} → (Fits q (whole u) (or_fresh (old.now x u)) → PollFits q (whole u) (or_fresh (old.now x u)) (or_fresh (new.now x u)) o) → x ≡ y → u ≡ v
          → Fits q (whole v) (or_fresh (old.now y v)) → PollFits q (whole v) (or_fresh (old.now y v)) (or_fresh (new.now y v)) o
      moved {o = o} p e g = subst (λ (z : ℕ × Key). Fits q (whole z.1) (or_fresh (old.now z.0 z.1)) → PollFits q (whole z.1) (or_fresh (old.now z.0 z.1)) (or_fresh (new.now z.0 z.1)) o) (pair e g) p
        where
          pair : {x y : ℕ} {u v : Key} → x ≡ y → u ≡ v → ◌≡◌ {A = ℕ × Key} (x, u) (y, v)
          pair e g = cc
  idle_call a key (no_memory p stays) e fits = absurd (cc)
  idle_call a key (saved s) e fits = absurd (cc)
  idle_call a key (restarted at b) e fits = absurd (cc)
  idle_call a key (begun_anew b) e fits = absurd (cc)
  idle_call a key nothing_done e fits = absurd (cc)

  pub run_gives_front : (events : List (Event Key Item)) (nodes : Nodes Key) (a : ℕ) (key : Key) → Runs q whole events nodes → RunGivesFront q whole events nodes a key
  run_gives_front events nodes a key r =
      let s = scheduled r in
      let g = gives_front key_cases (known_of_rows q) whole grows a key events s.world s.schedule in
      let m = s.follows.now a key in
      record {
        count = g.count;
        within = g.within;
        given = g.given;
        all = λ full after call.
            g.all (record { rows = λ k l h. m.stands.taken k l ∙ full.rows k l h; close = m.stands.closed ∙ ap is_some full.close })
            (idles (m.stands.given ∙ idle_call a key (calls_by_same formulas q whole nodes after (Done a key Idles) sound call) refl m.fits ∙ ap length (sym (same_known lower q sound (whole key) (or_fresh (nodes.now a key)) (s.world.now a key) m.fits m.stands))));
      }

  pub nodes_agree : (events : List (Event Key Item)) (nodes : Nodes Key) (a b : ℕ) (key : Key) (place : ℕ) (x y : Item) → Runs q whole events nodes
      → Contains events (Done a key (Gives place x)) → Contains events (Done b key (Gives place y)) → x ≡ y
  nodes_agree events nodes a b key place x y r c d =
      let p = ((run_gives_front events nodes a key r).given place x).0 c in
      let u = ((run_gives_front events nodes b key r).given place y).0 d in
      let e : Some x ≡ Some y = sym p.there ∙ u.there in
      cc
