-- Every schedule gives fronts of the answer.
use Rattle.std.proofs.Common.{◌≡◌, ◌≢◌, ◌↔◌, ◌⊎◌, inl, inr, ℕ, zero, suc, ◌+◌, ◌-◌, ◌≤◌, true, List, [], ◌∷◌, ◌++◌, length, Some, refl, sym, ap, ◌∙◌, subst, arith}
use Rattle.std.specs.Prelude.{slice_get, Contains}
use Rattle.std.proofs.lemmas.Bool.{cases_eq}
use Rattle.std.proofs.lemmas.Option.{slice_get_within}
use Rattle.std.proofs.lemmas.List.Elements.{Contains-append_left, Contains-push, Contains-push_cases}
use Rattle.rp_words.specs.declared.word.End.TheVariants.{Closed}
use Rattle.rp_schedules.specs.Schedules.{KnownAnswer, Grows, Standing, nothing_taken, known_of, Act, Gives, Idles, Step, takes, closes, gives, idles, pauses, World, Event, Done, Saved, Restarted, BegunAnew, Refused, StaysElsewhere, Becomes, Happens, done, saves, restarts, begins_anew, refused, Schedule, none, more, IsAtPlace, GivesFront}
use Rattle.rp_schedules.proofs.Prefixes.{prefix_length, prefix_get}
use Rattle.rp_schedules.proofs.Fronts.{number_added, known_grows, known_within, known_whole}

module _ {Key Row Item : Type 0} (key_cases : (j k : Key) → (j ≡ k) ⊎ (j ≢ k)) (known : KnownAnswer Row Item) (whole : Key → List Row) (grows : Grows known) (a : ℕ) (key : Key) where
  abbrev answer : List Item
  answer = known (whole key) Closed

  -- no more was given than is known, and no more than `m`
  record IsSound (m : ℕ) (s : Standing) : Type 0 where
    small : s.given ≤ m
    told : s.given ≤ length (known_of known (whole key) s)

  sound_later : (m n : ℕ) (s : Standing) → m ≤ n → IsSound m s → IsSound n s
  sound_later m n s h k = let small : s.given ≤ n = omega (arith, k.small) in record { small = small; told = k.told }

  -- an event that gives nothing of this partition at this node
  abbrev IsSilent : Event Key Item → Type 0
  IsSilent e = (place : ℕ) (x : Item) → e ≢ Done a key (Gives place x)

  record Holds (events : List (Event Key Item)) (w : World Key Standing) : Type 0 where
    count : ℕ
    within : count ≤ length answer
    given : (place : ℕ) (x : Item) → Contains events (Done a key (Gives place x)) ↔ IsAtPlace count answer place x
    now : IsSound count (w.now a key)
    saved : (i : ℕ) (state : Key → Standing) → slice_get (w.saved a) i ≡ Some state → IsSound count (state key)

  silent : {events : List (Event Key Item)} {old : World Key Standing} (e : Event Key Item) (new : World Key Standing) (h : Holds events old) → IsSilent e
      → IsSound h.count (new.now a key) → ((i : ℕ) (state : Key → Standing) → slice_get (new.saved a) i ≡ Some state → IsSound h.count (state key))
      → Holds (events ++ e ∷ []) new
  silent {events = events} e new h quiet now saved = record {
    count = h.count;
    within = h.within;
    given = λ place x. (
      (λ c. elim (Contains-push_cases events e (Done a key (Gives place x)) c) [ inl d ↦ (h.given place x).0 d | inr d ↦ absurd (quiet place x d) ]),
      (λ d. Contains-append_left events (e ∷ []) (Done a key (Gives place x)) ((h.given place x).1 d)),
    );
    now = now;
    saved = saved;
  }

  same_sound : (m : ℕ) (s t : Standing) → t ≡ s → IsSound m s → IsSound m t
  same_sound m s t e k = subst (λ z. IsSound m z) (sym e) k

  -- what a step that gives nothing leaves
  kept : (m : ℕ) (s t : Standing) → t.given ≡ s.given → ((k : ℕ) → s.taken k ≡ true → t.taken k ≡ true) → (s.closed ≡ true → t.closed ≡ true) → IsSound m s → IsSound m t
  kept m s t e wider shut k =
      let l = prefix_length (known_of known (whole key) s) (known_of known (whole key) t) (known_grows known (whole key) grows s t wider shut) in
      let i = k.small in let j = k.told in
      record { small = omega arith; told = omega arith }

  -- the next item, given
  module _ (s : Standing) (x : Item) (at : slice_get (known_of known (whole key) s) s.given ≡ Some x) where
    there : slice_get answer s.given ≡ Some x
    there = prefix_get (known_of known (whole key) s) answer s.given x (known_within known (whole key) grows s) at

    abbrev given_now : Event Key Item
    given_now = Done a key (Gives (s.given + 1) x)

    at_place : (m place : ℕ) (y : Item) → s.given + 1 ≤ m → given_now ≡ Done a key (Gives place y) → IsAtPlace m answer place y
    at_place m place y h e =
        let p : s.given + 1 ≡ place = cc in
        let q : x ≡ y = cc in
        let r : place - 1 ≡ s.given = omega arith in
        record { least = omega arith; greatest = omega arith; there = ap (slice_get answer) r ∙ there ∙ ap Some q }

    sound_after : (m : ℕ) → s.given + 1 ≤ m → IsSound m (record s { given = s.given + 1 })
    sound_after m h = let w = slice_get_within (known_of known (whole key) s) s.given x at in record { small = h; told = omega arith }

    module _ {events : List (Event Key Item)} {old : World Key Standing} (new : World Key Standing) (h : Holds events old) (next : new.now a key ≡ record s { given = s.given + 1 })
        (saved : (i : ℕ) (state : Key → Standing) → slice_get (new.saved a) i ≡ Some state → IsSound h.count (state key)) where
      gave_again : s.given + 1 ≤ h.count → Holds (events ++ given_now ∷ []) new
      gave_again less = record {
        count = h.count;
        within = h.within;
        given = λ place y. (
          (λ c. elim (Contains-push_cases events given_now (Done a key (Gives place y)) c) [ inl d ↦ (h.given place y).0 d | inr d ↦ at_place h.count place y less d ]),
          (λ d. Contains-append_left events (given_now ∷ []) (Done a key (Gives place y)) ((h.given place y).1 d)),
        );
        now = same_sound h.count (record s { given = s.given + 1 }) (new.now a key) next (sound_after h.count less);
        saved = saved;
      }

      wider : (place : ℕ) (y : Item) → IsAtPlace h.count answer place y → IsAtPlace (h.count + 1) answer place y
      wider place y d = let l = d.greatest in record { least = d.least; greatest = omega arith; there = d.there }

      first_from : s.given ≡ h.count → (place : ℕ) (y : Item) → IsAtPlace (h.count + 1) answer place y → Contains (events ++ given_now ∷ []) (Done a key (Gives place y))
      first_from last place y d = elim (cases_eq place (s.given + 1)) [
        | inl e ↦
            (let r : place - 1 ≡ s.given = omega arith in
            let q : Some x ≡ Some y = sym there ∙ ap (slice_get answer) (sym r) ∙ d.there in
            let u : x ≡ y = cc in
            subst (λ (z : Event Key Item). Contains (events ++ given_now ∷ []) z) (ap (λ z. Done a key (Gives z x)) (sym e) ∙ ap (λ z. Done a key (Gives place z)) u) (Contains-push events given_now))
        | inr e ↦
            (let l = d.greatest in
            let k : place ≤ h.count = grind arith in
            Contains-append_left events (given_now ∷ []) (Done a key (Gives place y)) ((h.given place y).1 (record { least = d.least; greatest = k; there = d.there })))
      ]

      gave_first : s.given ≡ h.count → Holds (events ++ given_now ∷ []) new
      gave_first last = record {
        count = h.count + 1;
        within = let w = slice_get_within answer s.given x there in omega arith;
        given = λ place y. (
          (λ c. elim (Contains-push_cases events given_now (Done a key (Gives place y)) c) [ inl d ↦ wider place y ((h.given place y).0 d) | inr d ↦ at_place (h.count + 1) place y (omega arith) d ]),
          first_from last place y,
        );
        now = same_sound (h.count + 1) (record s { given = s.given + 1 }) (new.now a key) next (sound_after (h.count + 1) (omega arith));
        saved = λ i state e. sound_later h.count (h.count + 1) (state key) (omega arith) (saved i state e);
      }

      gave : s.given ≤ h.count → Holds (events ++ given_now ∷ []) new
      gave small = elim (cases_eq s.given h.count) [ inl e ↦ gave_first e | inr e ↦ gave_again (grind arith) ]

  -- ---- each event

  saved_same : {events : List (Event Key Item)} {old : World Key Standing} (new : World Key Standing) (h : Holds events old) → new.saved a ≡ old.saved a
      → (i : ℕ) (state : Key → Standing) → slice_get (new.saved a) i ≡ Some state → IsSound h.count (state key)
  saved_same new h e i state g = h.saved i state (ap (λ z. slice_get z i) (sym e) ∙ g)

  -- a step of this partition at this node
  stepped : {events : List (Event Key Item)} {old : World Key Standing} (new : World Key Standing) (h : Holds events old) (s t : Standing) (act : Act Item)
      → Step known (whole key) s act t → s ≡ old.now a key → t ≡ new.now a key → new.saved a ≡ old.saved a → Holds (events ++ Done a key act ∷ []) new
  stepped {old = old} new h s t act (takes {k = k} l m) es et sv =
      silent (Done a key act) new h (λ place x e. cc)
      (same_sound h.count t (new.now a key) (sym et) (kept h.count s t refl (number_added k s.taken) (λ e. e) (same_sound h.count (old.now a key) s es h.now)))
      (saved_same new h sv)
  stepped {old = old} new h s t act closes es et sv =
      silent (Done a key act) new h (λ place x e. cc)
      (same_sound h.count t (new.now a key) (sym et) (kept h.count s t refl (λ k e. e) (λ e. refl) (same_sound h.count (old.now a key) s es h.now)))
      (saved_same new h sv)
  stepped {old = old} new h s t act (gives {x = x} at) es et sv = gave s x at new h (sym et) (saved_same new h sv) (same_sound h.count (old.now a key) s es h.now).small
  stepped {old = old} new h s t act (idles i) es et sv =
      silent (Done a key act) new h (λ place x e. cc)
      (same_sound h.count t (new.now a key) (sym et) (same_sound h.count (old.now a key) s es h.now))
      (saved_same new h sv)
  stepped {old = old} new h s t act pauses es et sv =
      silent (Done a key act) new h (λ place x e. cc)
      (same_sound h.count t (new.now a key) (sym et) (same_sound h.count (old.now a key) s es h.now))
      (saved_same new h sv)

  -- the node's partition is as before
  untouched : {events : List (Event Key Item)} {old : World Key Standing} (e : Event Key Item) (new : World Key Standing) (h : Holds events old) → IsSilent e → new.now a key ≡ old.now a key → new.saved a ≡ old.saved a → Holds (events ++ e ∷ []) new
  untouched {old = old} e new h quiet same sv = silent e new h quiet (same_sound h.count (old.now a key) (new.now a key) same h.now) (saved_same new h sv)

  begun : (m : ℕ) → IsSound m nothing_taken
  begun m = record { small = omega arith; told = omega arith }

  here : {events : List (Event Key Item)} {old : World Key Standing} (b : ℕ) (k : Key) (act : Act Item) (new : World Key Standing) → Holds events old → Step known (whole k) (old.now b k) act (new.now b k) → StaysElsewhere b k old new → b ≡ a → k ≡ key → Holds (events ++ Done b k act ∷ []) new
  here {events = events} {old = old} b k act new h step stays i j =
      let at : Step known (whole key) (old.now b k) act (new.now b k) = subst (λ (z : Key). Step known (whole z) (old.now b k) act (new.now b k)) j step in
      subst (λ (z : Event Key Item). Holds (events ++ z ∷ []) new) (ap (λ z. Done z key act) (sym i) ∙ ap (λ z. Done b z act) (sym j))
      (stepped new h (old.now b k) (new.now b k) act at (ap (λ z. old.now z k) i ∙ ap (old.now a) j) (ap (λ z. new.now z k) i ∙ ap (new.now a) j) (ap (λ z. z a) stays.saves))

  -- the node's state is one that was saved, or a fresh one
  put_back : {events : List (Event Key Item)} {old : World Key Standing} (e : Event Key Item) (b : ℕ) (state : Key → Standing) (new : World Key Standing) (h : Holds events old) → IsSilent e → (b ≡ a → IsSound h.count (state key)) → Becomes b state old new → Holds (events ++ e ∷ []) new
  put_back e b state new h quiet sound n = elim (cases_eq b a) [
    | inl i ↦ silent e new h quiet (same_sound h.count (state key) (new.now a key) (ap (λ z. new.now z key) (sym i) ∙ ap (λ z. z key) n.state) (sound i)) (saved_same new h (ap (λ z. z a) n.saves))
    | inr i ↦ untouched e new h quiet (ap (λ z. z key) (n.nodes a (λ d. i (sym d)))) (ap (λ z. z a) n.saves)
  ]

  one_more : (m : ℕ) (new : List (Key → Standing)) (first : Key → Standing) (others : List (Key → Standing)) → new ≡ first ∷ others → IsSound m (first key)
      → ((i : ℕ) (state : Key → Standing) → slice_get others i ≡ Some state → IsSound m (state key)) → (i : ℕ) (state : Key → Standing) → slice_get new i ≡ Some state → IsSound m (state key)
  one_more m new first others e f o i state g = go i (ap (λ z. slice_get z i) (sym e) ∙ g)
    where
      go : (i : ℕ) → slice_get (first ∷ others) i ≡ Some state → IsSound m (state key)
      go zero d = let q : first ≡ state = cc in same_sound m (first key) (state key) (ap (λ z. z key) (sym q)) f
      go (suc i) d = o i state d

  happened : {events : List (Event Key Item)} {old : World Key Standing} (e : Event Key Item) (new : World Key Standing) → Holds events old → Happens known whole old e new → Holds (events ++ e ∷ []) new
  happened {old = old} e new h (done {a = b} {key = k} {act = act} step stays) = elim (cases_eq b a) [
    | inl i ↦ elim (key_cases k key) [
      | inl j ↦ here b k act new h step stays i j
      | inr j ↦ untouched (Done b k act) new h (λ place x d. j (cc)) (ap (λ z. new.now z key) (sym i) ∙ stays.keys key (λ d. j (sym d)) ∙ ap (λ z. old.now z key) i) (ap (λ z. z a) stays.saves)
    ]
    | inr i ↦ untouched (Done b k act) new h (λ place x d. i (cc)) (ap (λ z. z key) (stays.nodes a (λ d. i (sym d)))) (ap (λ z. z a) stays.saves)
  ]
  happened {old = old} e new h (saves {a = b} s) = elim (cases_eq b a) [
    | inl i ↦ silent (Saved b) new h (λ place x d. cc) (same_sound h.count (old.now a key) (new.now a key) (ap (λ z. z a key) s.now) h.now)
        (one_more h.count (new.saved a) (old.now a) (old.saved a) (ap new.saved (sym i) ∙ s.state ∙ ap (λ z. old.now z ∷ old.saved z) i) h.now h.saved)
    | inr i ↦ untouched (Saved b) new h (λ place x d. cc) (ap (λ z. z a key) s.now) (s.nodes a (λ d. i (sym d)))
  ]
  happened {old = old} e new h (restarts {a = b} {which = which} {state = state} s n) = put_back (Restarted b which) b state new h (λ place x d. cc) (λ i. h.saved which state (ap (λ z. slice_get (old.saved z) which) (sym i) ∙ s)) n
  happened e new h (begins_anew {a = b} n) = put_back (BegunAnew b) b (λ _. nothing_taken) new h (λ place x d. cc) (λ i. begun h.count) n
  happened e new h (refused {a = b}) = untouched (Refused b) new h (λ place x d. cc) refl refl

  nothing_given : (place : ℕ) (x : Item) → IsAtPlace 0 answer place x → Contains [] (Done a key (Gives place x))
  nothing_given place x d = let l = d.least in let g = d.greatest in absurd (omega arith)

  given_nothing : (place : ℕ) (x : Item) → Contains [] (Done a key (Gives place x)) → IsAtPlace 0 answer place x
  given_nothing place x c = let l = c.1 in absurd (omega arith)

  holds : {events : List (Event Key Item)} {w : World Key Standing} → Schedule known whole events w → Holds events w
  holds none = record {
    count = 0;
    within = omega arith;
    given = λ place x. (given_nothing place x, nothing_given place x);
    now = begun 0;
    saved = λ i state e. absurd (cc);
  }
  holds (more {e = e} {new = new} s h) = happened e new (holds s) h

  idle_at : (s t : Standing) (act : Act Item) → Step known (whole key) s act t → act ≡ Idles → s.given ≡ length (known_of known (whole key) s)
  idle_at s t act (takes l m) e = absurd (cc)
  idle_at s t act closes e = absurd (cc)
  idle_at s t act (gives at) e = absurd (cc)
  idle_at s t act (idles i) e = i
  idle_at s t act pauses e = absurd (cc)

  pub gives_front : (events : List (Event Key Item)) (w : World Key Standing) → Schedule known whole events w → GivesFront known whole events w a key
  gives_front events w s =
      let h = holds s in
      record {
        count = h.count;
        within = h.within;
        given = h.given;
        all = λ full idle.
            (let i = idle_at (w.now a key) (w.now a key) Idles idle refl in
            let l = ap length (known_whole known (whole key) grows (w.now a key) full) in
            let n = h.now.small in
            let m = h.within in
            omega arith);
      }
