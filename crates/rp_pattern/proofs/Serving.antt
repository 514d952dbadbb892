-- Which ways serve for those that are given up.
use Rattle.std.proofs.Common.{◌≡◌, ◌⊎◌, inl, inr, ℕ, zero, suc, ◌+◌, ◌<◌, ◌≤◌, Bool, true, false, ◌&&◌, ◌||◌, IsTrue, nat_lt, List, [], ◌∷◌, drop, length, Option, Some, None, IfSome, refl, sym, ap, ◌∙◌, subst, arith, length-append}
use Rattle.std.proofs.lemmas.Bool.Decides.{nat_tests}
use Rattle.std.proofs.lemmas.List.{length-map}
use Rattle.rp_words.specs.declared.word.End.{End}
use Rattle.rp_words.specs.declared.word.Label.{Label}
use Rattle.rp_words.specs.Mapping.{preceded}
use Rattle.rp_words.specs.Later.{IsLater, AtEachLater}
use Rattle.rp_pattern.specs.declared.visited.Visited.{Visited}
use Rattle.rp_pattern.specs.Rests.{Rest, Way, left_at, stack_count, has_fewer, any_has_fewer, pushed, option_words, option_turns, HasDepth, StandsFor, Splits, TakesRow}
use Rattle.rp_pattern.specs.Ways.{Kept, IsAtWayPlace, kept_place_words, kept_place_left}
use Rattle.rp_pattern.specs.Visited.{AreServed, was_at, was_at_option}

-- ---- tests of ways

both_less : (a b c d : ℕ) → IsTrue (nat_lt a b && nat_lt c d) → (a < b) × (c < d)
both_less a b c d h = go (nat_lt a b) (nat_lt c d) refl refl h
  where
    go : (x y : Bool) → nat_lt a b ≡ x → nat_lt c d ≡ y → IsTrue (x && y) → (a < b) × (c < d)
    go true true p q h = (grind (arith, nat_tests), grind (arith, nat_tests))
    go true false p q h = absurd cc
    go false y p q h = absurd cc

less_both : (a b c d : ℕ) → a < b → c < d → IsTrue (nat_lt a b && nat_lt c d)
less_both a b c d h k = go (nat_lt a b) (nat_lt c d) refl refl
  where
    go : (x y : Bool) → nat_lt a b ≡ x → nat_lt c d ≡ y → IsTrue (x && y)
    go true true p q = refl
    go true false p q = absurd (grind (arith, nat_tests))
    go false y p q = absurd (grind (arith, nat_tests))

either_is : (a b : Bool) → IsTrue (a || b) → IsTrue a ⊎ IsTrue b
either_is true b h = inl refl
either_is false b h = inr h

is_either : (a b : Bool) → IsTrue a ⊎ IsTrue b → IsTrue (a || b)
is_either true b h = refl
is_either false b (inl h) = absurd cc
is_either false b (inr h) = h

module _ (n : ℕ) (e : End) (s : ℕ) where
  fewer_first : (a : ℕ) (w : Way) (ws : List Way) → 0 < length ((w.rest.left n e).0 (s + w.depth)) → left_at (w.rest.left n e) (s + w.depth) < a → IsTrue (any_has_fewer a n e s (w ∷ ws))
  fewer_first a w ws some less = is_either (has_fewer a n e s w) (any_has_fewer a n e s ws) (inl (less_both 0 (length ((w.rest.left n e).0 (s + w.depth))) (left_at (w.rest.left n e) (s + w.depth)) a some less))

  fewer_behind : (a : ℕ) (w : Way) (ws : List Way) → IsTrue (any_has_fewer a n e s ws) → IsTrue (any_has_fewer a n e s (w ∷ ws))
  fewer_behind a w ws h = is_either (has_fewer a n e s w) (any_has_fewer a n e s ws) (inr h)

  fewer_cases : (a : ℕ) (w : Way) (ws : List Way) → IsTrue (any_has_fewer a n e s (w ∷ ws)) →
      ((0 < length ((w.rest.left n e).0 (s + w.depth))) × (left_at (w.rest.left n e) (s + w.depth) < a)) ⊎ IsTrue (any_has_fewer a n e s ws)
  fewer_cases a w ws h = go (either_is (has_fewer a n e s w) (any_has_fewer a n e s ws) h)
    where
      go : IsTrue (has_fewer a n e s w) ⊎ IsTrue (any_has_fewer a n e s ws) → ((0 < length ((w.rest.left n e).0 (s + w.depth))) × (left_at (w.rest.left n e) (s + w.depth) < a)) ⊎ IsTrue (any_has_fewer a n e s ws)
      go (inl k) = inl (both_less 0 (length ((w.rest.left n e).0 (s + w.depth))) (left_at (w.rest.left n e) (s + w.depth)) a k)
      go (inr k) = inr k

  pub fewer_more : (a b : ℕ) (ws : List Way) → a ≤ b → IsTrue (any_has_fewer a n e s ws) → IsTrue (any_has_fewer b n e s ws)
  fewer_more a b [] le h = h
  fewer_more a b (w ∷ ws) le h = go (fewer_more a b ws le) (fewer_cases a w ws h)
    where
      go : (IsTrue (any_has_fewer a n e s ws) → IsTrue (any_has_fewer b n e s ws)) → ((0 < length ((w.rest.left n e).0 (s + w.depth))) × (left_at (w.rest.left n e) (s + w.depth) < a)) ⊎ IsTrue (any_has_fewer a n e s ws) → IsTrue (any_has_fewer b n e s (w ∷ ws))
      go others (inl k) = fewer_first b w ws k.0 (omega (arith, k.1, le))
      go others (inr k) = fewer_behind b w ws (others k)

  -- among these ways there is a word
  pub fewer_counts : (a : ℕ) (ws : List Way) → IsTrue (any_has_fewer a n e s ws) → 0 < stack_count n e s ws
  fewer_counts a [] h = absurd cc
  fewer_counts a (w ∷ ws) h = go (fewer_counts a ws) (fewer_cases a w ws h)
    where
      go : (IsTrue (any_has_fewer a n e s ws) → 0 < stack_count n e s ws) → ((0 < length ((w.rest.left n e).0 (s + w.depth))) × (left_at (w.rest.left n e) (s + w.depth) < a)) ⊎ IsTrue (any_has_fewer a n e s ws) → 0 < stack_count n e s (w ∷ ws)
      go others (inl k) = omega (arith, k.0)
      go others (inr k) = omega (arith, others k)

  pub fewer_over : (a d : ℕ) (r : Option Rest) (ws : List Way) → IsTrue (any_has_fewer a n e s ws) → IsTrue (any_has_fewer a n e s (pushed d r ws))
  fewer_over a d None ws h = h
  fewer_over a d (Some r) ws h = fewer_behind a (record { depth = d; rest = r }) ws h

  fewer_pushed : (a d : ℕ) (r : Option Rest) (ws : List Way) → 0 < length (option_words n e r (s + d)) → option_turns n e r (s + d) + length (option_words n e r (s + d)) < a → IsTrue (any_has_fewer a n e s (pushed d r ws))
  fewer_pushed a d None ws some less = absurd (omega (arith, some))
  fewer_pushed a d (Some r) ws some less = fewer_first a (record { depth = d; rest = r }) ws some less

  -- ---- ways in place of the first one

  -- what served still serves
  pub still_serves : (w : Way) (ws new : List Way) → ((a : ℕ) → 0 < length ((w.rest.left n e).0 (s + w.depth)) → left_at (w.rest.left n e) (s + w.depth) ≤ a → IsTrue (any_has_fewer a n e s new)) →
      ((a : ℕ) → IsTrue (any_has_fewer a n e s ws) → IsTrue (any_has_fewer a n e s new)) → (a : ℕ) → IsTrue (any_has_fewer a n e s (w ∷ ws)) → IsTrue (any_has_fewer a n e s new)
  still_serves w ws new first others a h = go (fewer_cases a w ws h)
    where
      go : ((0 < length ((w.rest.left n e).0 (s + w.depth))) × (left_at (w.rest.left n e) (s + w.depth) < a)) ⊎ IsTrue (any_has_fewer a n e s ws) → IsTrue (any_has_fewer a n e s new)
      go (inl k) = first a k.0 (omega (arith, k.1))
      go (inr k) = others a k

  -- a way that is served by one with fewer turns is served by the others
  pub served_by_others : (w : Way) (ws : List Way) → (0 < length ((w.rest.left n e).0 (s + w.depth)) → IsTrue (any_has_fewer (left_at (w.rest.left n e) (s + w.depth)) n e s (w ∷ ws))) →
      (a : ℕ) → 0 < length ((w.rest.left n e).0 (s + w.depth)) → left_at (w.rest.left n e) (s + w.depth) ≤ a → IsTrue (any_has_fewer a n e s ws)
  served_by_others w ws served a some le = go (fewer_cases (left_at (w.rest.left n e) (s + w.depth)) w ws (served some))
    where
      go : ((0 < length ((w.rest.left n e).0 (s + w.depth))) × (left_at (w.rest.left n e) (s + w.depth) < left_at (w.rest.left n e) (s + w.depth))) ⊎ IsTrue (any_has_fewer (left_at (w.rest.left n e) (s + w.depth)) n e s ws) → IsTrue (any_has_fewer a n e s ws)
      go (inl k) = absurd (omega (arith, k.1))
      go (inr k) = fewer_more (left_at (w.rest.left n e) (s + w.depth)) a ws le k

  -- without it a word follows where one did
  pub still_follows : (w : Way) (ws : List Way) → ((a : ℕ) → 0 < length ((w.rest.left n e).0 (s + w.depth)) → left_at (w.rest.left n e) (s + w.depth) ≤ a → IsTrue (any_has_fewer a n e s ws)) →
      0 < stack_count n e s (w ∷ ws) → 0 < stack_count n e s ws
  still_follows w ws served some = go (length ((w.rest.left n e).0 (s + w.depth))) refl
    where
      go : (k : ℕ) → length ((w.rest.left n e).0 (s + w.depth)) ≡ k → 0 < stack_count n e s ws
      go zero none = omega (arith, some, none)
      go (suc k) is = fewer_counts (left_at (w.rest.left n e) (s + w.depth)) ws (served (left_at (w.rest.left n e) (s + w.depth)) (omega (arith, is)) (omega arith))

-- ---- a way that was taken up

some_of : (a b : ℕ) → 0 < a + b → (0 < a) ⊎ (0 < b)
some_of zero b h = inr (omega (arith, h))
some_of (suc a) b h = inl (omega arith)

-- two others serve for the one that they stand for
pub split_serves : (n : ℕ) (e : End) (s n' : ℕ) (e' : End) (w : Way) (ws : List Way) (x y : Option Rest) → Splits n e (s + w.depth) w.rest x y → IsLater n e n' e' →
    (a : ℕ) → 0 < length ((w.rest.left n' e').0 (s + w.depth)) → left_at (w.rest.left n' e') (s + w.depth) ≤ a → IsTrue (any_has_fewer a n' e' s (pushed w.depth x (pushed w.depth y ws)))
split_serves n e s n' e' w ws x y split later a some le = go (some_of (length (option_words n' e' x i)) (length (option_words n' e' y i)) (omega (arith, long, some)))
  where
    i : ℕ
    i = s + w.depth

    long : length (option_words n' e' x (s + w.depth)) + length (option_words n' e' y (s + w.depth)) ≡ length ((w.rest.left n' e').0 (s + w.depth))
    long = sym (length-append (option_words n' e' x (s + w.depth)) (option_words n' e' y (s + w.depth))) ∙ ap length (split.words n' e' later)

    go : (0 < length (option_words n' e' x i)) ⊎ (0 < length (option_words n' e' y i)) → IsTrue (any_has_fewer a n' e' s (pushed w.depth x (pushed w.depth y ws)))
    go (inl k) = fewer_pushed n' e' s a w.depth x (pushed w.depth y ws) k (omega (arith, long, le, split.turns n' e' later))
    go (inr k) = fewer_over n' e' s a w.depth x (pushed w.depth y ws) (fewer_pushed n' e' s a w.depth y ws k (omega (arith, long, le, split.turns n' e' later)))

-- what follows a row serves for the way that maps it
pub row_serves : (n : ℕ) (e : End) (s n' : ℕ) (e' : End) (w : Way) (ws : List Way) (l : Label) (r : Option Rest) → TakesRow n e (s + w.depth) w.rest l → StandsFor n' e' (s + w.depth + 1) (w.rest.later n' e') r → IsLater n e n' e' →
    (a : ℕ) → 0 < length ((w.rest.left n' e').0 (s + w.depth)) → left_at (w.rest.left n' e') (s + w.depth) ≤ a → IsTrue (any_has_fewer a n' e' s (pushed (w.depth + 1) r ws))
row_serves n e s n' e' w ws l r takes stands later a some le =
    let at : s + (w.depth + 1) ≡ s + w.depth + 1 = omega arith in
    let count : length (option_words n' e' r (s + (w.depth + 1))) ≡ length ((w.rest.left n' e').0 (s + w.depth)) =
    ap (λ j. length (option_words n' e' r j)) at ∙ ap length stands.words
    ∙ sym (ap length (takes.words n' e' later.0) ∙ length-map ((w.rest.later n' e').0 (s + w.depth + 1)) (preceded (l ∷ []))) in
    let turns : 1 + option_turns n' e' r (s + (w.depth + 1)) ≡ (w.rest.left n' e').1 (s + w.depth) =
    ap (λ j. 1 + option_turns n' e' r j) at ∙ ap (λ k. 1 + k) stands.turns
    ∙ sym (takes.turns n' e' later.0) in
    fewer_pushed n' e' s a (w.depth + 1) r ws (omega (arith, count, some)) (omega (arith, count, turns, le))

-- ---- places that were come to

-- this place is served by these ways, over the known rows and whatever comes later
abbrev pub IsServed : ℕ → End → Kept → ℕ → List Way → ℕ → ℕ → Type 0
IsServed n e kept s ws q d = AtEachLater n e (λ n' e'. 0 < length (kept_place_words kept q n' e' (s + d)) → IsTrue (any_has_fewer (kept_place_left kept q n' e' (s + d)) n' e' s ws))

-- what served before still serves
abbrev pub KeepsServing : ℕ → End → ℕ → List Way → List Way → Type 0
KeepsServing n e s old new = AtEachLater n e (λ n' e'. (a : ℕ) → IsTrue (any_has_fewer a n' e' s old) → IsTrue (any_has_fewer a n' e' s new))

pub split_keeps : (n : ℕ) (e : End) (s : ℕ) (w : Way) (ws old new : List Way) (x y : Option Rest) → old ≡ w ∷ ws → new ≡ pushed w.depth x (pushed w.depth y ws) → Splits n e (s + w.depth) w.rest x y → KeepsServing n e s old new
split_keeps n e s w ws old new x y on now split n' e' later a h =
    subst (λ zs. IsTrue (any_has_fewer a n' e' s zs)) (sym now)
    (still_serves n' e' s w ws (pushed w.depth x (pushed w.depth y ws)) (split_serves n e s n' e' w ws x y split later)
    (λ b k. fewer_over n' e' s b w.depth x (pushed w.depth y ws) (fewer_over n' e' s b w.depth y ws k)) a (subst (λ zs. IsTrue (any_has_fewer a n' e' s zs)) on h))

pub row_keeps : (n : ℕ) (e : End) (s : ℕ) (w : Way) (ws old new : List Way) (l : Label) (r : Option Rest) → old ≡ w ∷ ws → new ≡ pushed (w.depth + 1) r ws → TakesRow n e (s + w.depth) w.rest l →
    ((n' : ℕ) (e' : End) → StandsFor n' e' (s + w.depth + 1) (w.rest.later n' e') r) → KeepsServing n e s old new
row_keeps n e s w ws old new l r on now takes stands n' e' later a h =
    subst (λ zs. IsTrue (any_has_fewer a n' e' s zs)) (sym now)
    (still_serves n' e' s w ws (pushed (w.depth + 1) r ws) (row_serves n e s n' e' w ws l r takes (stands n' e') later)
    (λ b k. fewer_over n' e' s b (w.depth + 1) r ws k) a (subst (λ zs. IsTrue (any_has_fewer a n' e' s zs)) on h))

pub drop_keeps : (n : ℕ) (e : End) (s : ℕ) (w : Way) (ws old : List Way) → old ≡ w ∷ ws →
    AtEachLater n e (λ n' e'. (a : ℕ) → 0 < length ((w.rest.left n' e').0 (s + w.depth)) → left_at (w.rest.left n' e') (s + w.depth) ≤ a → IsTrue (any_has_fewer a n' e' s ws)) → KeepsServing n e s old ws
drop_keeps n e s w ws old on serve n' e' later a h =
    still_serves n' e' s w ws ws (serve n' e' later) (λ b k. k) a (subst (λ zs. IsTrue (any_has_fewer a n' e' s zs)) on h)

-- none was come to
pub none_served : (v : Visited) (k : Kept) (s : ℕ) (ws : List Way) → ((q d : ℕ) → was_at v q d ≡ false) → AreServed v k s ws
none_served v k s ws none n e later q d at some = absurd (let no : true ≡ false = sym at ∙ none q d in cc)

pub still_served : (old new : Visited) (k k' : Kept) (s : ℕ) (ws ws' : List Way) (n : ℕ) (e : End) → old.known ≡ n → old.end ≡ e → new.known ≡ old.known → new.end ≡ old.end → k' ≡ k →
    ((q d : ℕ) → was_at new q d ≡ true → (was_at old q d ≡ true) ⊎ IsServed n e k s ws' q d) → KeepsServing n e s ws ws' → AreServed old k s ws → AreServed new k' s ws'
still_served old new k k' s ws ws' n e known end same_known same_end kept adds keeps served =
    subst (λ z. AreServed new z s ws') (sym kept) (λ n' e' later q d at some.
    let later' : IsLater n e n' e' = subst (λ m. IsLater m e n' e') (same_known ∙ known) (subst (λ f. IsLater new.known f n' e') (same_end ∙ end) later) in
    let before : IsLater old.known old.end n' e' = subst (λ m. IsLater m old.end n' e') same_known (subst (λ f. IsLater new.known f n' e') same_end later) in
    go n' e' q d later' before some (adds q d at))
  where
    go : (n' : ℕ) (e' : End) (q d : ℕ) → IsLater n e n' e' → IsLater old.known old.end n' e' → 0 < length (kept_place_words k q n' e' (s + d)) → (was_at old q d ≡ true) ⊎ IsServed n e k s ws' q d →
        IsTrue (any_has_fewer (kept_place_left k q n' e' (s + d)) n' e' s ws')
    go n' e' q d later before some (inl h) = keeps n' e' later (kept_place_left k q n' e' (s + d)) (served n' e' before q d h some)
    go n' e' q d later before some (inr h) = h n' e' later some

-- over rows that come later
pub served_later : (old new : Visited) (k : Kept) (s : ℕ) (ws : List Way) (n : ℕ) (e : End) → new.known ≡ n → new.end ≡ e →
    ((q d : ℕ) → was_at new q d ≡ true → IsLater old.known old.end n e × (was_at old q d ≡ true)) → AreServed old k s ws → AreServed new k s ws
served_later old new k s ws n e known end only served n' e' later q d at some =
    let o = only q d at in
    let then_later : IsLater n e n' e' = subst (λ m. IsLater m e n' e') known (subst (λ f. IsLater new.known f n' e') end later) in
    served n' e' (on_later old.known n n' old.end e e' o.0 then_later) q d o.1 some
  where
    on_later : (n n' n'' : ℕ) (e e' e'' : End) → IsLater n e n' e' → IsLater n' e' n'' e'' → IsLater n e n'' e''
    on_later n n' n'' e e' e'' a b = (omega (arith, a.0, b.0), λ h. ((b.1 (a.1 h).1).0 ∙ (a.1 h).0, (b.1 (a.1 h).1).1))

-- the place of the first way

abbrev head_of : Way → List Way → Way
head_of w [] = w
head_of w (v ∷ vs) = v

module _ (depth : ℕ) (ws : List Way) (h : HasDepth depth ws (drop 1 ws)) (p : ℕ) (k : Kept) (at : IsAtWayPlace p k ws) where
  first_is : at.way ≡ record { depth = depth; rest = h.rest }
  first_is = ap (head_of at.way) (sym at.on ∙ h.is)

  pub first_place_words : (n : ℕ) (e : End) (row : ℕ) → (h.rest.left n e).0 row ≡ kept_place_words k p n e row
  first_place_words n e row = sym (ap (λ w. (w.rest.left n e).0 row) first_is) ∙ at.words n e row

  pub first_place_left : (n : ℕ) (e : End) (row : ℕ) → left_at (h.rest.left n e) row ≡ kept_place_left k p n e row
  first_place_left n e row = sym (ap (λ w. left_at (w.rest.left n e) row) first_is) ∙ at.takes n e row

  pub first_place_turns : (n : ℕ) (e : End) (row : ℕ) → 0 < (h.rest.left n e).1 row
  first_place_turns n e row = subst (λ w. 0 < (w.rest.left n e).1 row) first_is (at.turns n e row)

-- the place of the first way, which was taken up, is served by what came of it
pub noted_served : (place : Option ℕ) (depth : ℕ) (ws new : List Way) (k : Kept) (s n : ℕ) (e : End) → IfSome place (λ p. IsAtWayPlace p k ws) → (h : HasDepth depth ws (drop 1 ws)) →
    AtEachLater n e (λ n' e'. (a : ℕ) → 0 < length ((h.rest.left n' e').0 (s + depth)) → left_at (h.rest.left n' e') (s + depth) ≤ a → IsTrue (any_has_fewer a n' e' s new)) →
    (q d : ℕ) → (place ≡ Some q) × (d ≡ depth) → IsServed n e k s new q d
noted_served place depth ws new k s n e at h serve q d is n' e' later =
    let here : IsAtWayPlace q k ws = subst (λ z. IfSome z (λ p. IsAtWayPlace p k ws)) is.0 at in
    subst (λ z. 0 < length (kept_place_words k q n' e' (s + z)) → IsTrue (any_has_fewer (kept_place_left k q n' e' (s + z)) n' e' s new)) (sym is.1)
    (λ some. serve n' e' later (kept_place_left k q n' e' (s + depth))
    (omega (arith, some, ap length (first_place_words depth ws h q k here n' e' (s + depth))))
    (omega (arith, first_place_left depth ws h q k here n' e' (s + depth))))

-- each place that is noted is one that was come to before, or is served
pub either_served : (old new : Visited) (n : ℕ) (e : End) (k : Kept) (s : ℕ) (ws : List Way) (place : Option ℕ) (depth : ℕ) → ((q d : ℕ) → was_at new q d ≡ true → (was_at old q d ≡ true) ⊎ ((place ≡ Some q) × (d ≡ depth))) →
    ((q d : ℕ) → (place ≡ Some q) × (d ≡ depth) → IsServed n e k s ws q d) → (q d : ℕ) → was_at new q d ≡ true → (was_at old q d ≡ true) ⊎ IsServed n e k s ws q d
either_served old new n e k s ws place depth only served q d at = go (only q d at)
  where
    go : (was_at old q d ≡ true) ⊎ ((place ≡ Some q) × (d ≡ depth)) → (was_at old q d ≡ true) ⊎ IsServed n e k s ws q d
    go (inl h) = inl h
    go (inr h) = inr (served q d h)

-- the place of the first way was come to before, so the others serve for it
pub visited_served : (v : Visited) (place : Option ℕ) (depth : ℕ) (ws : List Way) (k : Kept) (s n : ℕ) (e : End) → v.known ≡ n → v.end ≡ e → was_at_option v place depth ≡ true →
    IfSome place (λ p. IsAtWayPlace p k ws) → (h : HasDepth depth ws (drop 1 ws)) → AreServed v k s ws →
    AtEachLater n e (λ n' e'. (a : ℕ) → 0 < length ((h.rest.left n' e').0 (s + depth)) → left_at (h.rest.left n' e') (s + depth) ≤ a → IsTrue (any_has_fewer a n' e' s (drop 1 ws)))
visited_served v None depth ws k s n e known end was at h served n' e' later = absurd cc
visited_served v (Some p) depth ws k s n e known end was at h served n' e' later =
    let before : IsLater v.known v.end n' e' = subst (λ m. IsLater m v.end n' e') (sym known) (subst (λ f. IsLater n f n' e') (sym end) later) in
    let left = first_place_left depth ws h p k at n' e' (s + depth) in
    served_by_others n' e' s (record { depth = depth; rest = h.rest }) (drop 1 ws)
    (λ some. subst (λ zs. IsTrue (any_has_fewer (left_at (h.rest.left n' e') (s + depth)) n' e' s zs)) h.is
    (subst (λ a. IsTrue (any_has_fewer a n' e' s ws)) (sym left)
    (served n' e' before p depth was (omega (arith, some, ap length (first_place_words depth ws h p k at n' e' (s + depth)))))))

pub visited_takes : (v : Visited) (place : Option ℕ) (depth : ℕ) (ws : List Way) (k : Kept) → was_at_option v place depth ≡ true →
    IfSome place (λ p. IsAtWayPlace p k ws) → (h : HasDepth depth ws (drop 1 ws)) → (n : ℕ) (e : End) (row : ℕ) → 0 < (h.rest.left n e).1 row
visited_takes v None depth ws k was at h n e row = absurd cc
visited_takes v (Some p) depth ws k was at h n e row = first_place_turns depth ws h p k at n e row
