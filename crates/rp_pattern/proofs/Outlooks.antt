-- What taking up a choice of an outlook does to the words and turns ahead.
use Rattle.std.proofs.Common.{◌≡◌, ◌↔◌, ℕ, ◌+◌, ◌-◌, ◌^◌, ◌<◌, ◌≤◌, IsTrue, List, [], ◌∷◌, length, Option, Some, None, Result, Ok, Err, IfOk, refl, sym, ap, ◌∙◌, subst, arith, length-append}
use Rattle.std.proofs.lemmas.List.{length-map}
use Rattle.std.specs.declared.alloc.AllocError.{AllocError}
use Rattle.rp_words.specs.declared.word.End.{End}
use Rattle.rp_words.specs.declared.word.Label.{Label}
use Rattle.rp_pattern.specs.declared.outlook.Outlook.{Outlook}
use Rattle.rp_pattern.specs.declared.outlook.Sight.{Sight}
use Rattle.rp_pattern.specs.declared.outlook.Sight.TheVariants.{Further, Word, Nothing}
use Rattle.rp_words.specs.Mapping.{Mapping, preceded}
use Rattle.rp_words.specs.Later.{IsLater}
use Rattle.rp_pattern.specs.Rests.{Rest, Way, left_at, any_has_fewer, stack_left, stack_count, rises, pushed, option_words, option_turns, StandsFor, Splits, TakesRow}
use Rattle.rp_pattern.specs.Ways.{stack_of}
use Rattle.rp_pattern.specs.Outlooks.{words_ahead, turns_ahead, LooksFurther, LooksAlike, SeenAs}
use Rattle.rp_pattern.proofs.ChoiceStacks.{pushed_left, rises_first, rises_more}
use Rattle.rp_pattern.proofs.Serving.{still_follows}

pub pushed_count : (n : ℕ) (e : End) (s d : ℕ) (r : Option Rest) (cs : List Way) → stack_count n e s (pushed d r cs) ≡ length (option_words n e r (s + d)) + stack_count n e s cs
pushed_count n e s d None cs = omega arith
pushed_count n e s d (Some r) cs = refl

-- its choices, the preferred one first
pub words_ahead_is : (o : Outlook) (s : ℕ) (cs : List Way) (n : ℕ) (e : End) → o.start ≡ s → (stack_of o.ways) ≡ cs → words_ahead o n e ≡ stack_count n e s cs
unfolding words_ahead
words_ahead_is o s cs n e h k = ap (λ z. stack_count n e z (stack_of o.ways)) h ∙ ap (stack_count n e s) k

pub turns_ahead_is : (o : Outlook) (s : ℕ) (cs : List Way) (n : ℕ) (e : End) → o.start ≡ s → (stack_of o.ways) ≡ cs → turns_ahead o n e ≡ stack_left n e s cs
unfolding turns_ahead
turns_ahead_is o s cs n e h k = ap (λ z. stack_left n e z (stack_of o.ways)) h ∙ ap (stack_left n e s) k

some_alike : (a b : ℕ) → a ≡ b → (0 < a) ↔ (0 < b)
some_alike a b is = (λ h. omega (arith, is, h), λ h. omega (arith, is, h))

module _ (old new : Outlook) (t : Way) (cs : List Way) (n : ℕ) (e : End) (on : (stack_of old.ways) ≡ t ∷ cs) (start : new.start ≡ old.start) where
  pub further_split : (x y : Option Rest) → (stack_of new.ways) ≡ pushed t.depth x (pushed t.depth y cs) → Splits n e (old.start + t.depth) t.rest x y → LooksFurther old new n e
  further_split x y now w =
      let s = old.start in
      let i : ℕ = s + t.depth in
      let ds : List Way = pushed t.depth y cs in
      let long : (n' : ℕ) (e' : End) → IsLater n e n' e' → length (option_words n' e' x i) + length (option_words n' e' y i) ≡ length ((t.rest.left n' e').0 i) = λ n' e' h.
      sym (length-append (option_words n' e' x i) (option_words n' e' y i)) ∙ ap length (w.words n' e' h) in
      record {
        same = λ n' e' h. some_alike (words_ahead new n' e') (words_ahead old n' e')
            (omega (arith, words_ahead_is new s (pushed t.depth x ds) n' e' start now, words_ahead_is old s (t ∷ cs) n' e' refl on, pushed_count n' e' s t.depth x ds, pushed_count n' e' s t.depth y cs, long n' e' h));
        less = λ n' e' h. omega (arith, turns_ahead_is new s (pushed t.depth x ds) n' e' start now, turns_ahead_is old s (t ∷ cs) n' e' refl on, pushed_left n' e' s t.depth x ds, pushed_left n' e' s t.depth y cs, long n' e' h, w.turns n' e' h);
      }

  pub further_row : (l : Label) (r : Option Rest) → (stack_of new.ways) ≡ pushed (t.depth + 1) r cs → TakesRow n e (old.start + t.depth) t.rest l →
      ((n' : ℕ) (e' : End) → StandsFor n' e' (old.start + t.depth + 1) (t.rest.later n' e') r) → LooksFurther old new n e
  further_row l r now w stands =
      let s = old.start in
      let i : ℕ = s + t.depth in
      let at : s + (t.depth + 1) ≡ i + 1 = omega arith in
      let count : (n' : ℕ) (e' : End) → IsLater n e n' e' → length (option_words n' e' r (s + (t.depth + 1))) ≡ length ((t.rest.left n' e').0 i) = λ n' e' h.
      ap (λ j. length (option_words n' e' r j)) at ∙ ap length ((stands n' e').words)
      ∙ sym (ap length (w.words n' e' h.0) ∙ length-map ((t.rest.later n' e').0 (i + 1)) (preceded (l ∷ []))) in
      let turns : (n' : ℕ) (e' : End) → IsLater n e n' e' → 1 + option_turns n' e' r (s + (t.depth + 1)) ≡ (t.rest.left n' e').1 i = λ n' e' h.
      ap (λ j. 1 + option_turns n' e' r j) at ∙ ap (λ k. 1 + k) ((stands n' e').turns)
      ∙ sym (w.turns n' e' h.0) in
      record {
        same = λ n' e' h. some_alike (words_ahead new n' e') (words_ahead old n' e')
            (omega (arith, words_ahead_is new s (pushed (t.depth + 1) r cs) n' e' start now, words_ahead_is old s (t ∷ cs) n' e' refl on, pushed_count n' e' s (t.depth + 1) r cs, count n' e' h));
        less = λ n' e' h. omega (arith, turns_ahead_is new s (pushed (t.depth + 1) r cs) n' e' start now, turns_ahead_is old s (t ∷ cs) n' e' refl on, pushed_left n' e' s (t.depth + 1) r cs, count n' e' h, turns n' e' h);
      }

  -- the first one is given up, since others serve for it
  pub further_drop : (stack_of new.ways) ≡ cs → ((n' : ℕ) (e' : End) → IsLater n e n' e' → 0 < (t.rest.left n' e').1 (old.start + t.depth)) →
      ((n' : ℕ) (e' : End) → IsLater n e n' e' → (a : ℕ) → 0 < length ((t.rest.left n' e').0 (old.start + t.depth)) → left_at (t.rest.left n' e') (old.start + t.depth) ≤ a → IsTrue (any_has_fewer a n' e' old.start cs)) → LooksFurther old new n e
  further_drop now takes serve =
      let s = old.start in
      record {
        same = λ n' e' h.
            let was = words_ahead_is old s (t ∷ cs) n' e' refl on in
            let is = words_ahead_is new s cs n' e' start now in
            (λ k. omega (arith, was, is, k), λ k. omega (arith, is, still_follows n' e' s t cs (serve n' e' h) (omega (arith, was, k))));
        less = λ n' e' h. omega (arith, turns_ahead_is old s (t ∷ cs) n' e' refl on, turns_ahead_is new s cs n' e' start now, takes n' e' h);
      }

module _ (o : Outlook) (t : Way) (cs : List Way) (on : (stack_of o.ways) ≡ t ∷ cs) where
  -- the preferred choice is at a row that has a number
  pub preferred_within : (o.start + t.depth < 2 ^ 64) × IsTrue (rises t.depth cs)
  preferred_within =
      let first = rises_first (2 ^ 64 - 1 - o.start) t cs (subst (λ z. IsTrue (rises (2 ^ 64 - 1 - o.start) z)) on o.within) in
      (omega (arith, first.0, o.starts), first.1)

  pub word_ahead : (n : ℕ) (e : End) (w : Mapping) (more : List Mapping) → (t.rest.left n e).0 (o.start + t.depth) ≡ w ∷ more → 0 < words_ahead o n e
  word_ahead n e w more h = omega (arith, words_ahead_is o o.start (t ∷ cs) n e refl on, ap length h)

pub nothing_ahead : (o : Outlook) → (stack_of o.ways) ≡ [] → (n : ℕ) (e : End) → words_ahead o n e ≡ 0
nothing_ahead o on n e = words_ahead_is o o.start [] n e refl on

-- what is left at a row
module _ (o : Outlook) (r : Option Rest) (n : ℕ) (e : End) (on : (stack_of o.ways) ≡ pushed 0 r []) where
  at_row : o.start + 0 ≡ o.start
  at_row = omega arith

  pub words_at : words_ahead o n e ≡ length (option_words n e r o.start)
  words_at = omega (arith, words_ahead_is o o.start (pushed 0 r []) n e refl on, pushed_count n e o.start 0 r [], ap (λ i. length (option_words n e r i)) at_row)

  pub turns_at : turns_ahead o n e ≡ option_turns n e r o.start + length (option_words n e r o.start)
  turns_at = omega (arith, turns_ahead_is o o.start (pushed 0 r []) n e refl on, pushed_left n e o.start 0 r [], ap (λ i. length (option_words n e r i)) at_row, ap (option_turns n e r) at_row)

-- choices at rows that have numbers
pub all_within : (start deepest : ℕ) (cs : List Way) → start + deepest < 2 ^ 64 → IsTrue (rises deepest cs) → IsTrue (rises (2 ^ 64 - 1 - start) cs)
all_within start deepest cs h r = rises_more deepest (2 ^ 64 - 1 - start) cs (omega (arith, h)) r

-- what one outlook has, another of the same row and choices has
pub alike : (old new : Outlook) → new.start ≡ old.start → stack_of new.ways ≡ stack_of old.ways → LooksAlike old new
alike old new start now = record {
  words = λ n e. words_ahead_is new old.start (stack_of old.ways) n e start now ∙ sym (words_ahead_is old old.start (stack_of old.ways) n e refl refl);
  turns = λ n e. turns_ahead_is new old.start (stack_of old.ways) n e start now ∙ sym (turns_ahead_is old old.start (stack_of old.ways) n e refl refl);
}

-- what came of another outlook of the same row and choices came of this one
seen_from : (old mid new : Outlook) (n : ℕ) (e : End) → LooksAlike old mid → (s : Sight) → (s ≡ Nothing → ⊥) → SeenAs mid new n e s → SeenAs old new n e s
seen_from old mid new n e like Further not h = record {
  same = λ n' e' later. (λ k. omega (arith, like.words n' e', (h.same n' e' later).0 k), λ k. (h.same n' e' later).1 (omega (arith, like.words n' e', k)));
  less = λ n' e' later. omega (arith, like.turns n' e', h.less n' e' later);
}
seen_from old mid new n e like Word not h =
    (record { words = λ n' e'. h.0.words n' e' ∙ like.words n' e'; turns = λ n' e'. h.0.turns n' e' ∙ like.turns n' e' }, omega (arith, like.words n e, h.1))
seen_from old mid new n e like Nothing not h = absurd (not refl)

pub seen_ok : (old mid new : Outlook) (n : ℕ) (e : End) (r : Result Sight AllocError) → LooksAlike old mid → IfOk r (λ s. s ≡ Nothing → ⊥) → IfOk r (SeenAs mid new n e) → IfOk r (SeenAs old new n e)
seen_ok old mid new n e (Ok s) like some h = seen_from old mid new n e like s some h
seen_ok old mid new n e (Err x) like some h = tt
