-- What stands above some height of the stack.
use Rattle.std.proofs.Common.{◌≡◌, ℕ, ◌+◌, ◌-◌, ◌<◌, ◌≤◌, List, [], ◌∷◌, ◌++◌, map, length, take, drop, Bool, true, false, cond, IsTrue, refl, sym, ap, ◌∙◌, subst, arith}
use Rattle.std.proofs.lemmas.List.{length-take-le}
use Rattle.rp_words.specs.declared.word.End.{End}
use Rattle.rp_words.specs.declared.word.Label.{Label}
use Rattle.rp_pattern.specs.declared.choices.Choices.{Choices}
use Rattle.rp_pattern.specs.declared.compiled.TopSplit.{TopSplit}
use Rattle.rp_pattern.specs.Rests.{Way, way_words, stack_words, stack_left, first_weight, rises, OfFirst, HasDepth}
use Rattle.rp_words.specs.Mapping.{preceded}
use Rattle.rp_words.proofs.Algebra.{append_nil}
use Rattle.rp_pattern.specs.Ways.{kept_of, stack_of, kept_place_words, kept_place_left, IsAtWayPlace, IsTopSplit}
use Rattle.rp_pattern.specs.Choices.{start_of, entered, height, above, of_top, before_top, place_words, kept, HasTop, IsAtPlace, IsAtSplitPoint, cut_to}
use Rattle.rp_pattern.proofs.ChoiceStacks.{Stack, rises_first, has_top, height_is, left_is, below_left_is, remaining_is, below_is}
use Rattle.rp_pattern.proofs.Costs.{weight_begun, under_is, top_drop, drop_left}

none_taken : (k : ℕ) (cs : List Way) → k ≡ 0 → take k cs ≡ []
none_taken k cs h = ap (λ i. take i cs) h

pub none_above : (c : Choices) (h n : ℕ) (e : End) → height c ≤ h → above c h n e ≡ []
unfolding above
none_above c h n e le = ap (stack_words n e c.start c.labels.items) (none_taken (height c - h) (stack_of c.ways) (omega (arith, le)))

pub top_above : (c : Choices) (h n : ℕ) (e : End) → h + 1 ≡ height c → above c h n e ≡ of_top c n e
unfolding above of_top
top_above c h n e at =
    let i : height c - h ≡ 1 = omega (arith, at) in
    ap (λ k. stack_words n e c.start c.labels.items (take k (stack_of c.ways))) i

-- there is a choice
pub some_height : (c : Choices) → HasTop c → 0 < height c
unfolding HasTop height
some_height c t = go (stack_of c.ways) refl c.begun t.0 t.1
  where
    go : (cs : List Way) → (stack_of c.ways) ≡ cs → (b : Bool) → b ≡ true → OfFirst (λ t. Unit {0}) (stack_of c.ways) → 0 < cond b (length (stack_of c.ways)) 0
    go [] at b begun top = absurd (subst (OfFirst (λ t. Unit {0})) at top)
    go (t ∷ ts) at b begun top = omega (arith, ap length at, ap (λ z. cond z (length (stack_of c.ways)) 0) begun)

-- as many labels are before the first choice as it says
pub cut_long : (t : Way) (ts : List Way) (ls : List Label) → IsTrue (rises (length ls) (t ∷ ts)) → length (cut_to (t ∷ ts) ls) ≡ t.depth
cut_long t ts ls r = length-take-le t.depth ls (rises_first (length ls) t ts r).0

pub height_begun : (c : Choices) → c.begun ≡ true → length (stack_of c.ways) ≡ height c
unfolding height
height_begun c h = sym (ap (λ b. cond b (length (stack_of c.ways)) 0) h)

pub no_height : (c : Choices) → c.begun ≡ false → height c ≡ 0
unfolding height
no_height c h = ap (λ b. cond b (length (stack_of c.ways)) 0) h

pub top_row : (c : Choices) (depth : ℕ) → HasDepth depth (stack_of c.ways) (drop 1 (stack_of c.ways)) → c.start + depth ≡ start_of c + length (before_top c)
unfolding start_of before_top
top_row c depth h =
    let t : Way = record { depth = depth; rest = h.rest } in
    let ts = drop 1 (stack_of c.ways) in
    omega (arith, ap (λ cs. length (cut_to cs c.labels.items)) h.is, cut_long t ts c.labels.items (subst (λ cs. IsTrue (rises (length c.labels.items) cs)) h.is c.rises))

-- the preferred choice is at the place of the first way
pub at_place : (c : Choices) → c.begun ≡ true → (q : ℕ) → IsAtWayPlace q (kept_of c.ways) (stack_of c.ways) → IsAtPlace c q
unfolding start_of entered before_top of_top place_words kept
at_place c begun q a =
    let w = a.way in
    let ls = c.labels.items in
    let k : Stack c c.start ls (w ∷ a.below) = record { begun = begun; start = refl; labels = refl; choices = a.on } in
    let r : IsTrue (rises (length ls) (w ∷ a.below)) = subst (λ cs. IsTrue (rises (length ls) cs)) a.on c.rises in
    let front : cut_to (stack_of c.ways) ls ≡ take w.depth ls = ap (λ ws. cut_to ws ls) a.on in
    let long : length (take w.depth ls) ≡ w.depth = cut_long w a.below ls r in
    let at : (n : ℕ) (e : End) → way_words n e c.start ls w ≡ map (preceded (take w.depth ls)) (kept_place_words (kept_of c.ways) q n e (c.start + length (take w.depth ls))) = λ n e.
    ap (map (preceded (take w.depth ls))) (a.words n e (c.start + w.depth) ∙ ap (λ d. kept_place_words (kept_of c.ways) q n e (c.start + d)) (sym long)) in
    record {
      has_top = has_top c c.start ls w a.below k;
      cut = (w.depth, front);
      words = λ n e.
          ap (λ ws. stack_words n e c.start ls (take 1 ws)) a.on ∙ append_nil (way_words n e c.start ls w) ∙ at n e
          ∙ ap (λ z. map (preceded z) (kept_place_words (kept_of c.ways) q n e (c.start + length z))) (sym front);
      divides = λ n e.
          remaining_is c c.start ls (w ∷ a.below) k n e
          ∙ ap (λ z. z ++ stack_words n e c.start ls a.below)
          (sym (append_nil (way_words n e c.start ls w)) ∙ sym (ap (λ ws. stack_words n e c.start ls (take 1 ws)) a.on))
          ∙ ap (λ z. stack_words n e c.start ls (take 1 (stack_of c.ways)) ++ z) (sym (below_is c c.start ls (w ∷ a.below) k n e));
      turns = λ n e. omega (arith, left_is c c.start ls (w ∷ a.below) k n e, below_left_is c c.start ls (w ∷ a.below) k n e, a.turns n e (c.start + w.depth));
      there = a.there;
      weighs = weight_begun c begun ∙ ap first_weight a.on ∙ a.weighs;
      takes = λ n e.
          let row : c.start + w.depth ≡ c.start + length (cut_to (stack_of c.ways) ls) = omega (arith, ap length front, cut_long w a.below ls r) in
          omega (arith, left_is c c.start ls (w ∷ a.below) k n e, below_left_is c c.start ls (w ∷ a.below) k n e, a.takes n e (c.start + w.depth), ap (kept_place_left (kept_of c.ways) q n e) row);
      under = λ h n e lt.
          let le : h ≤ length a.below = omega (arith, lt, height_is c c.start ls (w ∷ a.below) k) in
          omega (
            arith,
            under_is c c.start ls (w ∷ a.below) k h n e,
            below_left_is c c.start ls (w ∷ a.below) k n e,
            ap (stack_left n e c.start) (top_drop w a.below h le),
            drop_left n e c.start (length a.below - h) a.below,
          );
      under_top = λ h n e at.
          let le : h ≤ length a.below = omega (arith, at, height_is c c.start ls (w ∷ a.below) k) in
          let none : length a.below - h ≡ 0 = omega (arith, at, height_is c c.start ls (w ∷ a.below) k) in
          omega (
            arith,
            under_is c c.start ls (w ∷ a.below) k h n e,
            below_left_is c c.start ls (w ∷ a.below) k n e,
            ap (stack_left n e c.start) (top_drop w a.below h le),
            ap (λ z. stack_left n e c.start (drop z a.below)) none,
          );
    }

-- the same of a split, with its row and how many choices are below it
pub at_split : (c : Choices) → c.begun ≡ true → (s : TopSplit) → IsTopSplit (kept_of c.ways) (stack_of c.ways) s →
    IsAtSplitPoint c (record { place = s.place; row = c.start + s.depth; height = s.height })
at_split c begun s a = record {
  at = at_place c begun s.place a.at;
  row = top_row c s.depth a.depth;
  top = a.height ∙ height_begun c begun;
  words = λ n e. top_above c s.height n e (a.height ∙ height_begun c begun);
}
