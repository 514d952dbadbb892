-- The labels of words that a variable leads.
use Rattle.std.proofs.Common.{◌≡◌, ◌≢◌, ℕ, suc, ◌+◌, ◌<◌, ◌≤◌, List, [], ◌∷◌, ◌++◌, map, length, get_or, set, Bool, true, false, cond, not, ◌&&◌, ◌||◌, Option, Some, None, ◌⊎◌, inl, inr, Contains, IsPermutation, refl, sym, ap, ◌∙◌, subst, arith}
use Rattle.std.specs.Prelude.{⊤, nat_le, nat_lt, nat_eq}
use Rattle.std.specs.List.{All, AllByRecursion, swap}
use Rattle.std.specs.declared.vec.Vec.{Vec}
use Rattle.std.specs.declared.rc.Rc.{Rc}
use Rattle.std.specs.declared.alloc.Global.{Global}
use Rattle.std.proofs.lemmas.Bool.{and_parts, or_cases, eqb-true, eqb-false}
use Rattle.std.proofs.lemmas.Bool.Decides.{nat_tests}
use Rattle.std.proofs.lemmas.List.Elements.{All-from_recursion, recursion_from_All, All-set, All-get_or, All-contains_itself, All-weaker}
use Rattle.std.proofs.lemmas.List.Sorted.{IsPermutation-keeps}
use Rattle.rp_words.specs.Mapping.{Mapping, Full, Open, labels_of, preceded, excluded_mapping, excluded_label}
use Rattle.rp_words.specs.Maps as M
use Rattle.rp_words.specs.Maps.{Maps, MapsInOrder, Iterates, MayFollow}
use Rattle.rp_words.specs.declared.form.Form.{Form}
use Rattle.rp_words.specs.declared.form.Form.TheOpen as F
use Rattle.rp_words.specs.declared.form.Form.TheVariants as V
use Rattle.rp_words.specs.declared.form.Form.TheFolds.{fold-roll-Form}
use Rattle.rp_words.specs.declared.word.End.{End}
use Rattle.rp_words.specs.declared.word.Label.{Label}
use Rattle.rp_words.specs.Leading.{leads_step, leads_before, iterates_once, stands_step, stands_where, stands_once, IsLedBy, IsFirstAlone, IsHeadedBy, LeadersHead}
use Rattle.rp_words.specs.Variables.{all_true}
use Rattle.rp_words.specs.Words.{words}
use Rattle.rp_words.proofs.Lists.{map-map}
use Rattle.rp_words.proofs.Maps.{words_are_mappings}

-- ---- lists in another order

module _ {X : Type 0} (P : X → Type 0) where
  all_swapped : (xs : List X) (i j : ℕ) → i < length xs → j < length xs → All P xs → All P (swap xs i j)
  all_swapped [] i j a b h = absurd (omega arith)
  all_swapped (x ∷ xs) i j a b h =
      All-set P (set (x ∷ xs) i (get_or (x ∷ xs) j x)) j (get_or (x ∷ xs) i x) (All-get_or P (x ∷ xs) i x a h)
      (All-set P (x ∷ xs) i (get_or (x ∷ xs) j x) (All-get_or P (x ∷ xs) j x b h) h)

  all_in_order : (xs ys : List X) → IsPermutation xs ys → AllByRecursion P xs → AllByRecursion P ys
  all_in_order xs ys s h = recursion_from_All P ys (IsPermutation-keeps xs (All P) (All-from_recursion P xs h) all_swapped ys s)

all_hold : {X : Type 0} (test : X → Bool) (ps : List (Rc X Global)) → all_true (map (λ p. test p.value) ps) ≡ true → AllByRecursion (λ x. test x ≡ true) (map (λ p. p.value) ps)
all_hold test [] h = tt
all_hold test (p ∷ ps) h =
    let both = and_parts (test p.value) (all_true (map (λ p. test p.value) ps)) h in
    (both.0, all_hold test ps both.1)

-- ---- the variable that leads

module _ (v : ℕ) where
  pub leads_variable : (u : ℕ) (b : Bool) → leads_before v (V.Variable u) b ≡ nat_eq u v
  leads_variable u b = ap (λ f. leads_before v f b) (sym (V.rolls-Variable u)) ∙ ap (λ g. g b) (fold-roll-Form (Bool → Bool) (leads_step v) (F.Variable u))

  pub leads_empty : (b : Bool) → leads_before v V.Empty b ≡ b
  leads_empty b = ap (λ f. leads_before v f b) (sym V.rolls-Empty) ∙ ap (λ g. g b) (fold-roll-Form (Bool → Bool) (leads_step v) F.Empty)

  pub leads_start : (b : Bool) → leads_before v V.PartitionStart b ≡ b
  leads_start b = ap (λ f. leads_before v f b) (sym V.rolls-PartitionStart) ∙ ap (λ g. g b) (fold-roll-Form (Bool → Bool) (leads_step v) F.PartitionStart)

  pub leads_end : (b : Bool) → leads_before v V.PartitionEnd b ≡ b
  leads_end b = ap (λ f. leads_before v f b) (sym V.rolls-PartitionEnd) ∙ ap (λ g. g b) (fold-roll-Form (Bool → Bool) (leads_step v) F.PartitionEnd)

  pub leads_concatenation : (p q : Rc Form Global) (b : Bool) → leads_before v (V.Concatenation p q) b ≡ leads_before v p.value (leads_before v q.value b)
  leads_concatenation p q b = ap (λ f. leads_before v f b) (sym (V.rolls-Concatenation p q)) ∙ ap (λ g. g b) (fold-roll-Form (Bool → Bool) (leads_step v) (F.Concatenation p q))

  pub leads_alternation : (p q : Rc Form Global) (b : Bool) → leads_before v (V.Alternation p q) b ≡ (leads_before v p.value b && leads_before v q.value b)
  leads_alternation p q b = ap (λ f. leads_before v f b) (sym (V.rolls-Alternation p q)) ∙ ap (λ g. g b) (fold-roll-Form (Bool → Bool) (leads_step v) (F.Alternation p q))

  pub leads_permute : (ps : Vec (Rc Form Global) Global) (b : Bool) → leads_before v (V.Permute ps) b ≡ (b && all_true (map (λ p. leads_before v p.value true) ps.items))
  leads_permute ps b = ap (λ f. leads_before v f b) (sym (V.rolls-Permute ps)) ∙ ap (λ g. g b) (fold-roll-Form (Bool → Bool) (leads_step v) (F.Permute ps)) ∙ simp map-map

  pub leads_exclusion : (p : Rc Form Global) (b : Bool) → leads_before v (V.Exclusion p) b ≡ leads_before v p.value b
  leads_exclusion p b = ap (λ f. leads_before v f b) (sym (V.rolls-Exclusion p)) ∙ ap (λ g. g b) (fold-roll-Form (Bool → Bool) (leads_step v) (F.Exclusion p))

  pub leads_quantified : (p : Rc Form Global) (lower : ℕ) (upper : Option ℕ) (reluctant b : Bool) → leads_before v (V.Quantified p lower upper reluctant) b ≡ (leads_before v p.value b && (b || nat_lt 0 lower))
  leads_quantified p lower upper reluctant b = ap (λ f. leads_before v f b) (sym (V.rolls-Quantified p lower upper reluctant)) ∙ ap (λ g. g b) (fold-roll-Form (Bool → Bool) (leads_step v) (F.Quantified p lower upper reluctant))

  -- a word, and what may follow it, begin with the variable, where that is known or not of what follows
  abbrev Led : Bool → Mapping → Type 0
  Led b (Full []) = b ≡ true
  Led b (Open []) = ⊤
  Led b (Full (l ∷ ls)) = l.var ≡ v
  Led b (Open (l ∷ ls)) = l.var ≡ v

  led_joined : (ls : List Label) (w : Mapping) (c b : Bool) → Led c (Full ls) → (c ≡ true → Led b w) → Led b (preceded ls w)
  led_joined [] (Full ms) c b first later = later first
  led_joined [] (Open ms) c b first later = later first
  led_joined (l ∷ ls) (Full ms) c b first later = first
  led_joined (l ∷ ls) (Open ms) c b first later = first

  led_open : (ls : List Label) (c b : Bool) → Led c (Open ls) → Led b (Open ls)
  led_open [] c b h = tt
  led_open (l ∷ ls) c b h = h

  led_excluded : (w : Mapping) (b : Bool) → Led b w → Led b (excluded_mapping w)
  led_excluded (Full []) b h = h
  led_excluded (Full (l ∷ ls)) b h = h
  led_excluded (Open []) b h = h
  led_excluded (Open (l ∷ ls)) b h = h

  takes_one : (b : Bool) → (b || nat_lt 0 0) ≡ true → b ≡ true
  takes_one true h = refl
  takes_one false h = h

  may_take_none : (b c : Bool) → b ≡ true → (b || c) ≡ true
  may_take_none b c h = ap (λ x. x || c) h

  module _ (n : ℕ) (e : End) where
    mutual
      led : {f : Form} {i : ℕ} {w : Mapping} → Maps n e f i w → (b : Bool) → leads_before v f b ≡ true → Led b w
      led (M.row {v = u} h) b k = eqb-true u v (sym (leads_variable u b) ∙ k)
      led (M.later_row h o) b k = tt
      led M.nothing b k = sym (leads_empty b) ∙ k
      led (M.both {p = p} {q = q} {ls = ls} {w = w} x y) b k =
          led_joined ls w (leads_before v q.value b) b (led x (leads_before v q.value b) (sym (leads_concatenation p q b) ∙ k)) (λ h. led y b h)
      led (M.first_open {p = p} {q = q} {ls = ls} x) b k =
          led_open ls (leads_before v q.value b) b (led x (leads_before v q.value b) (sym (leads_concatenation p q b) ∙ k))
      led (M.left {p = p} {q = q} x) b k = led x b (and_parts (leads_before v p.value b) (leads_before v q.value b) (sym (leads_alternation p q b) ∙ k)).0
      led (M.right {p = p} {q = q} x) b k = led x b (and_parts (leads_before v p.value b) (leads_before v q.value b) (sym (leads_alternation p q b) ∙ k)).1
      led M.start b k = sym (leads_start b) ∙ k
      led (M.end h o) b k = sym (leads_end b) ∙ k
      led (M.may_end h o) b k = tt
      led (M.permuted ps {order = order} {w = w} s x) b k =
          let both = and_parts b (all_true (map (λ p. leads_before v p.value true) ps.items)) (sym (leads_permute ps b) ∙ k) in
          let all = all_in_order (λ f. leads_before v f true ≡ true) (map (λ p. p.value) ps.items) order s (all_hold (λ f. leads_before v f true) ps.items both.1) in
          subst (λ c. Led c w) (sym both.0) (led_in_order x all)
      led (M.excluded {p = p} {w = w} x) b k = led_excluded w b (led x b (sym (leads_exclusion p b) ∙ k))
      led (M.iterated {p = p} {lower = lower} {upper = upper} {reluctant = reluctant} m x) b k =
          let both = and_parts (leads_before v p.value b) (b || nat_lt 0 lower) (sym (leads_quantified p lower upper reluctant b) ∙ k) in
          led_iterations x b both.0 both.1

      led_in_order : {fs : List Form} {i : ℕ} {w : Mapping} → MapsInOrder n e fs i w → AllByRecursion (λ f. leads_before v f true ≡ true) fs → Led true w
      led_in_order M.no_more a = refl
      led_in_order (M.next {ls = ls} {w = w} x y) a = led_joined ls w true true (led x true a.0) (λ h. led_in_order y a.1)
      led_in_order (M.next_open {ls = ls} x) a = led x true a.0

      led_iterations : {f : Form} {l k i : ℕ} {w : Mapping} → Iterates n e f l k i w → (b : Bool) → leads_before v f b ≡ true → (b || nat_lt 0 l) ≡ true → Led b w
      led_iterations M.stop b h some = takes_one b some
      led_iterations (M.required {l = l} {ls = ls} {w = w} x y) b h some = led_joined ls w b b (led x b h) (λ c. led_iterations y b h (may_take_none b (nat_lt 0 l) c))
      led_iterations (M.required_open x) b h some = led x b h
      led_iterations (M.another {label = label} {ls = ls} {w = w} x y) b h some = led_joined (label ∷ ls) w b b (led x b h) (λ c. led_iterations y b h (may_take_none b (nat_lt 0 0) c))
      led_iterations (M.another_open x) b h some = led x b h

  led_labels : (w : Mapping) → Led true w → IsLedBy v (labels_of w)
  led_labels (Full []) h = tt
  led_labels (Full (l ∷ ls)) h = h
  led_labels (Open []) h = tt
  led_labels (Open (l ∷ ls)) h = h

-- what each mapping has, each word has
each_word : (P : Mapping → Type 0) (f : Form) (n : ℕ) (e : End) (i : ℕ) → ((w : Mapping) → Maps n e f i w → P w) → AllByRecursion P (words n e f i)
each_word P f n e i h =
    recursion_from_All P (words n e f i) (All-weaker (Contains (words n e f i)) P (λ w c. h w ((words_are_mappings f n e i w).0 c)) (words n e f i) (All-contains_itself (words n e f i)))

-- ---- the variable that stands once

module _ (v : ℕ) where
  pub stands_variable : (u : ℕ) (b : Bool) → stands_where v (V.Variable u) b ≡ (b || not (nat_eq u v))
  stands_variable u b = ap (λ f. stands_where v f b) (sym (V.rolls-Variable u)) ∙ ap (λ g. g b) (fold-roll-Form (Bool → Bool) (stands_step v) (F.Variable u))

  pub stands_concatenation : (p q : Rc Form Global) (b : Bool) →
      stands_where v (V.Concatenation p q) b ≡ (stands_where v p.value b && stands_where v q.value false || stands_where v p.value false && stands_where v q.value b)
  stands_concatenation p q b = ap (λ f. stands_where v f b) (sym (V.rolls-Concatenation p q)) ∙ ap (λ g. g b) (fold-roll-Form (Bool → Bool) (stands_step v) (F.Concatenation p q))

  pub stands_alternation : (p q : Rc Form Global) (b : Bool) → stands_where v (V.Alternation p q) b ≡ (stands_where v p.value b && stands_where v q.value b)
  stands_alternation p q b = ap (λ f. stands_where v f b) (sym (V.rolls-Alternation p q)) ∙ ap (λ g. g b) (fold-roll-Form (Bool → Bool) (stands_step v) (F.Alternation p q))

  pub stands_permute : (ps : Vec (Rc Form Global) Global) (b : Bool) → stands_where v (V.Permute ps) b ≡ all_true (map (λ p. stands_where v p.value false) ps.items)
  stands_permute ps b = ap (λ f. stands_where v f b) (sym (V.rolls-Permute ps)) ∙ ap (λ g. g b) (fold-roll-Form (Bool → Bool) (stands_step v) (F.Permute ps)) ∙ simp map-map

  pub stands_exclusion : (p : Rc Form Global) (b : Bool) → stands_where v (V.Exclusion p) b ≡ stands_where v p.value b
  stands_exclusion p b = ap (λ f. stands_where v f b) (sym (V.rolls-Exclusion p)) ∙ ap (λ g. g b) (fold-roll-Form (Bool → Bool) (stands_step v) (F.Exclusion p))

  pub stands_quantified : (p : Rc Form Global) (lower : ℕ) (upper : Option ℕ) (reluctant b : Bool) →
      stands_where v (V.Quantified p lower upper reluctant) b ≡ (stands_where v p.value false || stands_where v p.value b && iterates_once lower upper)
  stands_quantified p lower upper reluctant b = ap (λ f. stands_where v f b) (sym (V.rolls-Quantified p lower upper reluctant)) ∙ ap (λ g. g b) (fold-roll-Form (Bool → Bool) (stands_step v) (F.Quantified p lower upper reluctant))

  -- how many labels are of the variable
  abbrev count : List Label → ℕ
  count [] = 0
  count (l ∷ ls) = cond (nat_eq l.var v) (suc (count ls)) (count ls)

  -- how many may be
  abbrev most : Bool → ℕ
  most true = 1
  most false = 0

  none_fits : (b : Bool) → 0 ≤ most b
  none_fits true = omega arith
  none_fits false = omega arith

  count-append : (ls ms : List Label) → count (ls ++ ms) ≡ count ls + count ms
  count-append [] ms = omega arith
  count-append (l ∷ ls) ms = go (nat_eq l.var v) (count-append ls ms)
    where
      go : (b : Bool) → count (ls ++ ms) ≡ count ls + count ms → cond b (suc (count (ls ++ ms))) (count (ls ++ ms)) ≡ cond b (suc (count ls)) (count ls) + count ms
      go true h = omega (arith, h)
      go false h = h

  count-excluded : (ls : List Label) → count (map excluded_label ls) ≡ count ls
  count-excluded [] = refl
  count-excluded (l ∷ ls) = ap (λ k. cond (nat_eq l.var v) (suc k) k) (count-excluded ls)

  count_joined : (ls : List Label) (w : Mapping) → count (labels_of (preceded ls w)) ≡ count ls + count (labels_of w)
  count_joined ls (Full ms) = count-append ls ms
  count_joined ls (Open ms) = count-append ls ms

  few_joined : (ls : List Label) (w : Mapping) (a b c : ℕ) → count ls ≤ a → count (labels_of w) ≤ b → a + b ≤ c → count (labels_of (preceded ls w)) ≤ c
  few_joined ls w a b c x y z = omega (arith, count_joined ls w, x, y, z)

  few_excluded : (w : Mapping) (c : ℕ) → count (labels_of w) ≤ c → count (labels_of (excluded_mapping w)) ≤ c
  few_excluded (Full ls) c h = subst (λ k. k ≤ c) (sym (count-excluded ls)) h
  few_excluded (Open ls) c h = subst (λ k. k ≤ c) (sym (count-excluded ls)) h

  fits_none : (k : ℕ) (b : Bool) → k ≤ 0 → k ≤ most b
  fits_none k b h = subst (λ z. z ≤ most b) (none k h) (none_fits b)
    where
      none : (k : ℕ) → k ≤ 0 → 0 ≡ k
      none k h = omega (arith, h)

  at_most_once : (lower : ℕ) (upper : Option ℕ) (k : ℕ) → iterates_once lower upper ≡ true → MayFollow lower upper k → lower + k ≤ 1
  at_most_once lower None k h m = absurd (cc)
  at_most_once lower (Some upper) k h m =
      let both = and_parts (nat_le lower 1) (nat_le upper 1) h in
      let a : lower ≤ 1 = grind (arith, nat_tests) in
      let b : upper ≤ 1 = grind (arith, nat_tests) in
      omega (arith, a, b, m)

  -- of two parts one at most has the variable
  module _ (ls : List Label) (w : Mapping) (p q : Bool → Bool) (b : Bool)
      (first : (c : Bool) → p c ≡ true → count ls ≤ most c) where
    few_both : ((c : Bool) → q c ≡ true → count (labels_of w) ≤ most c) → (p b && q false || p false && q b) ≡ true → count (labels_of (preceded ls w)) ≤ most b
    few_both second k = go (or_cases (p b && q false) (p false && q b) k)
      where
        go : ((p b && q false) ≡ true) ⊎ ((p false && q b) ≡ true) → count (labels_of (preceded ls w)) ≤ most b
        go (inl h) = let both = and_parts (p b) (q false) h in few_joined ls w (most b) 0 (most b) (first b both.0) (second false both.1) (omega arith)
        go (inr h) = let both = and_parts (p false) (q b) h in few_joined ls w 0 (most b) (most b) (first false both.0) (second b both.1) (omega arith)

  few_first : (ls : List Label) (p q : Bool → Bool) (b : Bool) → ((c : Bool) → p c ≡ true → count ls ≤ most c) → (p b && q false || p false && q b) ≡ true → count ls ≤ most b
  few_first ls p q b first k = go (or_cases (p b && q false) (p false && q b) k)
    where
      go : ((p b && q false) ≡ true) ⊎ ((p false && q b) ≡ true) → count ls ≤ most b
      go (inl h) = first b (and_parts (p b) (q false) h).0
      go (inr h) = fits_none (count ls) b (first false (and_parts (p false) (q b) h).0)

  few_times : (w : Mapping) (p : Bool → Bool) (lower : ℕ) (upper : Option ℕ) (more : ℕ) (b : Bool) → MayFollow lower upper more →
      (p false ≡ true → count (labels_of w) ≤ 0) → (p b ≡ true → lower + more ≤ 1 → count (labels_of w) ≤ most b) →
      (p false || p b && iterates_once lower upper) ≡ true → count (labels_of w) ≤ most b
  few_times w p lower upper more b m none once k = go (or_cases (p false) (p b && iterates_once lower upper) k)
    where
      go : (p false ≡ true) ⊎ ((p b && iterates_once lower upper) ≡ true) → count (labels_of w) ≤ most b
      go (inl h) = fits_none (count (labels_of w)) b (none h)
      go (inr h) = let both = and_parts (p b) (iterates_once lower upper) h in once both.0 (at_most_once lower upper more both.1 m)

  one_row : (u : ℕ) (excluded b : Bool) → (b || not (nat_eq u v)) ≡ true → count (record { var = u; excluded = excluded } ∷ []) ≤ most b
  one_row u excluded b h = go (nat_eq u v) b h
    where
      go : (x b : Bool) → (b || not x) ≡ true → cond x 1 0 ≤ most b
      go true true h = omega arith
      go true false h = absurd (cc)
      go false b h = none_fits b

  module _ (n : ℕ) (e : End) where
    mutual
      few : {f : Form} {i : ℕ} {w : Mapping} → Maps n e f i w → (b : Bool) → stands_where v f b ≡ true → count (labels_of w) ≤ most b
      few (M.row {v = u} h) b k = one_row u false b (sym (stands_variable u b) ∙ k)
      few (M.later_row h o) b k = none_fits b
      few M.nothing b k = none_fits b
      few (M.both {p = p} {q = q} {ls = ls} {w = w} x y) b k = few_both ls w (stands_where v p.value) (stands_where v q.value) b (λ c h. few x c h) (λ c h. few y c h) (sym (stands_concatenation p q b) ∙ k)
      few (M.first_open {p = p} {q = q} {ls = ls} x) b k = few_first ls (stands_where v p.value) (stands_where v q.value) b (λ c h. few x c h) (sym (stands_concatenation p q b) ∙ k)
      few (M.left {p = p} {q = q} x) b k = few x b (and_parts (stands_where v p.value b) (stands_where v q.value b) (sym (stands_alternation p q b) ∙ k)).0
      few (M.right {p = p} {q = q} x) b k = few x b (and_parts (stands_where v p.value b) (stands_where v q.value b) (sym (stands_alternation p q b) ∙ k)).1
      few M.start b k = none_fits b
      few (M.end h o) b k = none_fits b
      few (M.may_end h o) b k = none_fits b
      few (M.permuted ps {order = order} {w = w} s x) b k =
          let all = all_in_order (λ f. stands_where v f false ≡ true) (map (λ p. p.value) ps.items) order s (all_hold (λ f. stands_where v f false) ps.items (sym (stands_permute ps b) ∙ k)) in
          fits_none (count (labels_of w)) b (none_in_order x all)
      few (M.excluded {p = p} {w = w} x) b k = few_excluded w (most b) (few x b (sym (stands_exclusion p b) ∙ k))
      few (M.iterated {p = p} {lower = lower} {upper = upper} {reluctant = reluctant} {k = more} {w = w} m x) b k =
          few_times w (stands_where v p.value) lower upper more b m (λ h. none_iterated x h) (λ h c. once_iterated x b h c) (sym (stands_quantified p lower upper reluctant b) ∙ k)

      none_in_order : {fs : List Form} {i : ℕ} {w : Mapping} → MapsInOrder n e fs i w → AllByRecursion (λ f. stands_where v f false ≡ true) fs → count (labels_of w) ≤ 0
      none_in_order M.no_more a = omega arith
      none_in_order (M.next {ls = ls} {w = w} x y) a = few_joined ls w 0 0 0 (few x false a.0) (none_in_order y a.1) (omega arith)
      none_in_order (M.next_open x) a = few x false a.0

      none_iterated : {f : Form} {l k i : ℕ} {w : Mapping} → Iterates n e f l k i w → stands_where v f false ≡ true → count (labels_of w) ≤ 0
      none_iterated M.stop h = omega arith
      none_iterated (M.required {ls = ls} {w = w} x y) h = few_joined ls w 0 0 0 (few x false h) (none_iterated y h) (omega arith)
      none_iterated (M.required_open x) h = few x false h
      none_iterated (M.another {label = label} {ls = ls} {w = w} x y) h = few_joined (label ∷ ls) w 0 0 0 (few x false h) (none_iterated y h) (omega arith)
      none_iterated (M.another_open x) h = few x false h

      once_iterated : {f : Form} {l k i : ℕ} {w : Mapping} → Iterates n e f l k i w → (b : Bool) → stands_where v f b ≡ true → l + k ≤ 1 → count (labels_of w) ≤ most b
      once_iterated M.stop b h c = none_fits b
      once_iterated (M.required {ls = ls} {w = w} x y) b h c = few_joined ls w (most b) 0 (most b) (few x b h) (stopped y (omega (arith, c))) (omega arith)
      once_iterated (M.required_open x) b h c = few x b h
      once_iterated (M.another {label = label} {ls = ls} {w = w} x y) b h c = few_joined (label ∷ ls) w (most b) 0 (most b) (few x b h) (stopped y (omega (arith, c))) (omega arith)
      once_iterated (M.another_open x) b h c = few x b h

      stopped : {f : Form} {l k i : ℕ} {w : Mapping} → Iterates n e f l k i w → l + k ≤ 0 → count (labels_of w) ≤ 0
      stopped M.stop c = omega arith
      stopped (M.required x y) c = absurd (omega (arith, c))
      stopped (M.required_open x) c = absurd (omega (arith, c))
      stopped (M.another x y) c = absurd (omega (arith, c))
      stopped (M.another_open x) c = absurd (omega (arith, c))

  absent : (ls : List Label) → count ls ≤ 0 → AllByRecursion (λ m. m.var ≢ v) ls
  absent [] h = tt
  absent (l ∷ ls) h = go (nat_eq l.var v) refl h (λ k. absent ls k)
    where
      go : (b : Bool) → nat_eq l.var v ≡ b → cond b (suc (count ls)) (count ls) ≤ 0 → (count ls ≤ 0 → AllByRecursion (λ m. m.var ≢ v) ls) → AllByRecursion (λ m. m.var ≢ v) (l ∷ ls)
      go true e h rest = absurd (omega (arith, h))
      go false e h rest = (eqb-false l.var v e, rest h)

  alone : (ls : List Label) → IsLedBy v ls → count ls ≤ 1 → IsFirstAlone v ls
  alone [] a h = tt
  alone (l ∷ ls) a h = go (nat_eq l.var v) refl h
    where
      go : (b : Bool) → nat_eq l.var v ≡ b → cond b (suc (count ls)) (count ls) ≤ 1 → AllByRecursion (λ m. m.var ≢ v) ls
      go true e h = absent ls (omega (arith, h))
      go false e h = absurd (eqb-false l.var v e a)

pub leaders_head : LeadersHead
leaders_head v f leading n e i = each_word (λ w. IsHeadedBy v (stands_once v f) (labels_of w)) f n e i (λ w m.
    let first = led_labels v w (led v n e m true leading) in
    record { led = first; alone = λ once. alone v (labels_of w) first (few v n e m true once) })
