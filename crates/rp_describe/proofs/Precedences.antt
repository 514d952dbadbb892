-- Which variables have rows in the words of a pattern, and in which order.
use Rattle.std.proofs.Common.{◌≡◌, ◌≢◌, ℕ, zero, suc, ◌+◌, ◌-◌, ◌≤◌, List, [], ◌∷◌, ◌++◌, map, length, Bool, true, false, cond, Option, Some, None, ◌⊎◌, inl, inr, refl, sym, ap, subst, arith}
use Rattle.std.specs.Prelude.{nat_le, nat_eq}
use Rattle.std.specs.List.{filter, AllByRecursion}
use Rattle.std.specs.declared.vec.Vec.{Vec}
use Rattle.std.specs.declared.rc.Rc.{Rc}
use Rattle.std.specs.declared.alloc.Global.{Global}
use Rattle.std.proofs.lemmas.Bool.{and_parts, eqb-false}
use Rattle.std.proofs.lemmas.Bool.Decides.{nat_tests}
use Rattle.rp_words.specs.Leading.{iterates_once}
use Rattle.rp_words.specs.Mapping.{Mapping, Full, Open, labels_of, preceded, excluded_mapping, excluded_label}
use Rattle.rp_words.specs.Words.{Mappings, words, may_go_on, may_end, followed, concatenation, moves, moving, optional, required, further, permuted}
use Rattle.rp_words.specs.declared.form.Form.{Form}
use Rattle.rp_words.specs.declared.form.Form.TheVariants as V
use Rattle.rp_words.specs.declared.word.End.{End}
use Rattle.rp_words.specs.declared.word.End.TheVariants.{Open as OpenEnd, Closed as ClosedEnd}
use Rattle.rp_words.specs.declared.word.Label.{Label}
use Rattle.rp_words.proofs.EveryWord.{Each, each_concatenation, each_exclusion, each_optional, each_required, each_permuted}
use Rattle.rp_words.proofs.FormEquations.{words_variable, words_empty, words_start, words_end, words_concatenation, words_alternation, words_exclusion, words_quantified, words_permute}
use Rattle.rp_words.proofs.Lists.{All-append, All-map, All-flat_map}
use Rattle.rp_describe.specs.Precedes.{NoneIsOf, NoneComesBefore, HasNoRow, NeverPrecedes}

-- ---- words without a row

module _ (P : List Label → Type 0) (none : P []) where
  abbrev Has : ℕ → Mapping → Type 0
  Has i w = P (labels_of w)

  has_empty : (n : ℕ) (e : End) → Each Has (words n e V.Empty)
  has_empty n e = subst (Each Has) (sym (words_empty n e)) (λ i. (none, tt))

  has_start : (n : ℕ) (e : End) → Each Has (words n e V.PartitionStart)
  has_start n e = subst (Each Has) (sym (words_start n e)) (λ i. go (nat_eq i 1))
    where
      go : (b : Bool) → AllByRecursion (λ w. P (labels_of w)) (cond b (Full [] ∷ []) [])
      go true = (none, tt)
      go false = tt

  has_end : (n : ℕ) (e : End) → Each Has (words n e V.PartitionEnd)
  has_end n e = subst (Each Has) (sym (words_end n e)) (λ i. go (nat_le i n) e)
    where
      go : (b : Bool) (d : End) → AllByRecursion (λ w. P (labels_of w)) (cond b [] (may_end d))
      go true d = tt
      go false OpenEnd = (none, tt)
      go false ClosedEnd = (none, tt)

  has_one_row : (v : ℕ) → ((excluded : Bool) → P (record { var = v; excluded = excluded } ∷ [])) → (n : ℕ) (e : End) → Each Has (words n e (V.Variable v))
  has_one_row v one n e = subst (Each Has) (sym (words_variable n e v)) (λ i. go (nat_le i n) e)
    where
      go : (b : Bool) (d : End) → AllByRecursion (λ w. P (labels_of w)) (cond b (Full (record { var = v; excluded = false } ∷ []) ∷ []) (may_go_on d))
      go true d = (one false, tt)
      go false OpenEnd = (none, tt)
      go false ClosedEnd = tt

-- ---- lists of which each element has a fact

marked_each : {X : Type 0} (P : X → Type 0) (xs : List X) → AllByRecursion P xs → List ((x : X) × P x)
marked_each P [] a = []
marked_each P (x ∷ xs) a = (x, a.0) ∷ marked_each P xs a.1

marked_same : {X Y : Type 0} (P : X → Type 0) (g : X → Y) (xs : List X) (a : AllByRecursion P xs) → map (λ t. g t.0) (marked_each P xs a) ≡ map g xs
unfolding marked_each
marked_same P g [] a = refl
marked_same P g (x ∷ xs) a = ap (λ ys. g x ∷ ys) (marked_same P g xs a.1)

-- ---- a variable that has no row

module _ (v : ℕ) where
  abbrev pub NoRow : ℕ → Mapping → Type 0
  NoRow i w = NoneIsOf v (labels_of w)

  nothing : (i : ℕ) → NoRow i (Full [])
  nothing i = tt

  goes_on : (i : ℕ) (ls : List Label) (w : Mapping) → NoRow i (Full ls) → NoRow (i + length ls) w → NoRow i (preceded ls w)
  goes_on i ls (Full ms) a b = All-append (λ l. l.var ≢ v) ls ms a b
  goes_on i ls (Open ms) a b = All-append (λ l. l.var ≢ v) ls ms a b

  excludes : (i : ℕ) (w : Mapping) → NoRow i w → NoRow i (excluded_mapping w)
  excludes i (Full ls) a = All-map (λ l. l.var ≢ v) (λ l. l.var ≢ v) excluded_label (λ l h. h) ls a
  excludes i (Open ls) a = All-map (λ l. l.var ≢ v) (λ l. l.var ≢ v) excluded_label (λ l h. h) ls a

  pub none_variable : (u : ℕ) → nat_eq u v ≡ false → HasNoRow v (V.Variable u)
  none_variable u differs n e = has_one_row (NoneIsOf v) tt u (λ excluded. (eqb-false u v differs, tt)) n e

  pub none_empty : HasNoRow v V.Empty
  none_empty n e = has_empty (NoneIsOf v) tt n e

  pub none_start : HasNoRow v V.PartitionStart
  none_start n e = has_start (NoneIsOf v) tt n e

  pub none_end : HasNoRow v V.PartitionEnd
  none_end n e = has_end (NoneIsOf v) tt n e

  pub none_concatenation : (p q : Rc Form Global) → HasNoRow v p.value → HasNoRow v q.value → HasNoRow v (V.Concatenation p q)
  none_concatenation p q a b n e =
      subst (Each NoRow) (sym (words_concatenation n e p q)) (each_concatenation NoRow nothing goes_on excludes (words n e p.value) (words n e q.value) (a n e) (b n e))

  pub none_alternation : (p q : Rc Form Global) → HasNoRow v p.value → HasNoRow v q.value → HasNoRow v (V.Alternation p q)
  none_alternation p q a b n e =
      subst (Each NoRow) (sym (words_alternation n e p q)) (λ i. All-append (NoRow i) (words n e p.value i) (words n e q.value i) (a n e i) (b n e i))

  pub none_exclusion : (p : Rc Form Global) → HasNoRow v p.value → HasNoRow v (V.Exclusion p)
  none_exclusion p a n e = subst (Each NoRow) (sym (words_exclusion n e p)) (each_exclusion NoRow nothing goes_on excludes (words n e p.value) (a n e))

  pub none_quantified : (p : Rc Form Global) (lower : ℕ) (upper : Option ℕ) (reluctant : Bool) → HasNoRow v p.value → HasNoRow v (V.Quantified p lower upper reluctant)
  none_quantified p lower upper reluctant a n e =
      subst (Each NoRow) (sym (words_quantified n e p lower upper reluctant))
      (each_required NoRow nothing goes_on excludes (words n e p.value) (optional reluctant (words n e p.value) (further n lower upper)) (a n e)
      (each_optional NoRow nothing goes_on excludes reluctant (words n e p.value) (a n e) (further n lower upper)) lower)

  pub none_permute : (ps : Vec (Rc Form Global) Global) → AllByRecursion (λ p. HasNoRow v p.value) ps.items → HasNoRow v (V.Permute ps)
  none_permute ps a n e =
      subst (Each NoRow) (sym (words_permute n e ps))
      (subst (λ ms. Each NoRow (permuted ms)) (marked_same (λ p. HasNoRow v p.value) (λ p. words n e p.value) ps.items a)
      (each_permuted NoRow nothing goes_on excludes (λ t. words n e t.0.value) (λ t. t.1 n e) (marked_each (λ p. HasNoRow v p.value) ps.items a)))

-- ---- a variable that comes before no row of another

combined : {X : Type 0} (P R : X → Type 0) (xs : List X) → AllByRecursion P xs → AllByRecursion R xs → AllByRecursion (λ x. P x × R x) xs
combined P R [] a b = tt
combined P R (x ∷ xs) a b = ((a.0, b.0), combined P R xs a.1 b.1)

module _ (v u : ℕ) where
  abbrev pub NoneBefore : ℕ → Mapping → Type 0
  NoneBefore i w = NoneComesBefore v u (labels_of w)

  joined : (ls ms : List Label) → NoneComesBefore v u ls → NoneComesBefore v u ms → NoneIsOf v ls ⊎ NoneIsOf u ms → NoneComesBefore v u (ls ++ ms)
  joined [] ms a b one = b
  joined (l ∷ ls) ms a b (inl none) = ((λ is. absurd (none.0 is)), joined ls ms a.1 b (inl none.1))
  joined (l ∷ ls) ms a b (inr none) = ((λ is. All-append (λ m. m.var ≢ u) ls ms (a.0 is) none), joined ls ms a.1 b (inr none))

  joined_word : (ls : List Label) (w : Mapping) → NoneComesBefore v u ls → NoneComesBefore v u (labels_of w) → NoneIsOf v ls ⊎ NoneIsOf u (labels_of w) →
      NoneComesBefore v u (labels_of (preceded ls w))
  joined_word ls (Full ms) a b one = joined ls ms a b one
  joined_word ls (Open ms) a b one = joined ls ms a b one

  still_none : (ls : List Label) → NoneComesBefore v u ls → NoneComesBefore v u (map excluded_label ls)
  still_none [] a = tt
  still_none (l ∷ ls) a = ((λ is. All-map (λ m. m.var ≢ u) (λ m. m.var ≢ u) excluded_label (λ m h. h) ls (a.0 is)), still_none ls a.1)

  excluded_none : (i : ℕ) (w : Mapping) → NoneBefore i w → NoneBefore i (excluded_mapping w)
  excluded_none i (Full ls) a = still_none ls a
  excluded_none i (Open ls) a = still_none ls a

  without_earlier : (ls : List Label) → NoneIsOf v ls → NoneComesBefore v u ls
  without_earlier [] none = tt
  without_earlier (l ∷ ls) none = ((λ is. absurd (none.0 is)), without_earlier ls none.1)

  without_later : (ls : List Label) → NoneIsOf u ls → NoneComesBefore v u ls
  without_later [] none = tt
  without_later (l ∷ ls) none = ((λ is. none.1), without_later ls none.1)

  all_weaker : (P R : Mapping → Type 0) → ((w : Mapping) → P w → R w) → (ws : List Mapping) → AllByRecursion P ws → AllByRecursion R ws
  all_weaker P R h [] a = tt
  all_weaker P R h (w ∷ ws) a = (h w a.0, all_weaker P R h ws a.1)

  pub none_earlier : (f : Form) → HasNoRow v f → NeverPrecedes v u f
  none_earlier f none n e i = all_weaker (λ w. NoneIsOf v (labels_of w)) (λ w. NoneComesBefore v u (labels_of w)) (λ w h. without_earlier (labels_of w) h) (words n e f i) (none n e i)

  pub none_later : (f : Form) → HasNoRow u f → NeverPrecedes v u f
  none_later f none n e i = all_weaker (λ w. NoneIsOf u (labels_of w)) (λ w. NoneComesBefore v u (labels_of w)) (λ w h. without_later (labels_of w) h) (words n e f i) (none n e i)

  -- one part after another, where one of them lacks its variable
  each_joined : (p q : Mappings) → Each NoneBefore p → Each NoneBefore q → Each (NoRow v) p ⊎ Each (NoRow u) q → Each NoneBefore (concatenation p q)
  each_joined p q a b (inl none) i =
      All-flat_map (λ w. NoneBefore i w × NoRow v i w) (NoneBefore i) (followed q i) first (p i) (combined (NoneBefore i) (NoRow v i) (p i) (a i) (none i))
    where
      first : (w : Mapping) → NoneBefore i w × NoRow v i w → AllByRecursion (NoneBefore i) (followed q i w)
      first (Full ls) h = All-map (NoneBefore (i + length ls)) (NoneBefore i) (preceded ls) (λ w k. joined_word ls w h.0 k (inl h.1)) (q (i + length ls)) (b (i + length ls))
      first (Open ls) h = (h.0, tt)
  each_joined p q a b (inr none) i =
      All-flat_map (NoneBefore i) (NoneBefore i) (followed q i) first (p i) (a i)
    where
      first : (w : Mapping) → NoneBefore i w → AllByRecursion (NoneBefore i) (followed q i w)
      first (Full ls) h =
          All-map (λ w. NoneBefore (i + length ls) w × NoRow u (i + length ls) w) (NoneBefore i) (preceded ls) (λ w k. joined_word ls w h k.0 (inr k.1)) (q (i + length ls))
          (combined (NoneBefore (i + length ls)) (NoRow u (i + length ls)) (q (i + length ls)) (b (i + length ls)) (none (i + length ls)))
      first (Open ls) h = (h, tt)

  each_moving : (p : Mappings) → Each NoneBefore p → Each NoneBefore (moving p)
  each_moving p a i = go (p i) (a i)
    where
      go : (ws : List Mapping) → AllByRecursion (NoneBefore i) ws → AllByRecursion (NoneBefore i) (filter moves ws)
      go [] a = tt
      go (Full [] ∷ ws) a = go ws a.1
      go (Full (l ∷ ls) ∷ ws) a = (a.0, go ws a.1)
      go (Open ls ∷ ws) a = (a.0, go ws a.1)

  -- what has no iteration to come
  each_stopped : (reluctant : Bool) (p : Mappings) → Each NoneBefore (optional reluctant p 0)
  each_stopped reluctant p i = (tt, tt)

  each_last : (reluctant : Bool) (p q : Mappings) → Each NoneBefore q → Each NoneBefore (concatenation q (optional reluctant p 0))
  each_last reluctant p q a = each_joined q (optional reluctant p 0) a (each_stopped reluctant p) (inr (λ i. (tt, tt)))

  each_once : (reluctant : Bool) (p : Mappings) → Each NoneBefore p → (l h : ℕ) → l + h ≤ 1 → Each NoneBefore (required l p (optional reluctant p h))
  each_once reluctant p a zero zero few = each_stopped reluctant p
  each_once false p a zero (suc zero) few = λ i. All-append (NoneBefore i) (concatenation (moving p) (optional false p 0) i) (Full [] ∷ []) (each_last false p (moving p) (each_moving p a) i) (tt, tt)
  each_once true p a zero (suc zero) few = λ i. All-append (NoneBefore i) (Full [] ∷ []) (concatenation (moving p) (optional true p 0) i) (tt, tt) (each_last true p (moving p) (each_moving p a) i)
  each_once reluctant p a zero (suc (suc h)) few = absurd (omega (arith, few))
  each_once reluctant p a (suc zero) zero few = each_last reluctant p p a
  each_once reluctant p a (suc zero) (suc h) few = absurd (omega (arith, few))
  each_once reluctant p a (suc (suc l)) h few = absurd (omega (arith, few))

  pub never_variable : (w : ℕ) → NeverPrecedes v u (V.Variable w)
  never_variable w n e = has_one_row (NoneComesBefore v u) tt w (λ excluded. ((λ is. tt), tt)) n e

  pub never_empty : NeverPrecedes v u V.Empty
  never_empty n e = has_empty (NoneComesBefore v u) tt n e

  pub never_start : NeverPrecedes v u V.PartitionStart
  never_start n e = has_start (NoneComesBefore v u) tt n e

  pub never_end : NeverPrecedes v u V.PartitionEnd
  never_end n e = has_end (NoneComesBefore v u) tt n e

  pub never_concatenation : (p q : Rc Form Global) → NeverPrecedes v u p.value → NeverPrecedes v u q.value → HasNoRow v p.value ⊎ HasNoRow u q.value → NeverPrecedes v u (V.Concatenation p q)
  never_concatenation p q a b (inl none) n e = subst (Each NoneBefore) (sym (words_concatenation n e p q)) (each_joined (words n e p.value) (words n e q.value) (a n e) (b n e) (inl (none n e)))
  never_concatenation p q a b (inr none) n e = subst (Each NoneBefore) (sym (words_concatenation n e p q)) (each_joined (words n e p.value) (words n e q.value) (a n e) (b n e) (inr (none n e)))

  pub never_alternation : (p q : Rc Form Global) → NeverPrecedes v u p.value → NeverPrecedes v u q.value → NeverPrecedes v u (V.Alternation p q)
  never_alternation p q a b n e =
      subst (Each NoneBefore) (sym (words_alternation n e p q)) (λ i. All-append (NoneBefore i) (words n e p.value i) (words n e q.value i) (a n e i) (b n e i))

  pub never_exclusion : (p : Rc Form Global) → NeverPrecedes v u p.value → NeverPrecedes v u (V.Exclusion p)
  never_exclusion p a n e = subst (Each NoneBefore) (sym (words_exclusion n e p)) (λ i. All-map (NoneBefore i) (NoneBefore i) excluded_mapping (excluded_none i) (words n e p.value i) (a n e i))

  pub never_once : (p : Rc Form Global) (lower : ℕ) (upper : Option ℕ) (reluctant : Bool) → iterates_once lower upper ≡ true → NeverPrecedes v u p.value → NeverPrecedes v u (V.Quantified p lower upper reluctant)
  never_once p lower None reluctant once a n e = absurd (cc)
  never_once p lower (Some most) reluctant once a n e =
      let both = and_parts (nat_le lower 1) (nat_le most 1) once in
      let least : lower ≤ 1 = grind (arith, nat_tests, both.0) in
      let greatest : most ≤ 1 = grind (arith, nat_tests, both.1) in
      subst (Each NoneBefore) (sym (words_quantified n e p lower (Some most) reluctant))
      (each_once reluctant (words n e p.value) (a n e) lower (most - lower) (omega (arith, least, greatest)))
