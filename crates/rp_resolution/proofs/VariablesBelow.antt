-- The variables of a pattern that is read are below the number of names.
use Rattle.std.proofs.Common.{◌≡◌, ◌∙◌, ℕ, Bool, true, false, ◌&&◌, ◌||◌, List, [], ◌∷◌, ◌++◌, map, length, refl, sym, ap, subst, cond}
use Rattle.std.specs.Prelude.{nat_lt}
use Rattle.std.specs.List.{list_any}
use Rattle.std.specs.Cmp.Lexicographic.{nat_list_eq_equiv}
use Rattle.rp_words.specs.declared.form.Form.{Form}
use Rattle.rp_words.specs.declared.form.Form.TheOpen.{Form-F, Variable, Empty, Concatenation, Alternation, PartitionStart, PartitionEnd, Permute, Exclusion, Quantified}
use Rattle.rp_words.specs.declared.form.Form.TheViews.{roll-Form}
use Rattle.rp_words.specs.declared.form.Form.TheFolds.{map-Form, fold-roll-Form, ind-Form}
use Rattle.rp_words.specs.Variables.{are_below, below_step, all_true}
use Rattle.rp_tree.specs.Tree as tree
use Rattle.rp_tree.specs.Tree.{Tree}
use Rattle.rp_resolution.specs.Context.{is_name}
use Rattle.rp_same_query.specs.Shapes as shape
use Rattle.rp_same_query.specs.Shapes.{Shape, shape_of, shape_step}
use Rattle.rp_resolution.specs.Shapes.{shaped}
use Rattle.rp_resolution.specs.Variables.{is_among, added, variables_after, variables_of}
use Rattle.rp_resolution.proofs.Clean.{both_true}
use Rattle.rp_resolution.proofs.Joining.{among_place}

-- each variable of a shape is below k
abbrev pub shape_below : ℕ → Shape → Bool
shape_below k (shape.Variable v) = nat_lt v k
shape_below k shape.Empty = true
shape_below k shape.PartitionStart = true
shape_below k shape.PartitionEnd = true
shape_below k (shape.Concatenation a b) = shape_below k a && shape_below k b
shape_below k (shape.Alternation a b) = shape_below k a && shape_below k b
shape_below k (shape.Permute a) = shape_below k a
shape_below k (shape.Beside a b) = shape_below k a && shape_below k b
shape_below k (shape.Exclusion a) = shape_below k a
shape_below k (shape.Quantified a lower upper reluctant) = shape_below k a

and_true : (b : Bool) → b && true ≡ b
and_true true = refl
and_true false = refl

below_joined : (k : ℕ) (s : Shape) (ss : List Shape) → shape_below k (shape.joined shape.Beside s ss) ≡ (shape_below k s && all_true (map (shape_below k) ss))
below_joined k s [] = sym (and_true (shape_below k s))
below_joined k s (t ∷ ts) = ap (λ b. shape_below k s && b) (below_joined k t ts)

below_beside : (k : ℕ) (ss : List Shape) → shape_below k (shape.joined_all shape.Beside ss) ≡ all_true (map (shape_below k) ss)
below_beside k [] = refl
below_beside k (s ∷ ss) = below_joined k s ss

module _ (k : ℕ) where
  abbrev IsSame : Form → Type 0
  IsSame f = are_below k f ≡ shape_below k (shape_of f)

  abbrev forms : Form-F ((f : Form) × IsSame f) → Form-F Form
  forms y = map-Form ((f : Form) × IsSame f) Form (λ t. t.0) y

  same_parts : {B : Type 0} (value : B → (f : Form) × IsSame f) (ps : List B) → map (λ p. are_below k (value p).0) ps ≡ map (shape_below k) (map (λ p. shape_of (value p).0) ps)
  same_parts value [] = refl
  same_parts value (p ∷ ps) = rw ((value p).1) (ap (λ bs. shape_below k (shape_of (value p).0) ∷ bs) (same_parts value ps))

  map_twice : {A B C : Type 0} (f : B → C) (g : A → B) (xs : List A) → map f (map g xs) ≡ map (λ x. f (g x)) xs
  map_twice f g [] = refl
  map_twice f g (x ∷ xs) = ap (λ ys. f (g x) ∷ ys) (map_twice f g xs)

  layer : (y : Form-F ((f : Form) × IsSame f)) → below_step k (map-Form Form Bool (are_below k) (forms y)) ≡ shape_below k (shape_step (map-Form Form Shape shape_of (forms y)))
  layer (Variable v) = refl
  layer Empty = refl
  layer (Concatenation p q) = rw (p.value.1, q.value.1) refl
  layer (Alternation p q) = rw (p.value.1, q.value.1) refl
  layer PartitionStart = refl
  layer PartitionEnd = refl
  layer (Permute ps) = simp map_twice (ap all_true (same_parts (λ p. p.value) ps.items) ∙ sym (below_beside k (map (λ p. shape_of p.value.0) ps.items)))
  layer (Exclusion p) = p.value.1
  layer (Quantified p lower upper reluctant) = p.value.1

  -- the variables of a pattern are those of its shape
  pub below_shape : (f : Form) → are_below k f ≡ shape_below k (shape_of f)
  below_shape = ind-Form IsSame (λ x y is.
      subst (λ z. IsSame (roll-Form z)) is
      (rw (fold-roll-Form Bool (below_step k) (forms y), fold-roll-Form Shape shape_step (forms y)) (layer y)))

any_before : {A : Type 0} (p : A → Bool) (xs ys : List A) → list_any p xs ≡ true → list_any p (xs ++ ys) ≡ true
any_before p [] ys e = cc
any_before p (x ∷ xs) ys e = go (p x) (any_before p xs ys) e
  where
    go : (b : Bool) → (list_any p xs ≡ true → list_any p (xs ++ ys) ≡ true) → (b || list_any p xs) ≡ true → (b || list_any p (xs ++ ys)) ≡ true
    go true rest e = refl
    go false rest e = rest e

any_behind : {A : Type 0} (p : A → Bool) (xs : List A) (y : A) → p y ≡ true → list_any p (xs ++ y ∷ []) ≡ true
any_behind p [] y e = rw e refl
any_behind p (x ∷ xs) y e = go (p x) (any_behind p xs y e)
  where
    go : (b : Bool) → list_any p (xs ++ y ∷ []) ≡ true → (b || list_any p (xs ++ y ∷ [])) ≡ true
    go true rest = refl
    go false rest = rest

added_there : (names : List (List ℕ)) (name : List ℕ) → is_among name (added names name) ≡ true
added_there names name = go (is_among name names) refl
  where
    go : (b : Bool) → is_among name names ≡ b → is_among name (cond b names (names ++ name ∷ [])) ≡ true
    go true e = e
    go false e = any_behind (λ other. is_name name other) names name (nat_list_eq_equiv.refl name)

added_stays : (names : List (List ℕ)) (other name : List ℕ) → is_among name names ≡ true → is_among name (added names other) ≡ true
added_stays names other name e = go (is_among other names)
  where
    go : (b : Bool) → is_among name (cond b names (names ++ other ∷ [])) ≡ true
    go true = e
    go false = any_before (λ n. is_name name n) names (other ∷ []) e

-- a name that is there stays when a pattern's are added
there_after : (names : List (List ℕ)) (t : Tree) (name : List ℕ) → is_among name names ≡ true → is_among name (variables_after names t) ≡ true
there_after names (tree.Variable n) name e = added_stays names n.text name e
there_after names tree.Empty name e = e
there_after names tree.PartitionStart name e = e
there_after names tree.PartitionEnd name e = e
there_after names (tree.Concatenation a b) name e = there_after (variables_after names a) b name (there_after names a name e)
there_after names (tree.Alternation a b) name e = there_after (variables_after names a) b name (there_after names a name e)
there_after names (tree.Beside a b) name e = there_after (variables_after names a) b name (there_after names a name e)
there_after names (tree.Permute at body) name e = there_after names body name e
there_after names (tree.Exclusion at body) name e = there_after names body name e
there_after names (tree.Quantified q body) name e = there_after names body name e

-- each variable of the pattern is among these names
abbrev AreAmong : List (List ℕ) → Tree → Type 0
AreAmong names t = shape_below (length names) (shaped names t) ≡ true

module _ (names more : List (List ℕ)) (stay : (name : List ℕ) → is_among name names ≡ true → is_among name more ≡ true) where
  both_more : (a b : Tree) → (AreAmong names a → AreAmong more a) → (AreAmong names b → AreAmong more b)
      → (shape_below (length names) (shaped names a) && shape_below (length names) (shaped names b)) ≡ true
      → (shape_below (length more) (shaped more a) && shape_below (length more) (shaped more b)) ≡ true
  both_more a b left right e = let both = both_true _ _ e in rw (left both.0, right both.1) refl

  among_more : (t : Tree) → AreAmong names t → AreAmong more t
  among_more (tree.Variable n) e = sym (among_place (λ other. is_name n.text other) more) ∙ stay n.text (among_place (λ other. is_name n.text other) names ∙ e)
  among_more tree.Empty e = refl
  among_more tree.PartitionStart e = refl
  among_more tree.PartitionEnd e = refl
  among_more (tree.Concatenation a b) e = both_more a b (among_more a) (among_more b) e
  among_more (tree.Alternation a b) e = both_more a b (among_more a) (among_more b) e
  among_more (tree.Beside a b) e = both_more a b (among_more a) (among_more b) e
  among_more (tree.Permute at body) e = among_more body e
  among_more (tree.Exclusion at body) e = among_more body e
  among_more (tree.Quantified q body) e = among_more body e

both_after : (names : List (List ℕ)) (a b : Tree) → AreAmong (variables_after names a) a → AreAmong (variables_after (variables_after names a) b) b
    → let all = variables_after (variables_after names a) b in (shape_below (length all) (shaped all a) && shape_below (length all) (shaped all b)) ≡ true
both_after names a b left right =
    let still : AreAmong (variables_after (variables_after names a) b) a = among_more (variables_after names a) (variables_after (variables_after names a) b) (there_after (variables_after names a) b) a left in
    rw (still, right) refl

among_after : (names : List (List ℕ)) (t : Tree) → AreAmong (variables_after names t) t
among_after names (tree.Variable n) = sym (among_place (λ other. is_name n.text other) (added names n.text)) ∙ added_there names n.text
among_after names tree.Empty = refl
among_after names tree.PartitionStart = refl
among_after names tree.PartitionEnd = refl
among_after names (tree.Concatenation a b) = both_after names a b (among_after names a) (among_after (variables_after names a) b)
among_after names (tree.Alternation a b) = both_after names a b (among_after names a) (among_after (variables_after names a) b)
among_after names (tree.Beside a b) = both_after names a b (among_after names a) (among_after (variables_after names a) b)
among_after names (tree.Permute at body) = among_after names body
among_after names (tree.Exclusion at body) = among_after names body
among_after names (tree.Quantified q body) = among_after names body

-- a pattern of the shape that is written has variables below the number of its names
pub variables_below : (t : Tree) (f : Form) → shape_of f ≡ shaped (variables_of t) t → are_below (length (variables_of t)) f ≡ true
variables_below t f is = below_shape (length (variables_of t)) f ∙ (ap (shape_below (length (variables_of t))) is ∙ among_after [] t)
