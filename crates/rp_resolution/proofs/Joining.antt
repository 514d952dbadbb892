-- Parts that are read one after another, and joined to one pattern.
use Rattle.std.proofs.Common.{◌≡◌, ◌∙◌, ℕ, suc, ◌+◌, ◌≤◌, Bool, true, false, ◌&&◌, List, [], ◌∷◌, ◌++◌, map, length, refl, sym, ap, cond, arith, ◌<◌, ◌||◌, Option, None, Some}
use Rattle.std.proofs.lemmas.List.{append-nil}
use Rattle.std.specs.List.{list_any, position, position_or_len}
use Rattle.std.specs.Prelude.{not, nat_lt, unwrap_or, option_map}
use Rattle.std.proofs.lemmas.Bool.Decides.{nat_tests}
use Rattle.rp_words.specs.declared.form.Form.{Form}
use Rattle.rp_words.specs.Bounds.{is_allowed}
use Rattle.rp_words.specs.Variables.{all_true}
use Rattle.rp_tree.specs.declared.tree.Quantifier.{Quantifier}
use Rattle.rp_tree.specs.Tree as tree
use Rattle.rp_tree.specs.Tree.{Tree}
use Rattle.rp_resolution.specs.PartFaults.{pattern_faults, first_of, first_exclusion}
use Rattle.rp_resolution.specs.Variables.{variables_after}
use Rattle.rp_same_query.specs.Shapes.{Shape, shape_of}
use Rattle.rp_resolution.specs.Shapes.{shaped}
use Rattle.rp_same_query.specs.Shapes as shape
use Rattle.rp_resolution.specs.declared.pattern.Joint.{Joint}
use Rattle.rp_resolution.specs.declared.pattern.Joint.TheVariants.{Concatenation, Alternation}
use Rattle.rp_resolution.specs.Joints.{tree_joint, shape_joint}
use Rattle.rp_resolution.specs.Reading.{Reads, ReadsAll, all_after, all_faults, exclusion_among}

-- two parts that are joined have the faults, the names and the shape of both
pub record Joins (f : Tree → Tree → Tree) (g : Shape → Shape → Shape) : Type 0 where
  pub faults : (a b : Tree) → pattern_faults (f a b) ≡ pattern_faults a ++ pattern_faults b
  pub names : (ns : List (List ℕ)) (a b : Tree) → variables_after ns (f a b) ≡ variables_after (variables_after ns a) b
  pub shape : (ns : List (List ℕ)) (a b : Tree) → shaped ns (f a b) ≡ g (shaped ns a) (shaped ns b)
  pub exclusion : (a b : Tree) → first_exclusion (f a b) ≡ first_of (first_exclusion a) (first_exclusion b)

pub in_turn : Joins tree.Concatenation shape.Concatenation
in_turn = record { faults = λ a b. refl; names = λ ns a b. refl; shape = λ ns a b. refl; exclusion = λ a b. refl }

pub one_of : Joins tree.Alternation shape.Alternation
one_of = record { faults = λ a b. refl; names = λ ns a b. refl; shape = λ ns a b. refl; exclusion = λ a b. refl }

pub by_joint : (joint : Joint) → Joins (tree_joint joint) (shape_joint joint)
by_joint Concatenation = in_turn
by_joint Alternation = one_of

pub beside : Joins tree.Beside shape.Beside
beside = record { faults = λ a b. refl; names = λ ns a b. refl; shape = λ ns a b. refl; exclusion = λ a b. refl }

joined_faults : (f : Tree → Tree → Tree) (g : Shape → Shape → Shape) → Joins f g → (t : Tree) (ts : List Tree) → pattern_faults (tree.joined f t ts) ≡ pattern_faults t ++ all_faults ts
joined_faults f g j t [] = sym (append-nil (pattern_faults t))
joined_faults f g j t (u ∷ us) = j.faults t (tree.joined f u us) ∙ ap (λ z. pattern_faults t ++ z) (joined_faults f g j u us)

pub faults_joined : (f : Tree → Tree → Tree) (g : Shape → Shape → Shape) → Joins f g → (ts : List Tree) → pattern_faults (tree.joined_all f ts) ≡ all_faults ts
faults_joined f g j [] = refl
faults_joined f g j (t ∷ ts) = joined_faults f g j t ts

joined_names : (f : Tree → Tree → Tree) (g : Shape → Shape → Shape) → Joins f g → (ns : List (List ℕ)) (t : Tree) (ts : List Tree) → variables_after ns (tree.joined f t ts) ≡ all_after (variables_after ns t) ts
joined_names f g j ns t [] = refl
joined_names f g j ns t (u ∷ us) = j.names ns t (tree.joined f u us) ∙ joined_names f g j (variables_after ns t) u us

pub names_joined : (f : Tree → Tree → Tree) (g : Shape → Shape → Shape) → Joins f g → (ns : List (List ℕ)) (ts : List Tree) → variables_after ns (tree.joined_all f ts) ≡ all_after ns ts
names_joined f g j ns [] = refl
names_joined f g j ns (t ∷ ts) = joined_names f g j ns t ts

joined_shape : (f : Tree → Tree → Tree) (g : Shape → Shape → Shape) → Joins f g → (ns : List (List ℕ)) (t : Tree) (ts : List Tree) → shaped ns (tree.joined f t ts) ≡ shape.joined g (shaped ns t) (map (shaped ns) ts)
joined_shape f g j ns t [] = refl
joined_shape f g j ns t (u ∷ us) = j.shape ns t (tree.joined f u us) ∙ ap (g (shaped ns t)) (joined_shape f g j ns u us)

pub shape_joined : (f : Tree → Tree → Tree) (g : Shape → Shape → Shape) → Joins f g → (ns : List (List ℕ)) (ts : List Tree) → shaped ns (tree.joined_all f ts) ≡ shape.joined_all g (map (shaped ns) ts)
shape_joined f g j ns [] = refl
shape_joined f g j ns (t ∷ ts) = joined_shape f g j ns t ts

first_of_none : (a : Option ℕ) → first_of a None ≡ a
first_of_none None = refl
first_of_none (Some at) = refl

joined_exclusion : (f : Tree → Tree → Tree) (g : Shape → Shape → Shape) → Joins f g → (t : Tree) (ts : List Tree) → first_exclusion (tree.joined f t ts) ≡ first_of (first_exclusion t) (exclusion_among ts)
joined_exclusion f g j t [] = sym (first_of_none (first_exclusion t))
joined_exclusion f g j t (u ∷ us) = j.exclusion t (tree.joined f u us) ∙ ap (first_of (first_exclusion t)) (joined_exclusion f g j u us)

pub exclusion_joined : (f : Tree → Tree → Tree) (g : Shape → Shape → Shape) → Joins f g → (ts : List Tree) → first_exclusion (tree.joined_all f ts) ≡ exclusion_among ts
exclusion_joined f g j [] = refl
exclusion_joined f g j (t ∷ ts) = joined_exclusion f g j t ts

-- parts that are read, as the one pattern that they are joined to
pub reads_joined : (f : Tree → Tree → Tree) (g : Shape → Shape → Shape) → Joins f g → (names : List (List ℕ)) (ts : List Tree) (now : List (List ℕ)) (fs : List Form) (whole : Form)
    → ReadsAll names ts now fs → shape_of whole ≡ shape.joined_all g (map shape_of fs) → is_allowed whole ≡ true → Reads names (tree.joined_all f ts) now whole
reads_joined f g j names ts now fs whole r is allowed = record {
  allowed = allowed;
  names = r.names ∙ sym (names_joined f g j names ts);
  extra = r.extra;
  grown = r.grown;
  shape = λ more. is ∙ (ap (shape.joined_all g) (r.shapes more) ∙ sym (shape_joined f g j (now ++ more) ts));
}

-- parts that are read, as those of a PERMUTE
pub reads_permuted : (names : List (List ℕ)) (at : ℕ) (ts : List Tree) (now : List (List ℕ)) (fs : List Form) (whole : Form)
    → ReadsAll names ts now fs → shape_of whole ≡ shape.Permute (shape.joined_all shape.Beside (map shape_of fs)) → is_allowed whole ≡ true → Reads names (tree.Permute at (tree.joined_all tree.Beside ts)) now whole
reads_permuted names at ts now fs whole r is allowed = record {
  allowed = allowed;
  names = r.names ∙ sym (names_joined tree.Beside shape.Beside beside names ts);
  extra = r.extra;
  grown = r.grown;
  shape = λ more. is ∙ ap shape.Permute (ap (shape.joined_all shape.Beside) (r.shapes more) ∙ sym (shape_joined tree.Beside shape.Beside beside (now ++ more) ts));
}

-- a part that is read, as one whose rows aren't shown
pub reads_hidden : (names : List (List ℕ)) (at : ℕ) (t : Tree) (now : List (List ℕ)) (body whole : Form)
    → Reads names t now body → shape_of whole ≡ shape.Exclusion (shape_of body) → is_allowed whole ≡ is_allowed body → Reads names (tree.Exclusion at t) now whole
reads_hidden names at t now body whole r is allowed = record {
  allowed = allowed ∙ r.allowed;
  names = r.names;
  extra = r.extra;
  grown = r.grown;
  shape = λ more. is ∙ ap shape.Exclusion (r.shape more);
}

-- a part that is read, as one that is repeated
pub reads_repeated : (names : List (List ℕ)) (q : Quantifier) (t : Tree) (now : List (List ℕ)) (body whole : Form)
    → Reads names t now body → shape_of whole ≡ shape.Quantified (shape_of body) q.lower.count (option_map (λ b. b.count) q.upper) q.reluctant
    → is_allowed whole ≡ is_allowed body → Reads names (tree.Quantified q t) now whole
reads_repeated names q t now body whole r is allowed = record {
  allowed = allowed ∙ r.allowed;
  names = r.names;
  extra = r.extra;
  grown = r.grown;
  shape = λ more. is ∙ ap (λ s. shape.Quantified s q.lower.count (option_map (λ b. b.count) q.upper) q.reluctant) (r.shape more);
}

-- the last two of a list of shapes are joined
pub last_joined : (g : Shape → Shape → Shape) (ss : List Shape) (a b : Shape) → shape.joined_all g (ss ++ g a b ∷ []) ≡ shape.joined_all g ((ss ++ a ∷ []) ++ b ∷ [])
last_joined g [] a b = refl
last_joined g (s ∷ ss) a b = more s ss
  where
    more : (t : Shape) (ts : List Shape) → shape.joined g t (ts ++ g a b ∷ []) ≡ shape.joined g t ((ts ++ a ∷ []) ++ b ∷ [])
    more t [] = refl
    more t (u ∷ us) = ap (g t) (more u us)

-- the last two that are joined are allowed where both are
pub last_allowed : (bs : List Bool) (a b : Bool) → all_true ((bs ++ a ∷ []) ++ b ∷ []) ≡ all_true (bs ++ (a && b) ∷ [])
last_allowed [] true b = refl
last_allowed [] false b = refl
last_allowed (true ∷ bs) a b = last_allowed bs a b
last_allowed (false ∷ bs) a b = refl

shift : (m n : ℕ) → nat_lt m n ≡ nat_lt (1 + m) (suc n)
shift m n = grind (arith, nat_tests)

first_below : (k : ℕ) → true ≡ nat_lt 0 (suc k)
first_below k = grind (arith, nat_tests)

among_step : {A : Type 0} (p : A → Bool) (xs : List A) (b : Bool) → list_any p xs ≡ nat_lt (position_or_len p xs) (length xs) → (b || list_any p xs) ≡ nat_lt (cond (not b) (1 + position_or_len p xs) 0) (suc (length xs))
among_step p xs true e = first_below (length xs)
among_step p xs false e = e ∙ shift (position_or_len p xs) (length xs)

-- a name that is among the names is numbered
pub among_place : {A : Type 0} (p : A → Bool) (xs : List A) → list_any p xs ≡ nat_lt (position_or_len p xs) (length xs)
among_place p [] = refl
among_place p (x ∷ xs) = among_step p xs (p x) (among_place p xs)

stays_step : (b : Bool) (m n k : ℕ) → (m < k → n ≡ m) → cond (not b) (1 + m) 0 < suc k → cond (not b) (1 + n) 0 ≡ cond (not b) (1 + m) 0
stays_step true m n k f h = refl
stays_step false m n k f h = ap (λ z. 1 + z) (f (omega arith))

-- a place among names stays where more follow
pub place_stays : {A : Type 0} (p : A → Bool) (xs more : List A) → position_or_len p xs < length xs → position_or_len p (xs ++ more) ≡ position_or_len p xs
place_stays p [] more h = absurd (omega arith)
place_stays p (x ∷ xs) more h = stays_step (p x) (position_or_len p xs) (position_or_len p (xs ++ more)) (length xs) (place_stays p xs more) h

new_step : (b : Bool) (m n k : ℕ) → (m ≡ k → n ≡ k) → cond (not b) (1 + m) 0 ≡ suc k → cond (not b) (1 + n) 0 ≡ suc k
new_step true m n k f h = absurd (omega arith)
new_step false m n k f h = let e : n ≡ k = f (omega arith) in omega arith

-- one that is put behind has the number of those before
pub place_of_new : {A : Type 0} (p : A → Bool) (xs : List A) (x : A) (more : List A) → p x ≡ true → position_or_len p xs ≡ length xs → position_or_len p ((xs ++ x ∷ []) ++ more) ≡ length xs
place_of_new p [] x more is e = rw is refl
place_of_new p (y ∷ ys) x more is e = new_step (p y) (position_or_len p ys) (position_or_len p ((ys ++ x ∷ []) ++ more)) (length ys) (place_of_new p ys x more is) e

within_step : (b : Bool) (m k : ℕ) → m ≤ k → cond (not b) (1 + m) 0 ≤ suc k
within_step true m k h = omega arith
within_step false m k h = omega arith

pub place_within : {A : Type 0} (p : A → Bool) (xs : List A) → position_or_len p xs ≤ length xs
place_within p [] = omega arith
place_within p (x ∷ xs) = within_step (p x) (position_or_len p xs) (length xs) (place_within p xs)

-- the place of the first that passes, or else the length
pub place_or_length : {A : Type 0} (p : A → Bool) (xs : List A) → unwrap_or (position p xs) (length xs) ≡ position_or_len p xs
place_or_length p xs = go (nat_lt (position_or_len p xs) (length xs)) refl
  where
    go : (b : Bool) → nat_lt (position_or_len p xs) (length xs) ≡ b → unwrap_or (cond b (Some (position_or_len p xs)) None) (length xs) ≡ position_or_len p xs
    go true e = refl
    go false e = let w = place_within p xs in grind (arith, nat_tests)
