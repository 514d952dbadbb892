-- What the folds are at a PERMUTE, whose parts stand behind `Rc`.
use Rattle.std.proofs.Common.{◌≡◌, ◌∙◌, ℕ, ◌≤◌, Bool, true, List, [], ◌∷◌, map, length, refl, sym, ap, arith}
use Rattle.std.specs.Prelude.{◌&&◌, nat_le}
use Rattle.std.specs.declared.vec.Vec.{Vec}
use Rattle.std.specs.declared.rc.Rc.{Rc}
use Rattle.std.specs.declared.alloc.Global.{Global}
use Rattle.std.proofs.lemmas.List.{length-map}
use Rattle.std.proofs.lemmas.Bool.Decides.{nat_tests}
use Rattle.rp_words.specs.declared.form.Form.{Form}
use Rattle.rp_words.specs.declared.form.Form.TheOpen as F
use Rattle.rp_words.specs.declared.form.Form.TheVariants as V
use Rattle.rp_words.specs.declared.form.Form.TheFolds.{fold-roll-Form}
use Rattle.rp_words.specs.Bounds.{is_allowed, allowed_step}
use Rattle.rp_words.specs.Variables.{all_true}
use Rattle.rp_same_query.specs.Shapes as shape
use Rattle.rp_same_query.specs.Shapes.{Shape, shape_of, shape_step}
use Rattle.rp_resolution.specs.Reading.{one_at_least}

map_twice : {A B C : Type 0} (f : B → C) (g : A → B) (xs : List A) → map f (map g xs) ≡ map (λ x. f (g x)) xs
map_twice f g [] = refl
map_twice f g (x ∷ xs) = ap (λ ys. f (g x) ∷ ys) (map_twice f g xs)

shape_permute : (ps : Vec (Rc Form Global) Global) → shape_of (V.Permute ps) ≡ shape.Permute (shape.joined_all shape.Beside (map (λ p. shape_of p.value) ps.items))
shape_permute ps = ap shape_of (sym (V.rolls-Permute ps)) ∙ fold-roll-Form Shape shape_step (F.Permute ps) ∙ simp map_twice

allowed_permute : (ps : Vec (Rc Form Global) Global) → is_allowed (V.Permute ps) ≡ (nat_le 1 (length ps.items) && nat_le (length ps.items) 8 && all_true (map (λ p. is_allowed p.value) ps.items))
allowed_permute ps = ap is_allowed (sym (V.rolls-Permute ps)) ∙ fold-roll-Form Bool allowed_step (F.Permute ps) ∙ simp (map_twice, length-map)

shape_empty : shape_of V.Empty ≡ shape.Empty
shape_empty = ap shape_of (sym V.rolls-Empty) ∙ fold-roll-Form Shape shape_step F.Empty

allowed_empty : is_allowed V.Empty ≡ true
allowed_empty = ap is_allowed (sym V.rolls-Empty) ∙ fold-roll-Form Bool allowed_step F.Empty

shape_some : (fs : List Form) → shape.joined_all shape.Beside (map shape_of (one_at_least fs)) ≡ shape.joined_all shape.Beside (map shape_of fs)
shape_some [] = shape_empty
shape_some (f ∷ fs) = refl

allowed_some : (fs : List Form) → all_true (map is_allowed fs) ≡ true → all_true (map is_allowed (one_at_least fs)) ≡ true
allowed_some [] e = rw allowed_empty refl
allowed_some (f ∷ fs) e = e

some_length : (fs : List Form) → length fs ≤ 8 → (1 ≤ length (one_at_least fs)) × (length (one_at_least fs) ≤ 8)
some_length [] h = (omega arith, omega arith)
some_length (f ∷ fs) h = (omega arith, h)

both_hold : (n : ℕ) (b : Bool) → 1 ≤ n → n ≤ 8 → b ≡ true → (nat_le 1 n && nat_le n 8 && b) ≡ true
both_hold n b few many e = let p : nat_le 1 n ≡ true = grind (arith, nat_tests) in let q : nat_le n 8 ≡ true = grind (arith, nat_tests) in rw (p, q, e) refl

-- owners of some forms, as the parts of a PERMUTE
pub permuted_shape : (ps : Vec (Rc Form Global) Global) (fs : List Form) → map (λ r. r.value) ps.items ≡ one_at_least fs → shape_of (V.Permute ps) ≡ shape.Permute (shape.joined_all shape.Beside (map shape_of fs))
permuted_shape ps fs e =
    shape_permute ps ∙ ap (λ ss. shape.Permute (shape.joined_all shape.Beside ss)) (sym (map_twice shape_of (λ (r : Rc Form Global). r.value) ps.items) ∙ ap (map shape_of) e) ∙ ap shape.Permute (shape_some fs)

pub permuted_allowed : (ps : Vec (Rc Form Global) Global) (fs : List Form) → map (λ r. r.value) ps.items ≡ one_at_least fs → length fs ≤ 8 → all_true (map is_allowed fs) ≡ true → is_allowed (V.Permute ps) ≡ true
permuted_allowed ps fs e few holds =
    let all : all_true (map (λ p. is_allowed p.value) ps.items) ≡ true = ap all_true (sym (map_twice is_allowed (λ (r : Rc Form Global). r.value) ps.items) ∙ ap (map is_allowed) e) ∙ allowed_some fs holds in
    let many : length ps.items ≡ length (one_at_least fs) = sym (length-map ps.items (λ (r : Rc Form Global). r.value)) ∙ ap length e in
    let lens = some_length fs few in
    allowed_permute ps ∙ both_hold (length ps.items) (all_true (map (λ p. is_allowed p.value) ps.items)) (omega (arith, many, lens.0)) (omega (arith, many, lens.1)) all
