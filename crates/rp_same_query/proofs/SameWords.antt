-- Patterns of one shape have the same words.
use Rattle.std.proofs.Common.{◌≡◌, ◌∙◌, ℕ, Bool, true, false, ◌&&◌, List, [], ◌∷◌, ◌++◌, map, length, refl, sym, ap, subst}
use Rattle.std.specs.Prelude.{nat_le}
use Rattle.std.proofs.lemmas.List.{length-map}
use Rattle.rp_words.specs.declared.form.Form.{Form}
use Rattle.rp_words.specs.declared.form.Form.TheOpen.{Form-F, Variable, Empty, Concatenation, Alternation, PartitionStart, PartitionEnd, Permute, Exclusion, Quantified}
use Rattle.rp_words.specs.declared.form.Form.TheViews.{roll-Form}
use Rattle.rp_words.specs.declared.form.Form.TheFolds.{map-Form, fold-roll-Form, ind-Form}
use Rattle.rp_words.specs.declared.word.End.{End}
use Rattle.rp_words.specs.Bounds.{is_allowed, allowed_step, bounds_hold}
use Rattle.rp_words.specs.Variables.{all_true}
use Rattle.rp_words.specs.Words.{Mappings, words, words_step, one_row, nothing_mapped, at_start, at_end, concatenation, alternation, exclusion, quantified, permuted}
use Rattle.rp_same_query.specs.SameQuery.{WordsFollow}
use Rattle.rp_same_query.specs.Shapes as shape
use Rattle.rp_same_query.specs.Shapes.{Shape, shape_of, shape_step}

both_true : (a b : Bool) → (a && b) ≡ true → (a ≡ true) × (b ≡ true)
both_true true b e = (refl, e)
both_true false b e = (cc, cc)

abbrev first : List Mappings → Mappings
first [] = nothing_mapped
first (p ∷ ps) = p

same_first : (p q : Mappings) → p ∷ [] ≡ q ∷ [] → p ≡ q
same_first p q e = ap first e

last_true : (a b c : Bool) → (a && b && c) ≡ true → c ≡ true
last_true true true c e = e
last_true true false c e = absurd cc
last_true false b c e = absurd cc

module _ (n : ℕ) (end : End) where
  -- the words of each part of a shape
  abbrev parts : Shape → List Mappings
  parts (shape.Variable v) = one_row n end v ∷ []
  parts shape.Empty = nothing_mapped ∷ []
  parts shape.PartitionStart = at_start ∷ []
  parts shape.PartitionEnd = at_end n end ∷ []
  parts (shape.Concatenation a b) = concatenation (first (parts a)) (first (parts b)) ∷ []
  parts (shape.Alternation a b) = alternation (first (parts a)) (first (parts b)) ∷ []
  parts (shape.Permute a) = permuted (parts a) ∷ []
  parts (shape.Beside a b) = parts a ++ parts b
  parts (shape.Exclusion a) = exclusion (first (parts a)) ∷ []
  parts (shape.Quantified a lower upper reluctant) = quantified n lower upper reluctant (first (parts a)) ∷ []

  abbrev HasWords : Form → Type 0
  HasWords f = is_allowed f ≡ true → parts (shape_of f) ≡ words n end f ∷ []

  abbrev forms : Form-F ((f : Form) × HasWords f) → Form-F Form
  forms y = map-Form ((f : Form) × HasWords f) Form (λ t. t.0) y

  module _ {B : Type 0} (value : B → (f : Form) × HasWords f) where
    beside : (p : B) (ps : List B) → all_true (map (λ q. is_allowed (value q).0) (p ∷ ps)) ≡ true
        → parts (shape.joined shape.Beside (shape_of (value p).0) (map (λ q. shape_of (value q).0) ps)) ≡ map (λ q. words n end (value q).0) (p ∷ ps)
    beside p [] e = (value p).1 (both_true _ _ e).0
    beside p (q ∷ qs) e = let both = both_true _ _ e in rw ((value p).1 both.0) (ap (λ ws. words n end (value p).0 ∷ ws) (beside q qs both.1))

    in_any_order : (ps : List B) → (nat_le 1 (length ps) && nat_le (length ps) 8 && all_true (map (λ q. is_allowed (value q).0) ps)) ≡ true
        → parts (shape.joined_all shape.Beside (map (λ q. shape_of (value q).0) ps)) ≡ map (λ q. words n end (value q).0) ps
    in_any_order [] e = absurd cc
    in_any_order (p ∷ ps) e = beside p ps (last_true (nat_le 1 (length (p ∷ ps))) (nat_le (length (p ∷ ps)) 8) (all_true (map (λ q. is_allowed (value q).0) (p ∷ ps))) e)

  map_twice : {A B C : Type 0} (f : B → C) (g : A → B) (xs : List A) → map f (map g xs) ≡ map (λ x. f (g x)) xs
  map_twice f g [] = refl
  map_twice f g (x ∷ xs) = ap (λ ys. f (g x) ∷ ys) (map_twice f g xs)

  layer : (y : Form-F ((f : Form) × HasWords f)) → allowed_step (map-Form Form Bool is_allowed (forms y)) ≡ true
      → parts (shape_step (map-Form Form Shape shape_of (forms y))) ≡ words_step n end (map-Form Form Mappings (words n end) (forms y)) ∷ []
  layer (Variable v) e = refl
  layer Empty e = refl
  layer (Concatenation p q) e = let both = both_true _ _ e in rw (p.value.1 both.0, q.value.1 both.1) refl
  layer (Alternation p q) e = let both = both_true _ _ e in rw (p.value.1 both.0, q.value.1 both.1) refl
  layer PartitionStart e = refl
  layer PartitionEnd e = refl
  layer (Permute ps) e =
      let told : allowed_step (map-Form Form Bool is_allowed (forms (Permute ps))) ≡ (nat_le 1 (length ps.items) && nat_le (length ps.items) 8 && all_true (map (λ p. is_allowed p.value.0) ps.items)) = simp (map_twice, length-map) in
      simp map_twice (ap (λ ws. permuted ws ∷ []) (in_any_order (λ p. p.value) ps.items (sym told ∙ e)))
  layer (Exclusion p) e = rw (p.value.1 e) refl
  layer (Quantified p lower upper reluctant) e = let both = both_true (bounds_hold lower upper) (is_allowed p.value.0) e in rw (p.value.1 both.1) refl

  has_words : (f : Form) → HasWords f
  has_words = ind-Form HasWords (λ x y is.
      subst (λ z. HasWords (roll-Form z)) is
      (rw (fold-roll-Form Bool allowed_step (forms y), fold-roll-Form Shape shape_step (forms y), fold-roll-Form Mappings (words_step n end) (forms y)) (layer y)))

pub words_follow : WordsFollow
words_follow f g same first second n end =
    same_first (words n end f) (words n end g) (sym (has_words n end f first) ∙ (ap (parts n end) same ∙ has_words n end g second))
