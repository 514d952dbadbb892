-- The laws of the words, for every pattern.
use Rattle.std.proofs.Common.{◌≡◌, ℕ, suc, ◌-◌, ◌≤◌, List, [], ◌∷◌, map, Bool, true, false, refl, sym, subst, arith, Option, Some, None, cond}
use Rattle.rp_words.specs.Mapping.{Mapping, Full, Open}
use Rattle.std.specs.Prelude.{nat_le, nat_eq}
use Rattle.std.proofs.lemmas.Bool.Decides.{nat_tests}
use Rattle.std.proofs.lemmas.List.{append-nil}
use Rattle.std.specs.List.{flat_map}
use Rattle.rp_words.specs.declared.form.Form.{Form}
use Rattle.rp_words.specs.declared.form.Form.TheOpen.{Form-F, Variable, Empty, Concatenation, Alternation, PartitionStart, PartitionEnd, Permute, Exclusion, Quantified}
use Rattle.rp_words.specs.declared.form.Form.TheViews.{roll-Form}
use Rattle.rp_words.specs.declared.form.Form.TheFolds.{map-Form, fold-roll-Form, ind-Form}
use Rattle.rp_words.specs.declared.word.End.{End}
use Rattle.rp_words.specs.declared.word.End.TheVariants.{Open as OpenEnd, Closed as ClosedEnd}
use Rattle.rp_words.specs.Words.{Mappings, words, words_step, one_row, at_start, at_end, optional, quantified, sequence, permuted, orders, may_end, may_go_on}
use Rattle.rp_words.specs.WordLaws.{BeginsWith, Extends, done, stays, gone, grows}
use Rattle.rp_words.specs.Later.{IsLater}
use Rattle.rp_words.proofs.Lists.{map-map}
use Rattle.rp_words.proofs.Bounds.{AreWithin, optional_enough}
use Rattle.rp_words.proofs.Within.{words_within}
use Rattle.rp_words.proofs.Extension.{Extends-append, Extends-concatenation, Extends-excluded, Extends-optional, Extends-required}
use Rattle.rp_words.proofs.Arrangements.{permuted-map}

begins_empty : (w : Mapping) → BeginsWith [] w
begins_empty (Full ls) = record { rest = ls; begins = refl }
begins_empty (Open ls) = record { rest = ls; begins = refl }

-- anything may come in the place of the open word without labels
Extends-unknown : (ws : List Mapping) → Extends (Open [] ∷ []) ws
Extends-unknown [] = gone done
Extends-unknown (w ∷ ws) = grows (begins_empty w) (Extends-unknown ws)

module _ {A : Type 0} (f g : A → Mappings) (each : (x : A) (i : ℕ) → Extends (f x i) (g x i)) where
  sequence_extends : (xs : List A) (i : ℕ) → Extends (sequence (map f xs) i) (sequence (map g xs) i)
  sequence_extends [] i = stays done
  sequence_extends (x ∷ xs) i = Extends-concatenation (f x) (g x) (sequence (map f xs)) (sequence (map g xs)) (each x) (sequence_extends xs) i

  orders_extend : (i : ℕ) (xss : List (List A)) → Extends (flat_map (λ xs. sequence (map f xs) i) xss) (flat_map (λ xs. sequence (map g xs) i) xss)
  orders_extend i [] = done
  orders_extend i (xs ∷ xss) = Extends-append (sequence_extends xs i) (orders_extend i xss)

  permuted_extends : (xs : List A) (i : ℕ) → Extends (permuted (map f xs) i) (permuted (map g xs) i)
  permuted_extends xs i = rw (permuted-map f xs i, permuted-map g xs i) (orders_extend i (orders xs))

module _ (n n' : ℕ) (e' : End) (more : n ≤ n') where
  one_row_extends : (v i : ℕ) → Extends (one_row n OpenEnd v i) (one_row n' e' v i)
  one_row_extends v i = go (nat_le i n) (nat_le i n') refl refl
    where
      row : List Mapping
      row = Full (record { var = v; excluded = false } ∷ []) ∷ []

      go : (b c : Bool) → nat_le i n ≡ b → nat_le i n' ≡ c → Extends (cond b row (may_go_on OpenEnd)) (cond c row (may_go_on e'))
      go true true h k = stays done
      go true false h k = absurd (grind (arith, nat_tests))
      go false c h k = Extends-unknown (cond c row (may_go_on e'))

  at_end_extends : (i : ℕ) → Extends (at_end n OpenEnd i) (at_end n' e' i)
  at_end_extends i = go (nat_le i n) (nat_le i n') refl refl
    where
      go : (b c : Bool) → nat_le i n ≡ b → nat_le i n' ≡ c → Extends (cond b [] (may_end OpenEnd)) (cond c [] (may_end e'))
      go true true h k = done
      go true false h k = absurd (grind (arith, nat_tests))
      go false c h k = Extends-unknown (cond c [] (may_end e'))

  at_start_extends : (i : ℕ) → Extends (at_start i) (at_start i)
  at_start_extends i = go (nat_eq i 1)
    where
      go : (b : Bool) → Extends (cond b (Full [] ∷ []) []) (cond b (Full [] ∷ []) [])
      go true = stays done
      go false = done

  quantified_extends : (lower : ℕ) (upper : Option ℕ) (reluctant : Bool) (p p' : Mappings) → AreWithin n p → ((i : ℕ) → Extends (p i) (p' i)) → (i : ℕ) → Extends (quantified n lower upper reluctant p i) (quantified n' lower upper reluctant p' i)
  quantified_extends lower (Some upper) reluctant p p' w r i =
      Extends-required p p' (optional reluctant p (upper - lower)) (optional reluctant p' (upper - lower)) r (Extends-optional reluctant p p' r (upper - lower)) lower i
  quantified_extends lower None reluctant p p' w r i =
      Extends-required p p' (optional reluctant p (suc (suc n))) (optional reluctant p' (suc (suc n'))) r
      (λ j. subst (λ ws. Extends ws (optional reluctant p' (suc (suc n')) j))
      (optional_enough n reluctant p w (suc (suc n')) (suc (suc n)) j (omega arith) (omega arith))
      (Extends-optional reluctant p p' r (suc (suc n')) j))
      lower i

  abbrev IsExtended : Form → Type 0
  IsExtended f = (i : ℕ) → Extends (words n OpenEnd f i) (words n' e' f i)

  layer_extends : (y : Form-F ((f : Form) × IsExtended f)) (i : ℕ) →
      Extends (words_step n OpenEnd (map-Form Form Mappings (words n OpenEnd) (map-Form ((f : Form) × IsExtended f) Form (λ t. t.0) y)) i)
      (words_step n' e' (map-Form Form Mappings (words n' e') (map-Form ((f : Form) × IsExtended f) Form (λ t. t.0) y)) i)
  layer_extends (Variable v) i = one_row_extends v i
  layer_extends Empty i = stays done
  layer_extends (Concatenation p q) i = Extends-concatenation (words n OpenEnd p.value.0) (words n' e' p.value.0) (words n OpenEnd q.value.0) (words n' e' q.value.0) p.value.1 q.value.1 i
  layer_extends (Alternation p q) i = Extends-append (p.value.1 i) (q.value.1 i)
  layer_extends PartitionStart i = at_start_extends i
  layer_extends PartitionEnd i = at_end_extends i
  layer_extends (Permute ps) i = simp map-map (permuted_extends (λ p. words n OpenEnd p.value.0) (λ p. words n' e' p.value.0) (λ p. p.value.1) ps.items i)
  layer_extends (Exclusion p) i = Extends-excluded (p.value.1 i)
  layer_extends (Quantified p lower upper reluctant) i = quantified_extends lower upper reluctant (words n OpenEnd p.value.0) (words n' e' p.value.0) (words_within n OpenEnd p.value.0) p.value.1 i

  pub words_extend : (f : Form) (i : ℕ) → Extends (words n OpenEnd f i) (words n' e' f i)
  words_extend = ind-Form IsExtended (λ x y is.
      subst (λ z. IsExtended (roll-Form z)) is
      (λ i. rw (
        fold-roll-Form Mappings (words_step n OpenEnd) (map-Form ((f : Form) × IsExtended f) Form (λ t. t.0) y),
        fold-roll-Form Mappings (words_step n' e') (map-Form ((f : Form) × IsExtended f) Form (λ t. t.0) y),
      ) (layer_extends y i)))

Extends-same : (ws : List Mapping) → Extends ws ws
Extends-same [] = done
Extends-same (Full ls ∷ ws) = stays (Extends-same ws)
Extends-same (Open ls ∷ ws) = grows (record { rest = []; begins = append-nil ls }) (gone (Extends-same ws))

pub words_extend_later : (f : Form) (n n' : ℕ) (e e' : End) (i : ℕ) → IsLater n e n' e' → Extends (words n e f i) (words n' e' f i)
words_extend_later f n n' OpenEnd e' i h = words_extend n n' e' h.0 f i
words_extend_later f n n' ClosedEnd e' i h =
    let same = h.1 refl in
    subst (λ d. Extends (words n ClosedEnd f i) (words n' d f i)) (sym same.1)
    (subst (λ m. Extends (words n ClosedEnd f i) (words m ClosedEnd f i)) (sym same.0) (Extends-same (words n ClosedEnd f i)))
