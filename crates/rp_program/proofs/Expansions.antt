-- What a choice leaves when its first part is taken up: the same words, and fewer turns.
use Rattle.std.proofs.Common.{◌≡◌, ℕ, suc, ◌+◌, ◌<◌, ◌≤◌, List, [], ◌∷◌, ◌++◌, map, Bool, true, false, cond, Option, refl, sym, ap, ◌∙◌, arith, subst}
use Rattle.std.specs.Prelude.{nat_le, nat_eq}
use Rattle.std.specs.List.{flat_map}
use Rattle.std.proofs.lemmas.Grind.{flat_map-append}
use Rattle.std.proofs.lemmas.Bool.Decides.{nat_tests}
use Rattle.std.specs.declared.rc.Rc.{Rc}
use Rattle.std.specs.declared.alloc.Global.{Global}
use Rattle.rp_words.specs.declared.form.Form.{Form}
use Rattle.rp_words.specs.declared.form.Form.TheVariants as V
use Rattle.rp_words.specs.declared.word.End.{End}
use Rattle.rp_words.specs.declared.word.End.TheVariants.{Open as OpenEnd, Closed as ClosedEnd}
use Rattle.rp_words.specs.declared.word.Label.{Label}
use Rattle.rp_words.specs.Mapping.{Mapping, Full, Open, preceded, excluded_label, excluded_mapping}
use Rattle.rp_words.specs.Words.{Mappings, may_go_on, may_end, nothing_mapped, followed, concatenation, alternation, exclusion, within_exclusion, moving, only_past, optional, further, words}
use Rattle.rp_words.specs.Turns.{WordsAndTurns, turns, one_turn, concatenation_turns, chain_turns, within, iterations}
use Rattle.rp_program.specs.Parts.{form_part}
use Rattle.rp_program.proofs.Chains.{chain_words, repeated}
use Rattle.rp_words.proofs.Lists.{map-map}
use Rattle.rp_words.proofs.Algebra.{append_nil, concatenation_assoc, concatenation_alternation, concatenation_nothing_first, moving_is}
use Rattle.rp_words.proofs.Bounds.{AreWithin, unbounded}
use Rattle.rp_words.proofs.Excluded.{exclusion_concatenation, exclusion_alternation}
use Rattle.rp_words.proofs.Within.{words_within, exclusion_within}
use Rattle.rp_words.proofs.FormEquations.{words_variable, words_empty, words_start, words_end, words_concatenation, words_alternation, words_exclusion, words_quantified}
use Rattle.rp_words.proofs.TurnEquations.{whole_part, turns_variable, turns_empty, turns_start, turns_end, turns_concatenation, turns_alternation, turns_exclusion, turns_quantified}
use Rattle.rp_words.proofs.TurnsTaken.{same_first, within_concatenation_taken, within_alternation_taken, within_exclusion_taken, required_taken, optional_taken, unbounded_taken, within_iterations_words, within_iterations_turns}

-- The words of parts are those of others, which take a turn less.
pub record Leaves (i : ℕ) (ps qs : List WordsAndTurns) : Type 0 where
  pub words : chain_words qs i ≡ chain_words ps i
  pub turns : chain_turns qs i < chain_turns ps i

-- The words of parts are those of two choices, which take a turn less.
pub record LeavesTwo (i : ℕ) (ps qs rs : List WordsAndTurns) : Type 0 where
  pub words : chain_words qs i ++ chain_words rs i ≡ chain_words ps i
  pub turns : chain_turns qs i + chain_turns rs i < chain_turns ps i

-- ---- a first part with known words

pub same_first_words : (p q : WordsAndTurns) (ps : List WordsAndTurns) (i : ℕ) → p.0 i ≡ q.0 i → chain_words (p ∷ ps) i ≡ chain_words (q ∷ ps) i
same_first_words p q ps i h = ap (flat_map (followed (chain_words ps) i)) h

-- a part that takes no row is passed
pub passed : (p : WordsAndTurns) (ps : List WordsAndTurns) (i : ℕ) → p.0 i ≡ Full [] ∷ [] → p.1 i ≡ 1 → Leaves i (p ∷ ps) ps
passed p ps i w t =
    let a = same_first p (nothing_mapped, one_turn) ps i w t in
    let at : i + 0 ≡ i = omega arith in
    let b = ap (chain_turns ps) at in
    record {
      words = sym (ap (flat_map (followed (chain_words ps) i)) w ∙ concatenation_nothing_first (chain_words ps) i);
      turns = omega (arith, a, b);
    }

-- a part without words has none, and takes a turn
pub no_words : (p : WordsAndTurns) (ps : List WordsAndTurns) (i : ℕ) → p.0 i ≡ [] → [] ≡ chain_words (p ∷ ps) i
no_words p ps i w = sym (ap (flat_map (followed (chain_words ps) i)) w)

pub some_turns : (p : WordsAndTurns) (ps : List WordsAndTurns) (i : ℕ) → p.1 i ≡ 1 → 0 < chain_turns (p ∷ ps) i
some_turns p ps i t = omega (arith, t)

pub open_words : (p : WordsAndTurns) (ps : List WordsAndTurns) (i : ℕ) → p.0 i ≡ Open [] ∷ [] → chain_words (p ∷ ps) i ≡ Open [] ∷ []
open_words p ps i w = ap (flat_map (followed (chain_words ps) i)) w

pub row_words : (l : Label) (p : WordsAndTurns) (ps : List WordsAndTurns) (i : ℕ) → p.0 i ≡ Full (l ∷ []) ∷ [] → chain_words (p ∷ ps) i ≡ map (preceded (l ∷ [])) (chain_words ps (i + 1))
row_words l p ps i w = ap (flat_map (followed (chain_words ps) i)) w ∙ append_nil (map (preceded (l ∷ [])) (chain_words ps (i + 1)))

pub row_turns : (l : Label) (p : WordsAndTurns) (ps : List WordsAndTurns) (i : ℕ) → p.0 i ≡ Full (l ∷ []) ∷ [] → p.1 i ≡ 1 → chain_turns (p ∷ ps) i ≡ 1 + chain_turns ps (i + 1)
row_turns l p ps i w t = same_first p (λ j. Full (l ∷ []) ∷ [], one_turn) ps i w t ∙ omega arith

-- ---- the forms that map at most one row

within_nothing : (x : Bool) → within_exclusion x nothing_mapped ≡ nothing_mapped
within_nothing false = refl
within_nothing true = refl

within_known : (x : Bool) (p : Mappings) (i : ℕ) (ws : List Mapping) → p i ≡ ws → within_exclusion x p i ≡ within_exclusion x (λ j. ws) i
within_known false p i ws h = h
within_known true p i ws h = ap (map excluded_mapping) h

full_within : (x : Bool) (i : ℕ) → within_exclusion x (λ j. Full [] ∷ []) i ≡ Full [] ∷ []
full_within false i = refl
full_within true i = refl

none_within : (x : Bool) (i : ℕ) → within_exclusion x (λ j. []) i ≡ []
none_within false i = refl
none_within true i = refl

open_within : (x : Bool) (i : ℕ) → within_exclusion x (λ j. Open [] ∷ []) i ≡ Open [] ∷ []
open_within false i = refl
open_within true i = refl

row_within : (x : Bool) (v i : ℕ) → within_exclusion x (λ j. Full (record { var = v; excluded = false } ∷ []) ∷ []) i ≡ Full (record { var = v; excluded = x } ∷ []) ∷ []
row_within false v i = refl
row_within true v i = refl

module _ (n : ℕ) (e : End) (x : Bool) where
  pub empty_words : (i : ℕ) → (form_part n e V.Empty x).0 i ≡ Full [] ∷ []
  empty_words i = within_known x (words n e V.Empty) i (Full [] ∷ []) (ap (λ p. p i) (words_empty n e)) ∙ full_within x i

  pub empty_turns : (i : ℕ) → (form_part n e V.Empty x).1 i ≡ 1
  empty_turns i = ap (λ t. t i) (turns_empty n e)

  known_row : (v i : ℕ) (b : Bool) → i ≤ n → nat_le i n ≡ b → cond b (Full (record { var = v; excluded = false } ∷ []) ∷ []) (may_go_on e) ≡ Full (record { var = v; excluded = false } ∷ []) ∷ []
  known_row v i true h k = refl
  known_row v i false h k = absurd (grind (arith, nat_tests))

  unknown_row : (v i : ℕ) (b : Bool) → n < i → nat_le i n ≡ b → cond b (Full (record { var = v; excluded = false } ∷ []) ∷ []) (may_go_on e) ≡ may_go_on e
  unknown_row v i true h k = absurd (grind (arith, nat_tests))
  unknown_row v i false h k = refl

  pub variable_row : (v i : ℕ) → i ≤ n → (form_part n e (V.Variable v) x).0 i ≡ Full (record { var = v; excluded = x } ∷ []) ∷ []
  variable_row v i h =
      within_known x (words n e (V.Variable v)) i (Full (record { var = v; excluded = false } ∷ []) ∷ []) (ap (λ p. p i) (words_variable n e v) ∙ known_row v i (nat_le i n) h refl)
      ∙ row_within x v i

  pub variable_turns : (v i : ℕ) → (form_part n e (V.Variable v) x).1 i ≡ 1
  variable_turns v i = ap (λ t. t i) (turns_variable n e v)

  pub variable_open : (v i : ℕ) → n < i → e ≡ OpenEnd → (form_part n e (V.Variable v) x).0 i ≡ Open [] ∷ []
  variable_open v i h k =
      within_known x (words n e (V.Variable v)) i (Open [] ∷ []) (ap (λ p. p i) (words_variable n e v) ∙ unknown_row v i (nat_le i n) h refl ∙ ap may_go_on k)
      ∙ open_within x i

  pub variable_closed : (v i : ℕ) → n < i → e ≡ ClosedEnd → (form_part n e (V.Variable v) x).0 i ≡ []
  variable_closed v i h k =
      within_known x (words n e (V.Variable v)) i [] (ap (λ p. p i) (words_variable n e v) ∙ unknown_row v i (nat_le i n) h refl ∙ ap may_go_on k)
      ∙ none_within x i

  start_holds : (i : ℕ) (b : Bool) → i ≡ 1 → nat_eq i 1 ≡ b → cond b (Full [] ∷ []) [] ≡ Full [] ∷ []
  start_holds i true h k = refl
  start_holds i false h k = absurd (grind (arith, nat_tests))

  start_fails : (i : ℕ) (b : Bool) → (i ≡ 1 → ⊥) → nat_eq i 1 ≡ b → cond b (Full [] ∷ []) [] ≡ []
  start_fails i true h k = absurd (h (grind (arith, nat_tests)))
  start_fails i false h k = refl

  pub start_words : (i : ℕ) → i ≡ 1 → (form_part n e V.PartitionStart x).0 i ≡ Full [] ∷ []
  start_words i h = within_known x (words n e V.PartitionStart) i (Full [] ∷ []) (ap (λ p. p i) (words_start n e) ∙ start_holds i (nat_eq i 1) h refl) ∙ full_within x i

  pub start_none : (i : ℕ) → (i ≡ 1 → ⊥) → (form_part n e V.PartitionStart x).0 i ≡ []
  start_none i h = within_known x (words n e V.PartitionStart) i [] (ap (λ p. p i) (words_start n e) ∙ start_fails i (nat_eq i 1) h refl) ∙ none_within x i

  pub start_turns : (i : ℕ) → (form_part n e V.PartitionStart x).1 i ≡ 1
  start_turns i = ap (λ t. t i) (turns_start n e)

  end_fails : (i : ℕ) (b : Bool) → i ≤ n → nat_le i n ≡ b → cond b [] (may_end e) ≡ []
  end_fails i true h k = refl
  end_fails i false h k = absurd (grind (arith, nat_tests))

  end_may : (i : ℕ) (b : Bool) → n < i → nat_le i n ≡ b → cond b [] (may_end e) ≡ may_end e
  end_may i true h k = absurd (grind (arith, nat_tests))
  end_may i false h k = refl

  pub end_none : (i : ℕ) → i ≤ n → (form_part n e V.PartitionEnd x).0 i ≡ []
  end_none i h = within_known x (words n e V.PartitionEnd) i [] (ap (λ p. p i) (words_end n e) ∙ end_fails i (nat_le i n) h refl) ∙ none_within x i

  pub end_open : (i : ℕ) → n < i → e ≡ OpenEnd → (form_part n e V.PartitionEnd x).0 i ≡ Open [] ∷ []
  end_open i h k = within_known x (words n e V.PartitionEnd) i (Open [] ∷ []) (ap (λ p. p i) (words_end n e) ∙ end_may i (nat_le i n) h refl ∙ ap may_end k) ∙ open_within x i

  pub end_words : (i : ℕ) → n < i → e ≡ ClosedEnd → (form_part n e V.PartitionEnd x).0 i ≡ Full [] ∷ []
  end_words i h k = within_known x (words n e V.PartitionEnd) i (Full [] ∷ []) (ap (λ p. p i) (words_end n e) ∙ end_may i (nat_le i n) h refl ∙ ap may_end k) ∙ full_within x i

  pub end_turns : (i : ℕ) → (form_part n e V.PartitionEnd x).1 i ≡ 1
  end_turns i = ap (λ t. t i) (turns_end n e)

-- ---- the forms that are made of others

within_concatenation : (x : Bool) (p q : Mappings) (i : ℕ) → within_exclusion x (concatenation p q) i ≡ concatenation (within_exclusion x p) (within_exclusion x q) i
within_concatenation false p q i = refl
within_concatenation true p q i = exclusion_concatenation p q i

within_alternation : (x : Bool) (p q : Mappings) (i : ℕ) → within_exclusion x (alternation p q) i ≡ alternation (within_exclusion x p) (within_exclusion x q) i
within_alternation false p q i = refl
within_alternation true p q i = exclusion_alternation p q i

excluded_twice : (ws : List Mapping) → map excluded_mapping (map excluded_mapping ws) ≡ map excluded_mapping ws
excluded_twice [] = refl
excluded_twice (Full ls ∷ ws) = let a = map-map excluded_label excluded_label ls in let b = excluded_twice ws in cc (a, b)
excluded_twice (Open ls ∷ ws) = let a = map-map excluded_label excluded_label ls in let b = excluded_twice ws in cc (a, b)

within_excluded : (x : Bool) (p : Mappings) (i : ℕ) → within_exclusion x (exclusion p) i ≡ exclusion p i
within_excluded false p i = refl
within_excluded true p i = excluded_twice (p i)

take_concatenation : (x : Bool) (p q : WordsAndTurns) (ps : List WordsAndTurns) (i : ℕ) → Leaves i (within x (concatenation p.0 q.0, concatenation_turns p q.1) ∷ ps) (within x p ∷ within x q ∷ ps)
take_concatenation x p q ps i = record {
  words = sym (ap (flat_map (followed (chain_words ps) i)) (within_concatenation x p.0 q.0 i) ∙ concatenation_assoc (within_exclusion x p.0) (within_exclusion x q.0) (chain_words ps) i);
  turns = omega (arith, within_concatenation_taken x p q ps i);
}

take_alternation : (x : Bool) (p q : WordsAndTurns) (ps : List WordsAndTurns) (i : ℕ) → LeavesTwo i (within x (alternation p.0 q.0, λ j. 1 + p.1 j + q.1 j) ∷ ps) (within x p ∷ ps) (within x q ∷ ps)
take_alternation x p q ps i = record {
  words = sym (ap (flat_map (followed (chain_words ps) i)) (within_alternation x p.0 q.0 i) ∙ concatenation_alternation (within_exclusion x p.0) (within_exclusion x q.0) (chain_words ps) i);
  turns = omega (arith, within_alternation_taken x p q ps i);
}

take_exclusion : (x : Bool) (p : WordsAndTurns) (ps : List WordsAndTurns) (i : ℕ) → Leaves i (within x (exclusion p.0, λ j. 1 + p.1 j) ∷ ps) (within true p ∷ ps)
take_exclusion x p ps i = record {
  words = sym (ap (flat_map (followed (chain_words ps) i)) (within_excluded x p.0 i));
  turns = omega (arith, within_exclusion_taken x p ps i);
}

module _ (n : ℕ) (e : End) (x : Bool) (ps : List WordsAndTurns) (i : ℕ) where
  pub concatenation_leaves : (p q : Rc Form Global) → Leaves i (form_part n e (V.Concatenation p q) x ∷ ps) (form_part n e p.value x ∷ form_part n e q.value x ∷ ps)
  concatenation_leaves p q =
      let qs : List WordsAndTurns = form_part n e p.value x ∷ form_part n e q.value x ∷ ps in
      subst (λ w. Leaves i (within x (w, turns n e (V.Concatenation p q)) ∷ ps) qs) (sym (words_concatenation n e p q))
      (subst (λ t. Leaves i (within x (concatenation (words n e p.value) (words n e q.value), t) ∷ ps) qs) (sym (turns_concatenation n e p q))
      (take_concatenation x (whole_part n e p.value) (whole_part n e q.value) ps i))

  pub alternation_leaves : (p q : Rc Form Global) → LeavesTwo i (form_part n e (V.Alternation p q) x ∷ ps) (form_part n e p.value x ∷ ps) (form_part n e q.value x ∷ ps)
  alternation_leaves p q =
      let qs : List WordsAndTurns = form_part n e p.value x ∷ ps in
      let rs : List WordsAndTurns = form_part n e q.value x ∷ ps in
      subst (λ w. LeavesTwo i (within x (w, turns n e (V.Alternation p q)) ∷ ps) qs rs) (sym (words_alternation n e p q))
      (subst (λ t. LeavesTwo i (within x (alternation (words n e p.value) (words n e q.value), t) ∷ ps) qs rs) (sym (turns_alternation n e p q))
      (take_alternation x (whole_part n e p.value) (whole_part n e q.value) ps i))

  pub exclusion_leaves : (p : Rc Form Global) → Leaves i (form_part n e (V.Exclusion p) x ∷ ps) (form_part n e p.value true ∷ ps)
  exclusion_leaves p =
      let qs : List WordsAndTurns = form_part n e p.value true ∷ ps in
      subst (λ w. Leaves i (within x (w, turns n e (V.Exclusion p)) ∷ ps) qs) (sym (words_exclusion n e p))
      (subst (λ t. Leaves i (within x (exclusion (words n e p.value), t) ∷ ps) qs) (sym (turns_exclusion n e p))
      (take_exclusion x (whole_part n e p.value) ps i))

-- ---- iterations

-- a quantified part is iterations of its body, inside the same exclusion
pub quantified_words : (n : ℕ) (e : End) (x : Bool) (p : Rc Form Global) (lower : ℕ) (upper : Option ℕ) (reluctant : Bool) (i : ℕ) →
    (iterations lower (further n lower upper) reluctant (form_part n e p.value x)).0 i ≡ (form_part n e (V.Quantified p lower upper reluctant) x).0 i
quantified_words n e x p lower upper reluctant i =
    sym (ap (λ w. within_exclusion x w i) (words_quantified n e p lower upper reluctant) ∙ within_iterations_words x lower (further n lower upper) reluctant (whole_part n e p.value) i)

pub quantified_turns : (n : ℕ) (e : End) (x : Bool) (p : Rc Form Global) (lower : ℕ) (upper : Option ℕ) (reluctant : Bool) (i : ℕ) →
    (iterations lower (further n lower upper) reluctant (form_part n e p.value x)).1 i ≡ (form_part n e (V.Quantified p lower upper reluctant) x).1 i
quantified_turns n e x p lower upper reluctant i =
    within_iterations_turns x lower (further n lower upper) reluctant (whole_part n e p.value) i ∙ ap (λ t. t i) (sym (turns_quantified n e p lower upper reluctant))

pub required_leaves : (l h : ℕ) (reluctant : Bool) (p : WordsAndTurns) (ps : List WordsAndTurns) (i : ℕ) → Leaves i (iterations (suc l) h reluctant p ∷ ps) (p ∷ iterations l h reluctant p ∷ ps)
required_leaves l h reluctant p ps i = record {
  words = sym (concatenation_assoc p.0 (iterations l h reluctant p).0 (chain_words ps) i);
  turns = omega (arith, required_taken l h reluctant p ps i);
}

pub none_left_leaves : (reluctant : Bool) (p : WordsAndTurns) (ps : List WordsAndTurns) (i : ℕ) → Leaves i (iterations 0 0 reluctant p ∷ ps) ps
none_left_leaves reluctant p ps i = passed (iterations 0 0 reluctant p) ps i refl refl

module _ (p : WordsAndTurns) (o : Mappings) (ps : List WordsAndTurns) (i : ℕ) where
  -- another iteration that takes a row, or what comes after
  another : flat_map (followed (chain_words ps) i) (concatenation (moving p.0) o i) ≡ concatenation p.0 (concatenation (concatenation (only_past i) o) (chain_words ps)) i
  another =
      ap (flat_map (followed (chain_words ps) i)) (ap (flat_map (followed o i)) (sym (moving_is p.0 i)) ∙ concatenation_assoc p.0 (only_past i) o i)
      ∙ concatenation_assoc p.0 (concatenation (only_past i) o) (chain_words ps) i

  stop : flat_map (followed (chain_words ps) i) (Full [] ∷ []) ≡ chain_words ps i
  stop = concatenation_nothing_first (chain_words ps) i

  greedy : flat_map (followed (chain_words ps) i) (concatenation (moving p.0) o i ++ Full [] ∷ []) ≡ concatenation p.0 (concatenation (concatenation (only_past i) o) (chain_words ps)) i ++ chain_words ps i
  greedy =
      flat_map-append (followed (chain_words ps) i) (concatenation (moving p.0) o i) (Full [] ∷ [])
      ∙ ap (λ z. z ++ flat_map (followed (chain_words ps) i) (Full [] ∷ [])) another
      ∙ ap (λ z. concatenation p.0 (concatenation (concatenation (only_past i) o) (chain_words ps)) i ++ z) stop

  lazy : flat_map (followed (chain_words ps) i) ((Full [] ∷ []) ++ concatenation (moving p.0) o i) ≡ chain_words ps i ++ concatenation p.0 (concatenation (concatenation (only_past i) o) (chain_words ps)) i
  lazy =
      flat_map-append (followed (chain_words ps) i) (Full [] ∷ []) (concatenation (moving p.0) o i)
      ∙ ap (λ z. flat_map (followed (chain_words ps) i) (Full [] ∷ []) ++ z) another
      ∙ ap (λ z. z ++ concatenation p.0 (concatenation (concatenation (only_past i) o) (chain_words ps)) i) stop

pub greedy_leaves : (h : ℕ) (p : WordsAndTurns) (ps : List WordsAndTurns) (i : ℕ) → LeavesTwo i (iterations 0 (suc h) false p ∷ ps) (repeated h false p ps i) ps
greedy_leaves h p ps i = record {
  words = sym (greedy p (optional false p.0 h) ps i);
  turns = omega (arith, optional_taken h false p ps i);
}

pub lazy_leaves : (h : ℕ) (p : WordsAndTurns) (ps : List WordsAndTurns) (i : ℕ) → LeavesTwo i (iterations 0 (suc h) true p ∷ ps) ps (repeated h true p ps i)
lazy_leaves h p ps i = record {
  words = sym (lazy p (optional true p.0 h) ps i);
  turns = omega (arith, optional_taken h true p ps i);
}

pub greedy_unbounded : (n : ℕ) (p : WordsAndTurns) (ps : List WordsAndTurns) (i : ℕ) → AreWithin n p.0 → LeavesTwo i (iterations 0 (suc (suc n)) false p ∷ ps) (repeated (suc (suc n)) false p ps i) ps
greedy_unbounded n p ps i w = record {
  words = sym (ap (flat_map (followed (chain_words ps) i)) (unbounded n false p.0 w i) ∙ greedy p (optional false p.0 (suc (suc n))) ps i);
  turns = omega (arith, unbounded_taken n false p ps i w);
}

pub lazy_unbounded : (n : ℕ) (p : WordsAndTurns) (ps : List WordsAndTurns) (i : ℕ) → AreWithin n p.0 → LeavesTwo i (iterations 0 (suc (suc n)) true p ∷ ps) ps (repeated (suc (suc n)) true p ps i)
lazy_unbounded n p ps i w = record {
  words = sym (ap (flat_map (followed (chain_words ps) i)) (unbounded n true p.0 w i) ∙ lazy p (optional true p.0 (suc (suc n))) ps i);
  turns = omega (arith, unbounded_taken n true p ps i w);
}

pub form_within : (n : ℕ) (e : End) (f : Form) (x : Bool) → AreWithin n (form_part n e f x).0
form_within n e f false = words_within n e f
form_within n e f true = exclusion_within n (words n e f) (words_within n e f)
