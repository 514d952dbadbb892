-- After a word that takes a row, the test that an iteration took one holds.
use Rattle.std.proofs.Common.{◌≡◌, ℕ, zero, suc, ◌+◌, ◌<◌, List, [], ◌∷◌, ◌++◌, map, length, Bool, true, false, cond, ◌&&◌, ◌||◌, IsTrue, refl, sym, ap, ◌∙◌, arith, subst}
use Rattle.std.specs.Prelude.{nat_le, nat_lt, sum_by}
use Rattle.std.specs.List.{flat_map, filter, AllByRecursion}
use Rattle.std.proofs.lemmas.List.Sums.{sum_by-cons}
use Rattle.std.proofs.lemmas.Bool.Decides.{nat_tests}
use Rattle.rp_words.specs.Mapping.{Mapping, Full, Open, preceded, excluded_mapping}
use Rattle.rp_words.specs.declared.form.Form.{Form}
use Rattle.rp_words.specs.declared.form.Form.TheOpen.{Form-F, Variable, Empty, Concatenation, Alternation, PartitionStart, PartitionEnd, Permute, Exclusion, Quantified}
use Rattle.rp_words.specs.declared.form.Form.TheViews.{roll-Form}
use Rattle.rp_words.specs.declared.form.Form.TheFolds.{map-Form, fold-roll-Form, ind-Form}
use Rattle.rp_words.specs.declared.word.End.{End}
use Rattle.rp_words.specs.declared.word.End.TheVariants.{Open as OpenEnd, Closed as ClosedEnd}
use Rattle.rp_words.specs.declared.word.Label.{Label}
use Rattle.rp_words.specs.Words.{Mappings, words, words_step, one_row, followed, concatenation, exclusion, moves, only_past, optional, required, further, may_go_on}
use Rattle.rp_words.specs.Turns.{WordsAndTurns, turns_after, chain_turns, past}
use Rattle.rp_words.specs.Movement.{always_moves, movement_step}
use Rattle.rp_program.specs.Parts.{form_part}
use Rattle.rp_pattern.specs.Continuations.{chain_words}
use Rattle.rp_words.proofs.Lists.{All-append, All-map, All-flat_map}
use Rattle.rp_words.proofs.Algebra.{preceded_nothing, concatenation_assoc, concatenation_same, moving_is}
use Rattle.rp_words.proofs.TurnsTaken.{past_reached}

abbrev pub Moves : Mapping → Type 0
Moves w = IsTrue (moves w)

-- each word takes a row, or may take one
abbrev pub AllMove : Mappings → Type 0
AllMove p = (i : ℕ) → AllByRecursion Moves (p i)

preceded_moves : (ls : List Label) (w : Mapping) → Moves w → Moves (preceded ls w)
preceded_moves [] w h = subst Moves (sym (preceded_nothing w)) h
preceded_moves (l ∷ ls) (Full ms) h = refl
preceded_moves (l ∷ ls) (Open ms) h = refl

after_row_move : (l : Label) (ls : List Label) (ws : List Mapping) → AllByRecursion Moves (map (preceded (l ∷ ls)) ws)
after_row_move l ls [] = tt
after_row_move l ls (Full ms ∷ ws) = (refl, after_row_move l ls ws)
after_row_move l ls (Open ms ∷ ws) = (refl, after_row_move l ls ws)

first_followed : (q : Mappings) (i : ℕ) (w : Mapping) → Moves w → AllByRecursion Moves (followed q i w)
first_followed q i (Full []) h = absurd cc
first_followed q i (Full (l ∷ ls)) h = after_row_move l ls (q (i + length (l ∷ ls)))
first_followed q i (Open ls) h = (refl, tt)

first_moves : (p q : Mappings) → AllMove p → AllMove (concatenation p q)
first_moves p q a i = All-flat_map Moves Moves (followed q i) (first_followed q i) (p i) (a i)

later_followed : (q : Mappings) → AllMove q → (i : ℕ) (w : Mapping) → AllByRecursion Moves (followed q i w)
later_followed q a i (Full ls) = All-map Moves Moves (preceded ls) (preceded_moves ls) (q (i + length ls)) (a (i + length ls))
later_followed q a i (Open ls) = (refl, tt)

later_moves : (p q : Mappings) → AllMove q → AllMove (concatenation p q)
later_moves p q a i = go (p i)
  where
    go : (ws : List Mapping) → AllByRecursion Moves (flat_map (followed q i) ws)
    go [] = tt
    go (w ∷ ws) = All-append Moves (followed q i w) (flat_map (followed q i) ws) (later_followed q a i w) (go ws)

excluded_moves : (w : Mapping) → Moves w → Moves (excluded_mapping w)
excluded_moves (Full []) h = h
excluded_moves (Full (l ∷ ls)) h = refl
excluded_moves (Open ls) h = refl

exclusion_moves : (p : Mappings) → AllMove p → AllMove (exclusion p)
exclusion_moves p a i = All-map Moves Moves excluded_mapping excluded_moves (p i) (a i)

required_moves : (l : ℕ) (p q : Mappings) → 0 < l → AllMove p → AllMove (required l p q)
required_moves zero p q h a = absurd (omega (arith, h))
required_moves (suc l) p q h a = first_moves p (required l p q) a

module _ (n : ℕ) (e : End) where
  one_row_moves : (v : ℕ) → AllMove (one_row n e v)
  one_row_moves v i = go (nat_le i n) e
    where
      go : (b : Bool) (d : End) → AllByRecursion Moves (cond b (Full (record { var = v; excluded = false } ∷ []) ∷ []) (may_go_on d))
      go true d = (refl, tt)
      go false OpenEnd = (refl, tt)
      go false ClosedEnd = tt

  abbrev Holds : Form → Type 0
  Holds f = IsTrue (always_moves f) → AllMove (words n e f)

  abbrev Layer : Type 0
  Layer = Form-F ((f : Form) × Holds f)

  abbrev forms : Layer → Form-F Form
  forms y = map-Form ((f : Form) × Holds f) Form (λ t. t.0) y

  layer : (y : Layer) → IsTrue (movement_step (map-Form Form Bool always_moves (forms y))) → AllMove (words_step n e (map-Form Form Mappings (words n e) (forms y)))
  layer (Variable v) h = one_row_moves v
  layer Empty h = absurd cc
  layer (Concatenation p q) h = go (always_moves p.value.0) refl h
    where
      go : (b : Bool) → always_moves p.value.0 ≡ b → IsTrue (b || always_moves q.value.0) → AllMove (concatenation (words n e p.value.0) (words n e q.value.0))
      go true is h = first_moves (words n e p.value.0) (words n e q.value.0) (p.value.1 is)
      go false is h = later_moves (words n e p.value.0) (words n e q.value.0) (q.value.1 h)
  layer (Alternation p q) h = go (always_moves p.value.0) refl h
    where
      go : (b : Bool) → always_moves p.value.0 ≡ b → IsTrue (b && always_moves q.value.0) → AllMove (λ i. words n e p.value.0 i ++ words n e q.value.0 i)
      go true is h = λ i. All-append Moves (words n e p.value.0 i) (words n e q.value.0 i) (p.value.1 is i) (q.value.1 h i)
      go false is h = absurd cc
  layer PartitionStart h = absurd cc
  layer PartitionEnd h = absurd cc
  layer (Permute ps) h = absurd cc
  layer (Exclusion p) h = exclusion_moves (words n e p.value.0) (p.value.1 h)
  layer (Quantified p lower upper reluctant) h = go (nat_lt 0 lower) refl h
    where
      go : (b : Bool) → nat_lt 0 lower ≡ b → IsTrue (b && always_moves p.value.0) → AllMove (required lower (words n e p.value.0) (optional reluctant (words n e p.value.0) (further n lower upper)))
      go true is h = required_moves lower (words n e p.value.0) (optional reluctant (words n e p.value.0) (further n lower upper)) (grind (arith, nat_tests)) (p.value.1 h)
      go false is h = absurd cc

  words_move : (f : Form) → Holds f
  words_move = ind-Form Holds (λ x y is.
      subst (λ z. Holds (roll-Form z)) is
      (λ h. subst AllMove (sym (fold-roll-Form Mappings (words_step n e) (forms y)))
      (layer y (subst IsTrue (fold-roll-Form Bool movement_step (forms y)) h))))

  pub form_moves : (f : Form) (x : Bool) → IsTrue (always_moves f) → AllMove (form_part n e f x).0
  form_moves f false h = words_move f h
  form_moves f true h = exclusion_moves (words n e f) (words_move f h)

-- ---- the test is not needed

all_moving : (ws : List Mapping) → AllByRecursion Moves ws → filter moves ws ≡ ws
all_moving [] a = refl
all_moving (Full [] ∷ ws) a = let h = a.0 in absurd cc
all_moving (Full (l ∷ ls) ∷ ws) a = ap (λ z. Full (l ∷ ls) ∷ z) (all_moving ws a.1)
all_moving (Open ls ∷ ws) a = ap (λ z. Open ls ∷ z) (all_moving ws a.1)

module _ (p o : WordsAndTurns) (ps : List WordsAndTurns) (i : ℕ) (all : AllMove p.0) where
  pub again_words : chain_words (p ∷ o ∷ ps) i ≡ chain_words (p ∷ past i o ∷ ps) i
  again_words =
      let rest : Mappings = concatenation o.0 (chain_words ps) in
      let passed : concatenation p.0 (concatenation (only_past i) rest) i ≡ concatenation p.0 rest i =
      sym (concatenation_assoc p.0 (only_past i) rest i) ∙ ap (flat_map (followed rest i)) (moving_is p.0 i ∙ all_moving (p.0 i) (all i)) in
      sym passed ∙ sym (concatenation_same p.0 (concatenation (concatenation (only_past i) o.0) (chain_words ps)) (concatenation (only_past i) rest) (λ j. concatenation_assoc (only_past i) o.0 (chain_words ps) j) i)

  pub again_turns : chain_turns (p ∷ o ∷ ps) i ≡ chain_turns (p ∷ past i o ∷ ps) i
  again_turns = ap (λ z. p.1 i + z) (go (p.0 i) (all i))
    where
      go : (ws : List Mapping) → AllByRecursion Moves ws → sum_by (turns_after (chain_turns (o ∷ ps)) i) ws ≡ sum_by (turns_after (chain_turns (past i o ∷ ps)) i) ws
      go [] a = refl
      go (Full [] ∷ ws) a = let h = a.0 in absurd cc
      go (Full (l ∷ ls) ∷ ws) a =
          let first = sum_by-cons (turns_after (chain_turns (o ∷ ps)) i) (Full (l ∷ ls)) ws in
          let second = sum_by-cons (turns_after (chain_turns (past i o ∷ ps)) i) (Full (l ∷ ls)) ws in
          omega (arith, first, second, past_reached i o ps (i + length (l ∷ ls)) (omega arith), go ws a.1)
      go (Open ls ∷ ws) a =
          let first = sum_by-cons (turns_after (chain_turns (o ∷ ps)) i) (Open ls) ws in
          let second = sum_by-cons (turns_after (chain_turns (past i o ∷ ps)) i) (Open ls) ws in
          omega (arith, first, second, go ws a.1)
