-- The choices that a function makes, as what a part leaves.
use Rattle.std.proofs.Common.{◌≡◌, ℕ, suc, ◌+◌, ◌<◌, ◌≤◌, List, [], ◌∷◌, ◌++◌, map, Bool, true, false, IsTrue, OnOk, Result, Ok, Err, drop, Option, Some, None, refl, sym, ap, ◌∙◌, arith, subst}
use Rattle.std.specs.declared.rc.Rc.{Rc}
use Rattle.std.specs.declared.alloc.Global.{Global}
use Rattle.rp_words.specs.declared.form.Form.{Form}
use Rattle.rp_words.specs.declared.word.End.{End}
use Rattle.rp_words.specs.declared.word.End.TheVariants.{Open as OpenEnd, Closed as ClosedEnd}
use Rattle.rp_words.specs.declared.form.Form.TheVariants.{Variable}
use Rattle.rp_pattern.specs.declared.machine.node.Node.{Node}
use Rattle.rp_pattern.specs.declared.machine.iterations.Iterations.{Iterations}
use Rattle.rp_pattern.specs.declared.machine.link.Part.{Part}
use Rattle.rp_pattern.specs.declared.machine.link.Link.{Link}
use Rattle.rp_pattern.specs.declared.machine.continuation.Continuation.{Continuation}
use Rattle.rp_pattern.specs.declared.machine.continuation.Continuation.TheVariants.{Then}
use Rattle.rp_pattern.specs.declared.machine.split.Split.{Split}
use Rattle.rp_pattern.specs.declared.machine.split.Expansion.{Expansion}
use Rattle.rp_pattern.specs.declared.machine.split.Expansion.TheVariants.{Full as FullExpansion, Row as RowExpansion, Open as OpenExpansion, Split as SplitExpansion}
use Rattle.rp_words.specs.Movement.{always_moves}
use Rattle.rp_pattern.proofs.Moves.{form_moves, again_words, again_turns}
use Rattle.rp_words.specs.Turns.{WordsAndTurns, chain_turns, iterations, past}
use Rattle.rp_words.specs.Later.{IsLater}
use Rattle.rp_words.specs.Mapping.{preceded}
use Rattle.rp_program.specs.Parts.{form_part}
use Rattle.rp_pattern.specs.Continuations.{part_as, node_part, iterations_part, still, tail_links, tail_parts, links_parts, guarded, continuation_parts, chain_words, IsNodeOf, AreIterationsOf, IsOneLess}
use Rattle.rp_pattern.specs.Splits.{StandsFor, Replaces, SplitsAt, AlwaysSplits, Splits, TakesRow, Waits, ComesAgain, repeated, TakenUp, option_words, split_turns}
use Rattle.rp_words.proofs.TurnsTaken.{same_first}
use Rattle.rp_program.proofs.Expansions.{no_words, some_turns, open_words, row_words, row_turns, variable_row, variable_open, variable_closed, variable_turns, Leaves, LeavesTwo, same_first_words, greedy_leaves, lazy_leaves, greedy_unbounded, lazy_unbounded, none_left_leaves, form_within}

-- ---- parts that were copied or put together

pub node_as : (n : ℕ) (e : End) (node : Node) (f : Form) (x : Bool) → IsNodeOf f x node → node_part n e node ≡ form_part n e f x
node_as n e node f x h = ap (λ g. form_part n e g node.excluded) h.0 ∙ ap (form_part n e f) h.1

pub iterations_as : (n : ℕ) (e : End) (lower : ℕ) (it copy : Iterations) (further : Option ℕ) → AreIterationsOf it further copy →
    iterations_part n e lower copy ≡ iterations lower (still n further) it.reluctant (node_part n e it.body)
iterations_as n e lower it copy further h =
    ap (λ k. iterations lower (still n k) copy.reluctant (node_part n e copy.body)) h.1
    ∙ ap (λ r. iterations lower (still n further) r (node_part n e copy.body)) h.2
    ∙ ap (iterations lower (still n further) it.reluctant) (node_as n e copy.body it.body.form.value it.body.excluded h.0)

pub linked_parts : (n : ℕ) (e : End) (later shared then : Option (Rc Link Global)) (since : Option ℕ) (part : Part) →
    tail_links later ≡ (since, part) ∷ tail_links shared → tail_links shared ≡ tail_links then → tail_parts n e later ≡ guarded since (part_as n e part) ∷ tail_parts n e then
linked_parts n e later shared then since part a b = ap (links_parts n e) a ∙ ap (λ ls. guarded since (part_as n e part) ∷ links_parts n e ls) b

pub then_parts : (n : ℕ) (e : End) (node : Node) (copy then : Option (Rc Link Global)) (p : WordsAndTurns) → node_part n e node ≡ p → tail_links copy ≡ tail_links then → continuation_parts n e (Then node copy) ≡ p ∷ tail_parts n e then
then_parts n e node copy then p a b = ap (λ z. z ∷ links_parts n e (tail_links copy)) a ∙ ap (λ ls. p ∷ links_parts n e ls) b

-- ---- what stands for parts

pub stands_as : (n : ℕ) (e : End) (i : ℕ) (r : Continuation) (qs : List WordsAndTurns) → continuation_parts n e r ≡ qs → StandsFor n e i qs (Some r)
stands_as n e i r qs h = record { words = ap (λ ps. chain_words ps i) h; turns = ap (λ ps. chain_turns ps i) h }

pub replaces : (n : ℕ) (e : End) (i : ℕ) (ps : List WordsAndTurns) (r : Option Continuation) → StandsFor n e i ps r → Replaces n e i ps r
replaces n e i ps r h = record { words = h.words; turns = omega (arith, h.turns) }

-- what parts leave replaces them
pub leaves_replaces : (n : ℕ) (e : End) (i : ℕ) (ps qs : List WordsAndTurns) (r : Option Continuation) → StandsFor n e i qs r → Leaves i ps qs → Replaces n e i ps r
leaves_replaces n e i ps qs r h k = record { words = h.words ∙ k.words; turns = omega (arith, h.turns, k.turns) }

pub replaces_as : (n : ℕ) (e : End) (i : ℕ) (ps qs : List WordsAndTurns) (r : Option Continuation) → ps ≡ qs → Replaces n e i ps r → Replaces n e i qs r
replaces_as n e i ps qs r h k = subst (λ z. Replaces n e i z r) h k

pub before_shared : (n : ℕ) (e : End) (i : ℕ) (p : WordsAndTurns) (shared then : Option (Rc Link Global)) (r : Option Continuation) → tail_links shared ≡ tail_links then →
    Replaces n e i (p ∷ tail_parts n e shared) r → Replaces n e i (p ∷ tail_parts n e then) r
before_shared n e i p shared then r h k = replaces_as n e i _ _ r (ap (λ ls. p ∷ links_parts n e ls) h) k

pub none_splits : (n : ℕ) (e : End) (i : ℕ) (ps : List WordsAndTurns) (s : Split) → s ≡ record { preferred = None; other = None } → [] ≡ chain_words ps i → 0 < chain_turns ps i → SplitsAt n e i ps s
none_splits n e i ps s is w t = subst (SplitsAt n e i ps) (sym is) (record { words = w; turns = t })

pub one_splits : (n : ℕ) (e : End) (i : ℕ) (ps qs : List WordsAndTurns) (r : Option Continuation) (s : Split) → s ≡ record { preferred = None; other = r } → Replaces n e i qs r → Leaves i ps qs → SplitsAt n e i ps s
one_splits n e i ps qs r s is h k = subst (SplitsAt n e i ps) (sym is) (record {
  words = h.words ∙ k.words;
  turns = omega (arith, h.turns, k.turns);
})

pub two_splits : (n : ℕ) (e : End) (i : ℕ) (ps qs rs : List WordsAndTurns) (r r' : Option Continuation) → Replaces n e i qs r → Replaces n e i rs r' → LeavesTwo i ps qs rs →
    SplitsAt n e i ps (record { preferred = r; other = r' })
two_splits n e i ps qs rs r r' a b k = record {
  words = ap (λ z. z ++ option_words n e r' i) a.words ∙ ap (λ z. chain_words qs i ++ z) b.words ∙ k.words;
  turns = omega (arith, a.turns, b.turns, k.turns);
}

-- what splits parts splits others with the same first words and turns
pub same_splits : (n : ℕ) (e : End) (i : ℕ) (p q : WordsAndTurns) (ps : List WordsAndTurns) (s : Split) → p.0 i ≡ q.0 i → p.1 i ≡ q.1 i → SplitsAt n e i (p ∷ ps) s → SplitsAt n e i (q ∷ ps) s
same_splits n e i p q ps s w t h = record {
  words = h.words ∙ same_first_words p q ps i w;
  turns = omega (arith, h.turns, same_first p q ps i w t);
}

pub later_self : (n : ℕ) (e : End) → IsLater n e n e
later_self n e = (omega arith, λ closed. (refl, closed))

pub later_splits : (n : ℕ) (e : End) (i : ℕ) (ps : ℕ → End → List WordsAndTurns) (s : Split) → ((n' : ℕ) (e' : End) → IsLater n e n' e' → SplitsAt n' e' i (ps n' e') s) → Splits n e i ps s
later_splits n e i ps s h = record { words = λ n' e' later. (h n' e' later).words; turns = λ n' e' later. (h n' e' later).turns }

pub always_splits : (n : ℕ) (e : End) (i : ℕ) (ps : ℕ → End → List WordsAndTurns) (s : Split) → AlwaysSplits i ps s → Splits n e i ps s
always_splits n e i ps s h = later_splits n e i ps s (λ n' e' later. h n' e')

pub OnOk-map : {T E : Type 0} (P Q : Type 0) → (P → Q) → (r : Result T E) → OnOk r P → OnOk r Q
OnOk-map P Q f (Ok v) h = f h
OnOk-map P Q f (Err e) h = h

-- what parts came to, others that are as they came to
pub taken_as : (n : ℕ) (e : End) (i : ℕ) (ps qs : ℕ → End → List WordsAndTurns) → ((n' : ℕ) (e' : End) → ps n' e' ≡ qs n' e') → (s : Split) (t : Expansion) → TakenUp n e i ps s t → TakenUp n e i qs s t
taken_as n e i ps qs h s FullExpansion k = λ n' e'. ap (λ z. chain_words z i) (sym (h n' e')) ∙ k n' e'
taken_as n e i ps qs h s (RowExpansion l) k = record {
  known = k.known;
  words = λ n' e' more. subst (λ z. chain_words z i ≡ map (preceded (l ∷ [])) (chain_words (drop 1 z) (i + 1))) (h n' e') (k.words n' e' more);
  turns = λ n' e' more. subst (λ z. chain_turns z i ≡ 1 + chain_turns (drop 1 z) (i + 1)) (h n' e') (k.turns n' e' more);
}
taken_as n e i ps qs h s OpenExpansion k = record {
  end = k.end;
  words = ap (λ z. chain_words z i) (sym (h n e)) ∙ k.words;
  turns = λ n' e'. subst (λ z. 0 < chain_turns z i) (h n' e') (k.turns n' e');
}
taken_as n e i ps qs h s SplitExpansion k = record {
  words = λ n' e' more. k.words n' e' more ∙ ap (λ z. chain_words z i) (h n' e');
  turns = λ n' e' more. subst (λ z. split_turns n' e' s i < chain_turns z i) (h n' e') (k.turns n' e' more);
}

pub splits_as : (n : ℕ) (e : End) (i : ℕ) (ps qs : List WordsAndTurns) (s : Split) → ps ≡ qs → SplitsAt n e i ps s → SplitsAt n e i qs s
splits_as n e i ps qs s h k = subst (λ z. SplitsAt n e i z s) h k

-- ---- a row

module _ (n : ℕ) (e : End) (i v : ℕ) (x : Bool) (later : ℕ → End → List WordsAndTurns) where
  abbrev row_parts : ℕ → End → List WordsAndTurns
  row_parts n' e' = form_part n' e' (Variable v) x ∷ later n' e'

  pub row_taken : i ≤ n → TakesRow n e i row_parts (record { var = v; excluded = x })
  row_taken known = record {
    known = known;
    words = λ n' e' more. row_words _ (form_part n' e' (Variable v) x) (later n' e') i (variable_row n' e' x v i (omega (arith, more, known)));
    turns = λ n' e' more. row_turns _ (form_part n' e' (Variable v) x) (later n' e') i (variable_row n' e' x v i (omega (arith, more, known))) (variable_turns n' e' x v i);
  }

  pub row_none : (s : Split) → s ≡ record { preferred = None; other = None } → n < i → e ≡ ClosedEnd → Splits n e i row_parts s
  row_none s is past closed = later_splits n e i row_parts s (λ n' e' more.
      let p = form_part n' e' (Variable v) x in
      let stays = more.1 closed in
      none_splits n' e' i (p ∷ later n' e') s is
      (no_words p (later n' e') i (variable_closed n' e' x v i (omega (arith, stays.0, past)) stays.1))
      (some_turns p (later n' e') i (variable_turns n' e' x v i)))

  pub row_waits : n < i → e ≡ OpenEnd → Waits n e i row_parts
  row_waits past no_end = record {
    end = no_end;
    words = open_words (form_part n e (Variable v) x) (later n e) i (variable_open n e x v i past no_end);
    turns = λ n' e'. some_turns (form_part n' e' (Variable v) x) (later n' e') i (variable_turns n' e' x v i);
  }

-- ---- another iteration

module _ (n : ℕ) (e : End) (row : ℕ) (it : Iterations) (less : Option ℕ) (ts again : List WordsAndTurns) where
  abbrev p : WordsAndTurns
  p = node_part n e it.body

  abbrev more : WordsAndTurns
  more = iterations 0 (still n less) it.reluctant p

  -- after an iteration that takes a row for sure
  pub comes_moving : IsTrue (always_moves it.body.form.value) → again ≡ more ∷ ts → ComesAgain n e row it less ts again
  comes_moving m is =
      let all = form_moves n e it.body.form.value it.body.excluded m in
      record {
        words = ap (λ z. chain_words (p ∷ z) row) is ∙ again_words p more ts row all;
        turns = ap (λ z. chain_turns (p ∷ z) row) is ∙ again_turns p more ts row all;
      }

  pub comes_past : again ≡ past row more ∷ ts → ComesAgain n e row it less ts again
  comes_past is = record { words = ap (λ z. chain_words (p ∷ z) row) is; turns = ap (λ z. chain_turns (p ∷ z) row) is }

  module _ (another : Continuation) (stop : Option Continuation) (fewer : IsOneLess it.further less) (comes : ComesAgain n e row it less ts again) (is_another : Replaces n e row (p ∷ again) (Some another)) (stops : Replaces n e row ts stop) where
    stands : Replaces n e row (repeated (still n less) it.reluctant p ts row) (Some another)
    stands = record {
      words = is_another.words ∙ comes.words;
      turns = omega (arith, is_another.turns, comes.turns);
    }

    leaves_greedy : (further less : Option ℕ) → IsOneLess further less → LeavesTwo row (iterations 0 (still n further) false p ∷ ts) (repeated (still n less) false p ts row) ts
    leaves_greedy None less h = subst (λ k. LeavesTwo row (iterations 0 (suc (suc n)) false p ∷ ts) (repeated (still n k) false p ts row) ts) (sym h) (greedy_unbounded n p ts row (form_within n e it.body.form.value it.body.excluded))
    leaves_greedy (Some k) less h =
        subst (λ k. LeavesTwo row (iterations 0 k false p ∷ ts) (repeated (still n less) false p ts row) ts) (sym h.1)
        (subst (λ l. LeavesTwo row (iterations 0 (suc h.0) false p ∷ ts) (repeated (still n l) false p ts row) ts) (sym h.2) (greedy_leaves h.0 p ts row))

    leaves_lazy : (further less : Option ℕ) → IsOneLess further less → LeavesTwo row (iterations 0 (still n further) true p ∷ ts) ts (repeated (still n less) true p ts row)
    leaves_lazy None less h = subst (λ k. LeavesTwo row (iterations 0 (suc (suc n)) true p ∷ ts) ts (repeated (still n k) true p ts row)) (sym h) (lazy_unbounded n p ts row (form_within n e it.body.form.value it.body.excluded))
    leaves_lazy (Some k) less h =
        subst (λ k. LeavesTwo row (iterations 0 k true p ∷ ts) ts (repeated (still n less) true p ts row)) (sym h.1)
        (subst (λ l. LeavesTwo row (iterations 0 (suc h.0) true p ∷ ts) ts (repeated (still n l) true p ts row)) (sym h.2) (lazy_leaves h.0 p ts row))

    pub greedy_splits : it.reluctant ≡ false → SplitsAt n e row (iterations_part n e 0 it ∷ ts) (record { preferred = Some another; other = stop })
    greedy_splits is =
        two_splits n e row _ _ ts (Some another) stop stands stops
        (subst (λ r. LeavesTwo row (iterations 0 (still n it.further) r p ∷ ts) (repeated (still n less) r p ts row) ts) (sym is) (leaves_greedy it.further less fewer))

    pub lazy_splits : it.reluctant ≡ true → SplitsAt n e row (iterations_part n e 0 it ∷ ts) (record { preferred = stop; other = Some another })
    lazy_splits is =
        two_splits n e row _ ts _ stop (Some another) stops stands
        (subst (λ r. LeavesTwo row (iterations 0 (still n it.further) r p ∷ ts) ts (repeated (still n less) r p ts row)) (sym is) (leaves_lazy it.further less fewer))

-- no iteration is left
pub none_left : (n : ℕ) (e : End) (i : ℕ) (lower : ℕ) (it : Iterations) (k : ℕ) (ts : List WordsAndTurns) → lower ≤ 0 → it.further ≡ Some k → k ≡ 0 → Leaves i (iterations_part n e lower it ∷ ts) ts
none_left n e i lower it k ts a b c =
    let is : lower ≡ 0 = omega arith in
    let bound : still n it.further ≡ 0 = ap (still n) b ∙ c in
    subst (λ l. Leaves i (iterations l (still n it.further) it.reluctant (node_part n e it.body) ∷ ts) ts) (sym is)
    (subst (λ h. Leaves i (iterations 0 h it.reluctant (node_part n e it.body) ∷ ts) ts) (sym bound) (none_left_leaves it.reluctant (node_part n e it.body) ts i))
