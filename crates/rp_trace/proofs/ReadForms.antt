-- What each step of a parse has read, or where it stops.
use Rattle.std.proofs.Common.{◌≡◌, ℕ, suc, ◌+◌, ◌<◌, List, ◌∷◌, length, None, true, false, refl, sym, ap, subst, arith}
use Rattle.rp_words.specs.Builders.{IsConcatenation, IsAlternation, IsQuantified}
use Rattle.rp_words.specs.declared.form.Form.{Form}
use Rattle.rp_words.specs.declared.form.Form.TheVariants as V
use Rattle.rp_trace.specs.Grammar.{Tree, Star, Both, Either, Letter, Nothing, Level, Alternatives, Sequences, Factors, Primaries, IsLettered, tree_of}
use Rattle.rp_trace.specs.Reading.{Lacks, ReadsTree, ReadsOnly, ReadsForm, StopsAt, begins_primary}
use Rattle.rp_trace.proofs.Derivations.{reads_one_sequence, reads_either, reads_one_factor, reads_both, reads_one_primary, reads_starred, reads_letter, reads_nothing, reads_group}
use Rattle.rp_trace.proofs.OnlyReadings.{alternatives-none, alternatives-one, alternatives-second_none, alternatives-either, sequences-none, sequences-one, sequences-second_none, sequences-both, factors-none, factors-one, factors-starred, primaries-letter, primaries-none, primaries-nothing, primaries-inner_none, primaries-unclosed, primaries-group}
use Rattle.rp_trace.proofs.Trees.{tree_variable, tree_empty, tree_both, tree_either, tree_star, lettered_variable, lettered_empty, lettered_concatenation, lettered_alternation, lettered_star}

-- what the first of two leaves, and the mark before the second, is shorter
past_mark : (s m n r : List ℕ) (mark : ℕ) → length m < length s → m ≡ mark ∷ n → length r < length n → length r < length s
past_mark s m n r mark first is second = let mark : length m ≡ suc (length n) = ap length is in omega arith

past_one : (s m : List ℕ) (mark : ℕ) → s ≡ mark ∷ m → length m < length s
past_one s m mark is = let mark : length s ≡ suc (length m) = ap length is in omega arith

-- a tree in place of one that is the same
with_tree : (level : Level) (s r : List ℕ) (form : Form) (tree : Tree) → tree_of form ≡ tree → IsLettered form → ReadsTree level s tree r → ReadsOnly level s tree r → length r < length s → ReadsForm level s form r
with_tree level s r form tree same lettered reads only shorter = record {
  lettered = lettered;
  reads = subst (λ t. ReadsTree level s t r) (sym same) reads;
  only = subst (λ t. ReadsOnly level s t r) (sym same) only;
  shorter = shorter;
}

pub form_one_sequence : (s r : List ℕ) (form : Form) → ReadsForm Sequences s form r → Lacks 124 r → ReadsForm Alternatives s form r
form_one_sequence s r form read lacks = with_tree Alternatives s r form (tree_of form) refl read.lettered
    (reads_one_sequence s r (tree_of form) read.reads) (alternatives-one s r (tree_of form) read.only lacks) read.shorter

pub form_either : (s m n r : List ℕ) (p q form : Form) → ReadsForm Sequences s p m → m ≡ 124 ∷ n → ReadsForm Alternatives n q r → IsAlternation p q form → ReadsForm Alternatives s form r
form_either s m n r p q form first bar second made = with_tree Alternatives s r form (Either (tree_of p) (tree_of q)) (tree_either p q form made)
    (lettered_alternation p q form first.lettered second.lettered made)
    (reads_either s m n r (tree_of p) (tree_of q) first.reads bar second.reads)
    (alternatives-either s m n r (tree_of p) (tree_of q) first.only bar second.only)
    (past_mark s m n r 124 first.shorter bar second.shorter)

pub form_one_factor : (s r : List ℕ) (form : Form) → ReadsForm Factors s form r → begins_primary r ≡ false → ReadsForm Sequences s form r
form_one_factor s r form read stops = with_tree Sequences s r form (tree_of form) refl read.lettered
    (reads_one_factor s r (tree_of form) read.reads) (sequences-one s r (tree_of form) read.only stops) read.shorter

pub form_both : (s m r : List ℕ) (p q form : Form) → ReadsForm Factors s p m → begins_primary m ≡ true → ReadsForm Sequences m q r → IsConcatenation p q form → ReadsForm Sequences s form r
form_both s m r p q form first goes second made = with_tree Sequences s r form (Both (tree_of p) (tree_of q)) (tree_both p q form made)
    (lettered_concatenation p q form first.lettered second.lettered made)
    (reads_both s m r (tree_of p) (tree_of q) first.reads second.reads)
    (sequences-both s m r (tree_of p) (tree_of q) first.only goes second.only)
    (let a = first.shorter in let b = second.shorter in omega (arith, a, b))

pub form_one_primary : (s r : List ℕ) (form : Form) → ReadsForm Primaries s form r → Lacks 42 r → ReadsForm Factors s form r
form_one_primary s r form read lacks = with_tree Factors s r form (tree_of form) refl read.lettered
    (reads_one_primary s r (tree_of form) read.reads) (factors-one s r (tree_of form) read.only lacks) read.shorter

pub form_starred : (s m r : List ℕ) (p form : Form) → ReadsForm Primaries s p m → m ≡ 42 ∷ r → IsQuantified p 0 None false form → ReadsForm Factors s form r
form_starred s m r p form read star made = with_tree Factors s r form (Star (tree_of p)) (tree_star p form made)
    (lettered_star p form read.lettered made)
    (reads_starred s m r (tree_of p) read.reads star)
    (factors-starred s m r (tree_of p) read.only star)
    (let a = read.shorter in let b = past_one m r 42 star in omega (arith, a, b))

pub form_letter : (s r : List ℕ) (v : ℕ) → s ≡ (v + 65) ∷ r → v < 26 → ReadsForm Primaries s (V.Variable v) r
form_letter s r v first few = with_tree Primaries s r (V.Variable v) (Letter v) (tree_variable v) (lettered_variable v few)
    (reads_letter s r v few first) (primaries-letter s r v first) (past_one s r (v + 65) first)

pub form_empty : (s m r : List ℕ) → s ≡ 40 ∷ m → m ≡ 41 ∷ r → ReadsForm Primaries s V.Empty r
form_empty s m r left right = with_tree Primaries s r V.Empty Nothing tree_empty lettered_empty
    (reads_nothing s m r left right) (primaries-nothing s m r left right)
    (let a = past_one s m 40 left in let b = past_one m r 41 right in omega (arith, a, b))

pub form_group : (s m n r : List ℕ) (form : Form) → s ≡ 40 ∷ m → Lacks 41 m → ReadsForm Alternatives m form n → n ≡ 41 ∷ r → ReadsForm Primaries s form r
form_group s m n r form left some read right = with_tree Primaries s r form (tree_of form) refl read.lettered
    (reads_group s m n r (tree_of form) left read.reads right) (primaries-group s m n r (tree_of form) left some read.only right)
    (let a = past_one s m 40 left in let b = past_one n r 41 right in let c = read.shorter in omega (arith, a, b, c))

-- where a parse stops
pub stop_sequence : (s : List ℕ) (left : ℕ) → StopsAt Sequences s left → StopsAt Alternatives s left
stop_sequence s left stop = record { none = alternatives-none s stop.none; within = stop.within }

pub stop_second_sequence : (s m n : List ℕ) (p : Form) (left : ℕ) → ReadsForm Sequences s p m → m ≡ 124 ∷ n → StopsAt Alternatives n left → StopsAt Alternatives s left
stop_second_sequence s m n p left first bar stop = record {
  none = alternatives-second_none s m n (tree_of p) first.only bar stop.none;
  within = let a = first.shorter in let b = past_one m n 124 bar in let c = stop.within in omega (arith, a, b, c);
}

pub stop_factor : (s : List ℕ) (left : ℕ) → StopsAt Factors s left → StopsAt Sequences s left
stop_factor s left stop = record { none = sequences-none s stop.none; within = stop.within }

pub stop_second_factor : (s m : List ℕ) (p : Form) (left : ℕ) → ReadsForm Factors s p m → begins_primary m ≡ true → StopsAt Sequences m left → StopsAt Sequences s left
stop_second_factor s m p left first goes stop = record {
  none = sequences-second_none s m (tree_of p) first.only goes stop.none;
  within = let a = first.shorter in let c = stop.within in omega (arith, a, c);
}

pub stop_primary : (s : List ℕ) (left : ℕ) → StopsAt Primaries s left → StopsAt Factors s left
stop_primary s left stop = record { none = factors-none s stop.none; within = stop.within }

pub stop_symbol : (s : List ℕ) (left : ℕ) → left ≡ length s → ((v : ℕ) → v < 26 → Lacks (v + 65) s) → Lacks 40 s → StopsAt Primaries s left
stop_symbol s left all letters bracket = record { none = primaries-none s letters bracket; within = omega (arith, all) }

pub stop_inner : (s m : List ℕ) (left : ℕ) → s ≡ 40 ∷ m → Lacks 41 m → StopsAt Alternatives m left → StopsAt Primaries s left
stop_inner s m left opens some stop = record {
  none = primaries-inner_none s m opens some stop.none;
  within = let a = past_one s m 40 opens in let c = stop.within in omega (arith, a, c);
}

pub stop_unclosed : (s m r : List ℕ) (form : Form) (left : ℕ) → left ≡ length r → s ≡ 40 ∷ m → Lacks 41 m → ReadsForm Alternatives m form r → Lacks 41 r → StopsAt Primaries s left
stop_unclosed s m r form left rest opens some read unclosed = record {
  none = primaries-unclosed s m r (tree_of form) opens some read.only unclosed;
  within = let a = past_one s m 40 opens in let c = read.shorter in omega (arith, rest, a, c);
}

pub ruleset alternatives_read = (form_one_sequence, form_either, stop_sequence, stop_second_sequence)

pub ruleset sequences_read = (form_one_factor, form_both, stop_factor, stop_second_factor)

pub ruleset factors_read = (form_one_primary, form_starred, stop_primary)

pub ruleset primaries_read = (form_letter, form_empty, form_group, stop_symbol, stop_inner, stop_unclosed)
