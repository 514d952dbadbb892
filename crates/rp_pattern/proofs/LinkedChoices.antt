-- What becomes of choices whose continuations are linked parts.
use Rattle.std.proofs.Common.{◌≡◌, ℕ, ◌+◌, ◌≤◌, List, [], ◌∷◌, map, drop, Option, Some, None, Result, Ok, Err, OnOk, false, refl, sym, ap, ◌∙◌, subst, arith}
use Rattle.std.specs.Prelude.{sum_by}
use Rattle.std.proofs.lemmas.List.Sums.{sum_by-cons}
use Rattle.std.specs.declared.rc.Rc.{Rc}
use Rattle.std.specs.declared.alloc.Global.{Global}
use Rattle.std.specs.declared.alloc.AllocError.{AllocError}
use Rattle.rp_words.specs.declared.form.Form.{Form}
use Rattle.rp_words.specs.declared.form.Form.TheVariants.{Variable}
use Rattle.rp_words.specs.declared.word.End.{End}
use Rattle.rp_words.specs.declared.word.Label.{Label}
use Rattle.rp_words.specs.Mapping.{Mapping, Full, Open, preceded}
use Rattle.rp_words.specs.Words.{words}
use Rattle.rp_words.specs.Turns.{WordsAndTurns, turns, turns_after, chain_turns, within}
use Rattle.rp_words.proofs.Algebra.{concatenation_nothing_last}
use Rattle.rp_pattern.specs.declared.machine.node.Node.{Node}
use Rattle.rp_pattern.specs.declared.machine.link.Part.{Part}
use Rattle.rp_pattern.specs.declared.machine.link.Part.TheVariants.{Whole}
use Rattle.rp_pattern.specs.declared.machine.link.Link.{Link}
use Rattle.rp_pattern.specs.declared.machine.continuation.Continuation.{Continuation}
use Rattle.rp_pattern.specs.declared.machine.continuation.Continuation.TheVariants.{Done, Then, Row, Reached}
use Rattle.rp_pattern.specs.declared.machine.continuation.Choice.{Choice}
use Rattle.rp_pattern.specs.declared.machine.split.Split.{Split}
use Rattle.rp_pattern.specs.declared.machine.split.Expansion.{Expansion}
use Rattle.rp_pattern.specs.declared.machine.split.Expansion.TheVariants.{Full as FullExpansion, Row as RowExpansion, Open as OpenExpansion, Split as SplitExpansion}
use Rattle.rp_program.specs.Parts.{form_part}
use Rattle.rp_pattern.specs.Continuations.{links_from, reached_parts, links_parts, tail_links, tail_parts, continuation_parts, later_parts, chain_words, pushed, BeginsWithRow}
use Rattle.rp_pattern.specs.Splits.{StandsFor, Splits, TakenUp as PartsTakenUp}
use Rattle.rp_pattern.proofs.Steps.{row_taken as takes_row, taken_as}
use Rattle.rp_pattern.specs.Linked.{chain, tail_chain, linked_rest, linked_ways}
use Rattle.rp_pattern.specs.Rests.{Way, IsPut, GivesWay, TakenUp, first_later}

-- a choice, as a way to go on
abbrev pub linked_way : Choice → Way
linked_way c = record { depth = c.depth; rest = linked_rest c.continuation }

pub later_is : (n : ℕ) (e : End) (r : Continuation) → drop 1 (continuation_parts n e r) ≡ later_parts n e r
later_is n e Done = refl
later_is n e (Then node then) = refl
later_is n e (Row var next then) = refl
later_is n e (Reached link) = go (links_from link.value)
  where
    go : (ls : List (Option ℕ × Part)) → drop 1 (reached_parts n e ls) ≡ links_parts n e (drop 1 ls)
    go [] = refl
    go (l ∷ ls) = refl

-- a continuation that stands for parts, on other choices
pub parts_put : (ps : ℕ → End → List WordsAndTurns) (under : List Choice) (row depth : ℕ) (r : Option Continuation) → ((n : ℕ) (e : End) → StandsFor n e row (ps n e) r) →
    IsPut (λ n e. chain (ps n e)) row depth (linked_ways under) (linked_ways (pushed depth r under))
parts_put ps under row depth None h = record { rest = None; is = refl; stands = λ n e. record { words = (h n e).words; turns = (h n e).turns } }
parts_put ps under row depth (Some r) h =
    record { rest = Some (linked_rest r); is = refl; stands = λ n e. record { words = (h n e).words; turns = (h n e).turns } }

-- what follows the row of the first choice, on others
pub later_put : (old under new : List Choice) (c : Choice) (row depth : ℕ) (r : Option Continuation) → old ≡ c ∷ drop 1 old →
    ((n : ℕ) (e : End) → StandsFor n e row (later_parts n e c.continuation) r) → new ≡ pushed depth r under →
    IsPut (first_later (linked_ways old)) row depth (linked_ways under) (linked_ways new)
later_put old under new c row depth r on h set =
    subst (λ zs. IsPut (first_later (linked_ways zs)) row depth (linked_ways under) (linked_ways new)) (sym on)
    (subst (λ zs. IsPut (first_later (linked_ways (c ∷ drop 1 old))) row depth (linked_ways under) (linked_ways zs)) (sym set)
    (parts_put (λ n e. later_parts n e c.continuation) under row depth r h))

pub later_follows : (old new : List Choice) (c : Choice) (row depth : ℕ) (r : Option Continuation) → old ≡ c ∷ drop 1 old →
    ((n : ℕ) (e : End) → StandsFor n e row (later_parts n e c.continuation) r) → new ≡ pushed depth r (drop 1 old) →
    IsPut (first_later (linked_ways old)) row depth (drop 1 (linked_ways old)) (linked_ways new)
later_follows old new c row depth r on h set =
    subst (λ ws. IsPut (first_later (linked_ways old)) row depth ws (linked_ways new)) (ap (λ zs. drop 1 (linked_ways zs)) (sym on))
    (later_put old (drop 1 old) new c row depth r on h set)

-- the same, after a push
pub later_pushed : (old popped new : List Choice) (c : Choice) (row depth : ℕ) (r : Option Continuation) → old ≡ c ∷ drop 1 old → popped ≡ drop 1 old →
    ((n : ℕ) (e : End) → StandsFor n e row (later_parts n e c.continuation) r) → (x : Result Unit AllocError) → OnOk x (new ≡ pushed depth r popped) →
    OnOk x (IsPut (first_later (linked_ways old)) row depth (drop 1 (linked_ways old)) (linked_ways new))
later_pushed old popped new c row depth r on rest h (Err x) set = tt
later_pushed old popped new c row depth r on rest h (Ok x) set = later_follows old new c row depth r on h (set ∙ ap (pushed depth r) rest)

-- a whole pattern, on an empty stack
pub first_put : (tail : Option (Rc Link Global)) (old new : List Choice) (row : ℕ) (r : Option Continuation) → old ≡ [] →
    ((n : ℕ) (e : End) → StandsFor n e row (tail_parts n e tail) r) → (x : Result Unit AllocError) → OnOk x (new ≡ pushed 0 r old) →
    OnOk x (IsPut (tail_chain tail) row 0 [] (linked_ways new))
first_put tail old new row r none h (Err x) set = tt
first_put tail old new row r none h (Ok x) set =
    subst (λ zs. IsPut (tail_chain tail) row 0 [] (linked_ways zs)) (sym (set ∙ ap (pushed 0 r) none)) (parts_put (λ n e. tail_parts n e tail) [] row 0 r h)

gives_way : (c : Choice) (cs : List Choice) (n : ℕ) (e : End) (i : ℕ) (x y : Option Continuation) →
    Splits n e i (λ n e. continuation_parts n e c.continuation) (record { preferred = x; other = y }) →
    GivesWay n e i (linked_way c) (linked_ways cs) (linked_ways (pushed c.depth x (pushed c.depth y cs)))
gives_way c cs n e i None None w = record { preferred = None; other = None; is = refl; splits = record { words = w.words; turns = w.turns } }
gives_way c cs n e i None (Some s) w = record { preferred = None; other = Some (linked_rest s); is = refl; splits = record { words = w.words; turns = w.turns } }
gives_way c cs n e i (Some r) None w = record { preferred = Some (linked_rest r); other = None; is = refl; splits = record { words = w.words; turns = w.turns } }
gives_way c cs n e i (Some r) (Some s) w =
    record { preferred = Some (linked_rest r); other = Some (linked_rest s); is = refl; splits = record { words = w.words; turns = w.turns } }

-- what the parts of the first choice came to
module _ (Stays : Type 0) (old new : List Choice) (c : Choice) (n : ℕ) (e : End) (i : ℕ) (s : Split) (on : old ≡ c ∷ drop 1 old) where
  from_first : (x : Expansion) → TakenUp Stays n e i (linked_ways (c ∷ drop 1 old)) (linked_ways new) x → TakenUp Stays n e i (linked_ways old) (linked_ways new) x
  from_first x h = subst (λ zs. TakenUp Stays n e i (linked_ways zs) (linked_ways new) x) (sym on) h

  pub full_taken : Stays → PartsTakenUp n e i (λ n e. continuation_parts n e c.continuation) s FullExpansion → TakenUp Stays n e i (linked_ways old) (linked_ways new) FullExpansion
  full_taken stays w = from_first FullExpansion (stays, w)

  pub row_taken : (l : Label) → Stays → PartsTakenUp n e i (λ n e. continuation_parts n e c.continuation) s (RowExpansion l) →
      TakenUp Stays n e i (linked_ways old) (linked_ways new) (RowExpansion l)
  row_taken l stays w = from_first (RowExpansion l) (
    stays,
    record {
      known = w.known;
      words = λ n' e' more. w.words n' e' more ∙ ap (λ ps. map (preceded (l ∷ [])) (chain_words ps (i + 1))) (later_is n' e' c.continuation);
      turns = λ n' e' more. w.turns n' e' more ∙ ap (λ ps. 1 + chain_turns ps (i + 1)) (later_is n' e' c.continuation);
    },
  )

  pub open_taken : Stays → PartsTakenUp n e i (λ n e. continuation_parts n e c.continuation) s OpenExpansion → TakenUp Stays n e i (linked_ways old) (linked_ways new) OpenExpansion
  open_taken stays w = from_first OpenExpansion (stays, record { end = w.end; more = []; alone = λ h. refl; alike = tt; words = w.words; turns = w.turns })

  pub split_taken : PartsTakenUp n e i (λ n e. continuation_parts n e c.continuation) s SplitExpansion → new ≡ pushed c.depth s.preferred (pushed c.depth s.other (drop 1 old)) →
      TakenUp Stays n e i (linked_ways old) (linked_ways new) SplitExpansion
  split_taken w set =
      from_first SplitExpansion
      (subst (λ zs. GivesWay n e i (linked_way c) (linked_ways (drop 1 old)) (linked_ways zs)) (sym set)
      (gives_way c (drop 1 old) n e i s.preferred s.other w))

-- a choice that maps a known row first
pub known_row : (Stays : Type 0) (old new : List Choice) (c : Choice) (n : ℕ) (e : End) (i : ℕ) (l : Label) → old ≡ c ∷ drop 1 old → BeginsWithRow l c.continuation → Stays → i ≤ n →
    TakenUp Stays n e i (linked_ways old) (linked_ways new) (RowExpansion l)
known_row Stays old new c n e i l on begins stays known =
    let none : Split = record { preferred = None; other = None } in
    row_taken Stays old new c n e i none on l stays
    (taken_as n e i (λ n' e'. form_part n' e' (Variable l.var) l.excluded ∷ later_parts n' e' c.continuation) (λ n' e'. continuation_parts n' e' c.continuation) (λ n' e'. sym (begins n' e')) none (RowExpansion l)
    (takes_row n e i l.var l.excluded (λ n' e'. later_parts n' e' c.continuation) known))

none_after : (i : ℕ) (ws : List Mapping) → sum_by (turns_after (chain_turns []) i) ws ≡ 0
none_after i [] = refl
none_after i (Full ls ∷ ws) = omega (arith, sum_by-cons (turns_after (chain_turns []) i) (Full ls) ws, none_after i ws)
none_after i (Open ls ∷ ws) = omega (arith, sum_by-cons (turns_after (chain_turns []) i) (Open ls) ws, none_after i ws)

-- a whole pattern as a part of its own
module _ (tail : Option (Rc Link Global)) (node : Node) (f : Form) (n : ℕ) (e : End) (row : ℕ) (one : tail_links tail ≡ (None, Whole node) ∷ []) (shown : node.excluded ≡ false)
    (w : words n e node.form.value ≡ words n e f) (t : turns n e node.form.value ≡ turns n e f) where
  parts : tail_parts n e tail ≡ (words n e f, turns n e f) ∷ []
  parts =
      ap (links_parts n e) one
      ∙ ap (λ x. within x (words n e node.form.value, turns n e node.form.value) ∷ []) shown
      ∙ ap (λ p. (p, turns n e node.form.value) ∷ []) w ∙ ap (λ s. (words n e f, s) ∷ []) t

  pub whole_words : (tail_chain tail n e).0 row ≡ words n e f row
  whole_words = ap (λ ps. chain_words ps row) parts ∙ concatenation_nothing_last (words n e f) row

  pub whole_turns : (tail_chain tail n e).1 row ≡ turns n e f row
  whole_turns = ap (λ ps. chain_turns ps row) parts ∙ omega (arith, none_after row (words n e f row))
