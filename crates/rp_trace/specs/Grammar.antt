-- The grammar of the patterns of `trace`, over a text without its spaces.
use Rattle.std.specs.Prelude.{◌≡◌, ℕ, zero, ◌+◌, ◌<◌, List, [], ◌∷◌, ◌++◌, Option, None, Bool, true, false, IsTrue, ◌==◌, not, codes}
use Rattle.std.specs.List.{filter}
use Rattle.rp_words.specs.declared.form.Form.{Form}
use Rattle.rp_words.specs.declared.form.Form.TheOpen.{Form-F, Variable, Empty, Concatenation, Alternation, PartitionStart, PartitionEnd, Permute, Exclusion, Quantified}
use Rattle.rp_words.specs.declared.form.Form.TheFolds.{fold-Form}
use Rattle.rp_words.specs.Bounds.{is_allowed}
use Rattle.rp_words.specs.Variables.{are_below}
use Rattle.rp_trace.specs.Bytes.{space, upper_a}
use Rattle.rp_trace.specs.Limits.{letter_count}

-- A pattern as plain data: its form without where its parts lie in memory. The grammar has variables, `()`, concatenation, `|` and
-- `*`, and any form beyond these is Other, which no text derives.
pub data Tree : Type 0 where
  Letter : ℕ → Tree
  Nothing : Tree
  Both : Tree → Tree → Tree
  Either : Tree → Tree → Tree
  Star : Tree → Tree
  Other : Tree

-- a quantified pattern: Star where the quantifier is greedy, from 0 on and without an upper bound, and else Other
abbrev pub quantified_tree : ℕ → Option ℕ → Bool → Tree → Tree
quantified_tree zero None false body = Star body
quantified_tree lower upper reluctant body = Other

-- one layer of a pattern, with the tree of each part in its place
abbrev pub tree_step : Form-F Tree → Tree
tree_step (Variable v) = Letter v
tree_step Empty = Nothing
tree_step (Concatenation p q) = Both p.value q.value
tree_step (Alternation p q) = Either p.value q.value
tree_step PartitionStart = Other
tree_step PartitionEnd = Other
tree_step (Permute ps) = Other
tree_step (Exclusion p) = Other
tree_step (Quantified p lower upper reluctant) = quantified_tree lower upper reluctant p.value

-- the tree of a form
abbrev pub tree_of : Form → Tree
tree_of = fold-Form Tree tree_step

-- the rules of the grammar
pub data Level : Type 0 where
  Alternatives : Level
  Sequences : Level
  Factors : Level
  Primaries : Level

-- By this rule of the grammar the symbols derive the tree. `*` binds closer than writing side by side, and this closer than `|`;
-- both group from the right.
pub data Derives : Level → List ℕ → Tree → Type 0 where
  one_sequence : {s : List ℕ} {t : Tree} → Derives Sequences s t → Derives Alternatives s t
  either : {s s' : List ℕ} {t t' : Tree} → Derives Sequences s t → Derives Alternatives s' t' → Derives Alternatives (s ++ (codes "|" ++ s')) (Either t t')
  one_factor : {s : List ℕ} {t : Tree} → Derives Factors s t → Derives Sequences s t
  both : {s s' : List ℕ} {t t' : Tree} → Derives Factors s t → Derives Sequences s' t' → Derives Sequences (s ++ s') (Both t t')
  one_primary : {s : List ℕ} {t : Tree} → Derives Primaries s t → Derives Factors s t
  starred : {s : List ℕ} {t : Tree} → Derives Primaries s t → Derives Factors (s ++ codes "*") (Star t)
  letter : (v : ℕ) → v < letter_count → Derives Primaries ((v + upper_a) ∷ []) (Letter v)
  nothing : Derives Primaries (codes "()") Nothing
  group : {s : List ℕ} {t : Tree} → Derives Alternatives s t → Derives Primaries (codes "(" ++ (s ++ codes ")")) t

-- what the grammar sees of a text: its bytes but the spaces
abbrev pub symbols_of : List ℕ → List ℕ
symbols_of text = filter (λ b. not (b == space)) text

-- The form is one that a `Pattern` may have (bounds in order and within their limits, and 1 to MAX_PARTS parts in a PERMUTE), and each of its variables is one of the
-- letters A to Z.
abbrev pub IsLettered : Form → Type 0
IsLettered form = IsTrue (is_allowed form) × (are_below letter_count form ≡ true)
