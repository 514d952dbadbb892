-- What a front of some symbols derives, where what follows can't go on with it.
use Rattle.std.specs.Prelude.{◌≡◌, ℕ, ◌<◌, ◌≤◌, List, [], ◌∷◌, ◌++◌, length, drop, Bool, false, ◌&&◌, ◌||◌, nat_eq, nat_le}
use Rattle.rp_words.specs.declared.form.Form.{Form}
use Rattle.rp_trace.specs.Bytes.{asterisk, left_parenthesis, space, upper_a, upper_z, vertical_bar}
use Rattle.rp_trace.specs.Grammar.{Tree, Level, Alternatives, Sequences, Factors, Primaries, Derives, IsLettered, symbols_of, tree_of}

-- these bytes don't begin with the mark
abbrev pub Lacks : ℕ → List ℕ → Type 0
Lacks mark bytes = (rest : List ℕ) → bytes ≡ mark ∷ rest → ⊥

-- the offset is that of a symbol of the text, which is any byte but a space, or the length of the text
pub record IsSymbolPlace (text : List ℕ) (offset : ℕ) : Type 0 where
  pub within : offset ≤ length text
  pub symbol : Lacks space (drop offset text)

-- The offset is such a place, and from it on the text has `left` symbols.
pub record LeavesSymbols (text : List ℕ) (left offset : ℕ) : Type 0 where
  pub place : IsSymbolPlace text offset
  pub symbols : length (symbols_of (drop offset text)) ≡ left

-- a letter or an opening bracket is first
abbrev pub begins_primary : List ℕ → Bool
begins_primary [] = false
begins_primary (b ∷ rest) = nat_eq b left_parenthesis || (nat_le upper_a b && nat_le b upper_z)

-- what was read by this rule can't go on with these symbols
abbrev pub Ends : Level → List ℕ → Type 0
Ends Alternatives symbols = Lacks asterisk symbols × (begins_primary symbols ≡ false) × Lacks vertical_bar symbols
Ends Sequences symbols = Lacks asterisk symbols × (begins_primary symbols ≡ false)
Ends Factors symbols = Lacks asterisk symbols
Ends Primaries symbols = Unit {0}

-- a front of the symbols derives the tree, and these are left
abbrev pub ReadsTree : Level → List ℕ → Tree → List ℕ → Type 0
ReadsTree level symbols tree rest = (used : List ℕ) × Derives level used tree × (symbols ≡ used ++ rest)

-- No other front of the symbols derives a tree where what follows can't go on with it, and this one no other tree.
abbrev pub ReadsOnly : Level → List ℕ → Tree → List ℕ → Type 0
ReadsOnly level symbols tree rest = (used rest' : List ℕ) (tree' : Tree) → Derives level used tree' → symbols ≡ used ++ rest' → Ends level rest' → (tree ≡ tree') × (rest ≡ rest')

-- no front of the symbols derives a tree where what follows can't go on with it
abbrev pub ReadsNone : Level → List ℕ → Type 0
ReadsNone level symbols = (used rest : List ℕ) (tree : Tree) → Derives level used tree → symbols ≡ used ++ rest → Ends level rest → ⊥

-- A front of the symbols derives the form, which is lettered. No other front derives a tree where what follows can't go
-- on with it, and this one no other tree. Fewer symbols are left.
pub record ReadsForm (level : Level) (symbols : List ℕ) (form : Form) (rest : List ℕ) : Type 0 where
  pub lettered : IsLettered form
  pub reads : ReadsTree level symbols (tree_of form) rest
  pub only : ReadsOnly level symbols (tree_of form) rest
  pub shorter : length rest < length symbols

-- No front of the symbols derives a tree where what follows can't go on with it; `left` is no more than there are symbols.
pub record StopsAt (level : Level) (symbols : List ℕ) (left : ℕ) : Type 0 where
  pub none : ReadsNone level symbols
  pub within : left ≤ length symbols
