-- Inside: what is left of a pattern: parts one after another, each as its words and its turns.
use Rattle.std.specs.Prelude.{◌≡◌, ℕ, suc, Bool, List, [], ◌∷◌, map, drop, Option, Some, None, IsTrue}
use Rattle.std.specs.declared.rc.Rc.{Rc}
use Rattle.std.specs.declared.alloc.Global.{Global}
use Rattle.rp_words.specs.declared.form.Form.{Form}
use Rattle.rp_words.specs.declared.form.Form.TheVariants.{Variable}
use Rattle.rp_words.specs.declared.word.End.{End}
use Rattle.rp_words.specs.declared.word.Label.{Label}
use Rattle.rp_program.specs.Parts.{form_part}
use Rattle.rp_pattern.specs.declared.machine.node.Node.{Node}
use Rattle.rp_pattern.specs.declared.machine.iterations.Iterations.{Iterations}
use Rattle.rp_pattern.specs.declared.machine.link.Part.{Part}
use Rattle.rp_pattern.specs.declared.machine.link.Part.TheVariants.{Whole, Times, Orders}
use Rattle.rp_pattern.specs.declared.machine.link.Link.{Link}
use Rattle.rp_pattern.specs.declared.machine.link.Link.TheOpen.{Link-F}
use Rattle.rp_pattern.specs.declared.machine.link.Link.TheFolds.{fold-Link}
use Rattle.rp_pattern.specs.declared.machine.link.Link.TheViews.{out-Link}
use Rattle.rp_pattern.specs.declared.machine.continuation.Continuation.{Continuation}
use Rattle.rp_pattern.specs.declared.machine.continuation.Continuation.TheVariants.{Done, Then, Row, Reached}
use Rattle.rp_pattern.specs.declared.machine.continuation.Choice.{Choice}
use Rattle.rp_words.specs.Movement.{always_moves}
use Rattle.rp_pattern.specs.PermutedParts.{permuted_parts}
use Rattle.rp_words.specs.Words.{Mappings, sequence}
use Rattle.rp_words.specs.Turns.{WordsAndTurns, past, iterations, orders_from, words_of}

-- a node, as a part
abbrev pub node_part : ℕ → End → Node → WordsAndTurns
node_part n e node = form_part n e node.form.value node.excluded

-- how many iterations may still follow. With no upper bound the rows are a bound, as in `further` of Words
abbrev pub still : ℕ → Option ℕ → ℕ
still n (Some k) = k
still n None = suc (suc n)

-- iterations, `lower` of them required, as a part, inside an exclusion or outside of one
abbrev pub iterations_part : ℕ → End → ℕ → Iterations → WordsAndTurns
iterations_part n e lower it = iterations lower (still n it.further) it.reluctant (node_part n e it.body)

-- the parts of a PERMUTE
abbrev pub permuted_form_parts : ℕ → End → Node → List WordsAndTurns
permuted_form_parts n e node = map (λ f. form_part n e f node.excluded) (permuted_parts node.form.value)

-- what is linked into a continuation, as a part
abbrev pub part_as : ℕ → End → Part → WordsAndTurns
part_as n e (Whole node) = node_part n e node
part_as n e (Times lower it) = iterations_part n e lower it
part_as n e (Orders o) = orders_from o.from (permuted_form_parts n e o.permute)

-- the later parts in order, each with the row that it is reached past, if any
abbrev pub links_behind : Option (Rc (List (Option ℕ × Part)) Global) → List (Option ℕ × Part)
links_behind None = []
links_behind (Some p) = p.value

-- a link, and then those behind it
abbrev pub link_step : Link-F (List (Option ℕ × Part)) → List (Option ℕ × Part)
link_step l = (l.since, l.part) ∷ links_behind l.then

-- a link and all behind it
abbrev pub links_from : Link → List (Option ℕ × Part)
links_from = fold-Link (List (Option ℕ × Part)) link_step

-- the later parts, if there are any
abbrev pub tail_links : Option (Rc Link Global) → List (Option ℕ × Part)
tail_links None = []
tail_links (Some p) = links_from p.value

-- a part that is reached only past a row, if such a row is named
abbrev pub guarded : Option ℕ → WordsAndTurns → WordsAndTurns
guarded None p = p
guarded (Some since) p = past since p

-- the later parts, as words and turns
abbrev pub links_parts : ℕ → End → List (Option ℕ × Part) → List WordsAndTurns
links_parts n e ls = map (λ l. guarded l.0 (part_as n e l.1)) ls

-- the later parts of a tail, as words and turns
abbrev pub tail_parts : ℕ → End → Option (Rc Link Global) → List WordsAndTurns
tail_parts n e tail = links_parts n e (tail_links tail)

-- later parts, the first of which is reached
abbrev pub reached_parts : ℕ → End → List (Option ℕ × Part) → List WordsAndTurns
reached_parts n e [] = []
reached_parts n e (l ∷ ls) = part_as n e l.1 ∷ links_parts n e ls

-- all parts of a continuation, the first one first
abbrev pub continuation_parts : ℕ → End → Continuation → List WordsAndTurns
continuation_parts n e Done = []
continuation_parts n e (Then node then) = node_part n e node ∷ tail_parts n e then
continuation_parts n e (Row var next then) = form_part n e (Variable var) next.excluded ∷ node_part n e next ∷ tail_parts n e then
continuation_parts n e (Reached link) = reached_parts n e (links_from link.value)

-- what comes after the first part
abbrev pub later_parts : ℕ → End → Continuation → List WordsAndTurns
later_parts n e Done = []
later_parts n e (Then node then) = tail_parts n e then
later_parts n e (Row var next then) = node_part n e next ∷ tail_parts n e then
later_parts n e (Reached link) = links_parts n e (drop 1 (links_from link.value))

-- it maps a row first, with this label
abbrev pub BeginsWithRow : Label → Continuation → Type 0
BeginsWithRow l r = (n : ℕ) (e : End) → continuation_parts n e r ≡ form_part n e (Variable l.var) l.excluded ∷ later_parts n e r

-- the words of parts one after another
abbrev pub chain_words : List WordsAndTurns → Mappings
chain_words ps = sequence (map words_of ps)

-- a choice on a stack, if there is one
abbrev pub pushed : ℕ → Option Continuation → List Choice → List Choice
pushed depth None cs = cs
pushed depth (Some r) cs = (record { depth = depth; continuation = r }) ∷ cs

-- the node is a copy of one with this form, inside an exclusion or outside
abbrev pub IsNodeOf : Form → Bool → Node → Type 0
IsNodeOf f excluded node = (node.form.value ≡ f) × (node.excluded ≡ excluded)

-- the iterations are a copy of these, of which `further` may still follow
abbrev pub AreIterationsOf : Iterations → Option ℕ → Iterations → Type 0
AreIterationsOf it further copy = IsNodeOf it.body.form.value it.body.excluded copy.body × (copy.further ≡ further) × (copy.reluctant ≡ it.reluctant)

-- these iterations come first, `lower` of them required
abbrev pub IsTimes : ℕ → Iterations → Link → Type 0
IsTimes lower it link = (out-Link link).part ≡ Times lower it

-- each iteration takes a row, and so any number may follow it
abbrev pub ComesUnchanged : ℕ → Iterations → Link → Type 0
ComesUnchanged lower it link = ((out-Link link).since ≡ None) × (lower ≡ 0) × (it.further ≡ None) × IsTrue (always_moves it.body.form.value)

-- one fewer may follow, where there is a bound
abbrev pub IsOneLess : Option ℕ → Option ℕ → Type 0
IsOneLess None less = less ≡ None
IsOneLess (Some k) less = (h : ℕ) × (k ≡ suc h) × (less ≡ Some h)

-- the same words and turns from each row
abbrev pub IsSamePart : WordsAndTurns → WordsAndTurns → Type 0
IsSamePart p q = (i : ℕ) → (p.0 i ≡ q.0 i) × (p.1 i ≡ q.1 i)
