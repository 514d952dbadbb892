-- Nodes as sets and counts, and every schedule of what can happen to them.
use Rattle.std.specs.Prelude.{◌≡◌, ◌≢◌, ◌↔◌, ℕ, zero, suc, ◌+◌, ◌-◌, ◌≤◌, ◌==◌, Bool, true, false, ◌&&◌, ◌||◌, List, [], ◌∷◌, ◌++◌, length, take, Some, slice_get, Contains, if◌then◌else◌}
use Rattle.rp_words.specs.declared.word.End.{End}
use Rattle.rp_words.specs.declared.word.End.TheVariants.{Open, Closed}

pub record IsPrefixOf {A : Type 0} (xs ys : List A) : Type 0 where
  pub rest : List A
  pub is : xs ++ rest ≡ ys

-- what is known of the rows so far, at either end
abbrev pub KnownAnswer : Type 0 → Type 0 → Type 0
KnownAnswer Row Item = List Row → End → List Item

-- What is known of an open partition is the beginning of what is known of it with more rows, or closed.
abbrev pub Grows : {Row Item : Type 0} → KnownAnswer Row Item → Type 0
Grows {Row} known = (p q : List Row) (e : End) → IsPrefixOf (known p Open) (known (p ++ q) e)

-- ---- one partition at one node

-- Which rows were taken, by their numbers, whether the close was, and how many items were given.
pub record Standing : Type 0 where
  pub taken : ℕ → Bool
  pub closed : Bool
  pub given : ℕ

abbrev pub nothing_taken : Standing
nothing_taken = record { taken = λ _. false; closed = false; given = 0 }

abbrev pub with_number : ℕ → (ℕ → Bool) → ℕ → Bool
with_number k taken n = n == k || taken n

-- the greatest number up to `n` to which all were taken
abbrev pub reach : (ℕ → Bool) → ℕ → ℕ
reach taken zero = 0
reach taken (suc n) = if reach taken n == n && taken (suc n) then suc n else reach taken n

abbrev pub front : {Row : Type 0} → List Row → Standing → ℕ
front whole s = reach s.taken (length whole)

-- the partition is closed where the close was taken and all rows were
abbrev pub end_of : {Row : Type 0} → List Row → Standing → End
end_of whole s = if s.closed && front whole s == length whole then Closed else Open

-- what is known of the rows up to the front
abbrev pub known_of : {Row Item : Type 0} → KnownAnswer Row Item → List Row → Standing → List Item
known_of known whole s = known (take (front whole s) whole) (end_of whole s)

-- what a call does to a partition
pub data Act (Item : Type 0) : Type 0 where
  Takes : ℕ → Act Item
  Closes : Act Item
  Gives : ℕ → Item → Act Item
  Idles : Act Item
  Pauses : Act Item

-- What may be done: a row of the partition or its close is taken. A poll gives the next item of what is known,
-- is idle where there is none, or is paused.
pub data Step {Row Item : Type 0} (known : KnownAnswer Row Item) (whole : List Row) : Standing → Act Item → Standing
    → Type 0 where
  takes : {s : Standing} {k : ℕ} → 1 ≤ k → k ≤ length whole
      → Step known whole s (Takes k) (record s { taken = with_number k s.taken })
  closes : {s : Standing} → Step known whole s Closes (record s { closed = true })
  gives : {s : Standing} {x : Item} → slice_get (known_of known whole s) s.given ≡ Some x
      → Step known whole s (Gives (s.given + 1) x) (record s { given = s.given + 1 })
  idles : {s : Standing} → s.given ≡ length (known_of known whole s) → Step known whole s Idles s
  pauses : {s : Standing} → Step known whole s Pauses s

-- ---- all nodes

-- For each node, the state of each key's partition, and what it saved, the latest first.
pub record World (Key State : Type 0) : Type 0 where
  pub now : ℕ → Key → State
  pub saved : ℕ → List (Key → State)

abbrev pub at_start : {Key : Type 0} → World Key Standing
at_start = record { now = λ _ _. nothing_taken; saved = λ _. [] }

pub data Event (Key Item : Type 0) : Type 0 where
  Done : ℕ → Key → Act Item → Event Key Item
  Saved : ℕ → Event Key Item
  Restarted : ℕ → ℕ → Event Key Item
  BegunAnew : ℕ → Event Key Item
  Refused : ℕ → Event Key Item

-- other nodes are as before, and so are other partitions and all that was saved
pub record StaysElsewhere {Key State : Type 0} (a : ℕ) (key : Key) (old new : World Key State) : Type 0 where
  pub nodes : (b : ℕ) → b ≢ a → new.now b ≡ old.now b
  pub keys : (other : Key) → other ≢ key → new.now a other ≡ old.now a other
  pub saves : new.saved ≡ old.saved

-- the node is in another state, other nodes and all that was saved are as before
pub record Becomes {Key State : Type 0} (a : ℕ) (next : Key → State) (old new : World Key State) : Type 0 where
  pub state : new.now a ≡ next
  pub nodes : (b : ℕ) → b ≢ a → new.now b ≡ old.now b
  pub saves : new.saved ≡ old.saved

-- the node's state is saved too
pub record Saves {Key State : Type 0} (a : ℕ) (old new : World Key State) : Type 0 where
  pub state : new.saved a ≡ old.now a ∷ old.saved a
  pub nodes : (b : ℕ) → b ≢ a → new.saved b ≡ old.saved b
  pub now : new.now ≡ old.now

-- What may happen, where `whole` has each key's whole partition. A lost packet is no event.
pub data Happens {Key Row Item : Type 0} (known : KnownAnswer Row Item) (whole : Key → List Row) : World Key Standing
    → Event Key Item → World Key Standing → Type 0 where
  done : {old new : World Key Standing} {a : ℕ} {key : Key} {act : Act Item}
      → Step known (whole key) (old.now a key) act (new.now a key) → StaysElsewhere a key old new
      → Happens known whole old (Done a key act) new
  saves : {old new : World Key Standing} {a : ℕ} → Saves a old new → Happens known whole old (Saved a) new
  restarts : {old new : World Key Standing} {a which : ℕ} {state : Key → Standing}
      → slice_get (old.saved a) which ≡ Some state → Becomes a state old new
      → Happens known whole old (Restarted a which) new
  begins_anew : {old new : World Key Standing} {a : ℕ} → Becomes a (λ _. nothing_taken) old new
      → Happens known whole old (BegunAnew a) new
  refused : {w : World Key Standing} {a : ℕ} → Happens known whole w (Refused a) w

-- a schedule, and where it comes to
pub data Schedule {Key Row Item : Type 0} (known : KnownAnswer Row Item) (whole : Key → List Row)
    : List (Event Key Item) → World Key Standing → Type 0 where
  none : Schedule known whole [] at_start
  more : {events : List (Event Key Item)} {e : Event Key Item} {old new : World Key Standing}
      → Schedule known whole events old → Happens known whole old e new
      → Schedule known whole (events ++ e ∷ []) new

-- ---- what was given

-- the item has that place, which is one of the first `m`
pub record IsAtPlace {Item : Type 0} (m : ℕ) (answer : List Item) (place : ℕ) (x : Item) : Type 0 where
  pub least : 1 ≤ place
  pub greatest : place ≤ m
  pub there : slice_get answer (place - 1) ≡ Some x

-- all rows and the close were taken
pub record HoldsAll {Row : Type 0} (whole : List Row) (s : Standing) : Type 0 where
  pub rows : (k : ℕ) → 1 ≤ k → k ≤ length whole → s.taken k ≡ true
  pub close : s.closed ≡ true

-- What a node has given of a key's partition, in all its lives: the first items of the answer, each with its
-- place; and all of them where it holds all rows and the close and a poll is idle.
pub record GivesFront {Key Row Item : Type 0} (known : KnownAnswer Row Item) (whole : Key → List Row)
    (events : List (Event Key Item)) (w : World Key Standing) (a : ℕ) (key : Key) : Type 0 where
  pub count : ℕ
  pub within : count ≤ length (known (whole key) Closed)
  pub given : (place : ℕ) (x : Item)
      → Contains events (Done a key (Gives place x)) ↔ IsAtPlace count (known (whole key) Closed) place x
  pub all : HoldsAll (whole key) (w.now a key) → Step known (whole key) (w.now a key) Idles (w.now a key)
      → count ≡ length (known (whole key) Closed)
