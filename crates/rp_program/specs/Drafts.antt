-- Inside: how a program grows in the making.
use Rattle.std.specs.Prelude.{◌≡◌, ℕ, ◌+◌, ◌<◌, ◌≤◌, Bool, true, false, ◌&&◌, nat_lt, List, [], ◌∷◌, ◌++◌, length, get_or, drop, Option, Some, None, ⊤}
use Rattle.rp_words.specs.declared.word.End.{End}
use Rattle.rp_words.specs.declared.form.Form.{Form}
use Rattle.rp_words.specs.declared.form.Form.TheVariants as form
use Rattle.std.specs.declared.rc.Rc.{Rc}
use Rattle.std.specs.declared.alloc.Global.{Global}
use Rattle.rp_words.specs.Permutations.{upto}
use Rattle.rp_words.specs.Words.{words, further, orders}
use Rattle.rp_words.specs.Turns.{WordsAndTurns, turns, iterations}
use Rattle.rp_program.specs.declared.place.Place.{Place}
use Rattle.rp_program.specs.declared.place.Place.TheVariants.{Match, Row, Split, RowSplit, PartitionStart, PartitionEnd, Loop}
use Rattle.rp_program.specs.declared.place.Next.{Next}
use Rattle.rp_program.specs.Parts.{form_part, form_parts, chained, in_order, no_way, joined, either, forked, Replaces}
use Rattle.rp_program.specs.Places.{at, at_option, made, stands_for, parts}

-- the place, if there is one, is among the first so many
abbrev pub IsOption : ℕ → Option ℕ → Type 0
IsOption k None = ⊤
IsOption k (Some q) = q < k

-- what comes next is among the first so many places
pub record IsWithin (k : ℕ) (next : Next) : Type 0 where
  pub unmoved : IsOption k next.unmoved
  pub moved : next.moved < k

-- the places that the place with number q names: earlier ones, but the choices of a loop may be any of k
abbrev pub Names : ℕ → ℕ → Place → Type 0
Names k q Match = ⊤
Names k q (Row var excluded next) = next < q
Names k q (Split preferred other) = (preferred < q) × (other < q)
Names k q (RowSplit preferred other others) = (preferred < q) × (other < q)
Names k q (PartitionStart next) = next < q
Names k q (PartitionEnd next) = IsOption q next
Names k q (Loop preferred other body excluded reluctant next) = (preferred < k) × (other < k) × (next < q)

-- the same, as a test
abbrev pub names_hold : ℕ → ℕ → Place → Bool
names_hold k q Match = true
names_hold k q (Row var excluded next) = nat_lt next q
names_hold k q (Split preferred other) = nat_lt preferred q && nat_lt other q
names_hold k q (RowSplit preferred other others) = nat_lt preferred q && nat_lt other q
names_hold k q (PartitionStart next) = nat_lt next q
names_hold k q (PartitionEnd None) = true
names_hold k q (PartitionEnd (Some next)) = nat_lt next q
names_hold k q (Loop preferred other body excluded reluctant next) = nat_lt preferred k && nat_lt other k && nat_lt next q

-- the place at a number
abbrev pub place_at : List Place → ℕ → Place
place_at places q = get_or places q Match

-- the place names others that are there, and what it makes of them replaces what it stands for
pub record Holds (places : List Place) (q : ℕ) : Type 0 where
  pub names : Names (length places) q (place_at places q)
  pub makes : (n : ℕ) (e : End) (i : ℕ) → Replaces i (at (parts n e places) q) (made n e (parts n e places) (place_at places q))

-- further places are behind the old ones, and each of them holds
pub record Grows (old new : List Place) : Type 0 where
  pub more : List Place
  pub is : new ≡ old ++ more
  pub holds : (q : ℕ) → length old ≤ q → q < length new → Holds new q

-- a place has been put behind the old ones; its number is how many there were
pub record Pushes (place : Place) (old new : List Place) (result : ℕ) : Type 0 where
  pub number : result ≡ length old
  pub is : new ≡ old ++ place ∷ []

-- The new places begin with one that replaces a part, or with none where nothing is left of it.
pub record Puts (part : ℕ → End → ℕ → WordsAndTurns) (old new : List Place) (result : Option ℕ) : Type 0 where
  pub grows : Grows old new
  pub within : IsOption (length new) result
  pub stands : (n : ℕ) (e : End) (i : ℕ) → Replaces i (part n e i) (at_option (parts n e new) result)

-- The new places begin with two: one where no row has been taken since the row that it begins at, and one where a row
-- has been taken.
pub record Makes (here past : ℕ → End → ℕ → WordsAndTurns) (old new : List Place) (result : Next) : Type 0 where
  pub grows : Grows old new
  pub within : IsWithin (length new) result
  pub unmoved : (n : ℕ) (e : End) (i : ℕ) → Replaces i (here n e i) (at_option (parts n e new) result.unmoved)
  pub moved : (n : ℕ) (e : End) (i : ℕ) → Replaces i (past n e i) (at (parts n e new) result.moved)

-- a part, before what comes next
abbrev pub LeadsInto : (ℕ → End → WordsAndTurns) → Next → List Place → List Place → Next → Type 0
LeadsInto p next old new result =
    Makes (λ n e i. joined (p n e) (forked i (at_option (parts n e old) next.unmoved) (at (parts n e old) next.moved)))
    (λ n e i. joined (p n e) (at (parts n e old) next.moved)) old new result

-- the parts of a PERMUTE in the order of this number, before what comes next
pub record LeadsInOrder (forms : List (Rc Form Global)) (number : ℕ) (excluded : Bool) (next : Next) (old new : List Place) (result : Next) : Type 0 where
  pub order : List ℕ
  pub is_order : drop number (orders (upto (length forms))) ≡ order ∷ drop (number + 1) (orders (upto (length forms)))
  pub leads : LeadsInto (λ n e. chained (in_order (form_parts n e forms excluded) order)) next old new result

-- either of two places, or the one that there is
abbrev pub ChoosesPlace : Option ℕ → Option ℕ → List Place → List Place → Option ℕ → Type 0
ChoosesPlace preferred other old new result =
    Puts (λ n e i. either (at_option (parts n e old) preferred) (at_option (parts n e old) other)) old new result

-- the same, by whether a row has been taken
abbrev pub Chooses : Next → Next → List Place → List Place → Next → Type 0
Chooses preferred other old new result =
    Makes (λ n e i. either (at_option (parts n e old) preferred.unmoved) (at_option (parts n e old) other.unmoved))
    (λ n e i. either (at (parts n e old) preferred.moved) (at (parts n e old) other.moved)) old new result

-- `^` before a place, if there is one
abbrev pub StartsPlace : Option ℕ → List Place → List Place → Option ℕ → Type 0
StartsPlace next old new result = Puts (λ n e i. joined (form_part n e form.PartitionStart false) (at_option (parts n e old) next)) old new result

-- another iteration, or to stop: a reluctant quantifier prefers to stop
abbrev pub choice : Bool → WordsAndTurns → WordsAndTurns → WordsAndTurns
choice false another stop = either another stop
choice true another stop = either stop another

-- a place for another iteration, or a place where it stops
abbrev pub StopsOr : Bool → Option ℕ → Option ℕ → List Place → List Place → Option ℕ → Type 0
StopsOr reluctant another stop old new result =
    Puts (λ n e i. choice reluctant (at_option (parts n e old) another) (at_option (parts n e old) stop)) old new result

-- the same, by whether a row has been taken since the iterations began
abbrev pub Stops : Bool → Option ℕ → Next → List Place → List Place → Next → Type 0
Stops reluctant another next old new result =
    Makes (λ n e i. choice reluctant (at_option (parts n e old) another) (at_option (parts n e old) next.unmoved))
    (λ n e i. choice reluctant (at_option (parts n e old) another) (at (parts n e old) next.moved)) old new result

-- any number of iterations of a part, each of which takes a row
abbrev pub any_number : Form → Bool → Bool → ℕ → End → WordsAndTurns
any_number body excluded reluctant n e = iterations 0 (further n 0 None) reluctant (form_part n e body excluded)

-- A place stands for any number of iterations, and what follows them.
abbrev pub IsLoop : Form → Bool → Bool → ℕ → Place → Type 0
IsLoop body excluded reluctant next place =
    (n : ℕ) (e : End) (ps : List WordsAndTurns) → stands_for n e ps place ≡ joined (any_number body excluded reluctant n e) (at ps next)

-- A loop has been put behind the places, whose two choices are to be made.
pub record Opens (body : Form) (excluded reluctant : Bool) (next : ℕ) (old new : List Place) (result : ℕ) : Type 0 where
  pub open_loop : Place
  pub loops : IsLoop body excluded reluctant next open_loop
  pub pushes : Pushes open_loop old new result

-- Behind the places there are a loop that isn't closed, and those of an iteration that leads back to it.
pub record LeadsBack (body : Form) (excluded reluctant : Bool) (next : Next) (loop : ℕ) (another : Option ℕ) (old new : List Place) : Type 0 where
  pub open_loop : Place
  pub number : loop ≡ length old
  pub loops : IsLoop body excluded reluctant next.moved open_loop
  pub grows : Grows (old ++ open_loop ∷ []) new
  pub next_within : IsWithin (length old) next
  pub another_within : IsOption (length new) another
  pub leads : (n : ℕ) (e : End) (i : ℕ) →
      Replaces i (joined (form_part n e body excluded) (forked i no_way (at (parts n e new) loop))) (at_option (parts n e new) another)

-- The open loop has been closed: it is either of two places.
pub record Closes (body : Form) (excluded reluctant : Bool) (next : Next) (loop another : ℕ) (old new : List Place) : Type 0 where
  pub closed_loop : Place
  pub loops : IsLoop body excluded reluctant next.moved closed_loop
  pub makes : (n : ℕ) (e : End) (ps : List WordsAndTurns) → made n e ps closed_loop ≡ choice reluctant (at ps another) (at ps next.moved)
  pub names : (k : ℕ) → another < k → next.moved < loop → loop < k → Names k loop closed_loop
  pub is : (start more : List Place) (open_loop : Place) → old ≡ start ++ open_loop ∷ more → loop ≡ length start → new ≡ start ++ closed_loop ∷ more
  pub long : length new ≡ length old

-- All places hold, and from each row the one at this number has the words of the whole pattern, and takes no more turns.
pub record Begins (f : Form) (places : List Place) (first : ℕ) : Type 0 where
  pub holds : (q : ℕ) → q < length places → Holds places q
  pub within : first < length places
  pub replaces : (n : ℕ) (e : End) (i : ℕ) → Replaces i (words n e f, turns n e f) (at (parts n e places) first)
