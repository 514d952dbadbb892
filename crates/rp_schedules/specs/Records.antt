-- A node's record of a partition, which whole partitions it fits, and what calls make of it.
use Rattle.std.specs.Prelude.{◌≡◌, ℕ, ◌+◌, ◌-◌, ◌≤◌, ◌==◌, ◌&&◌, true, false, List, [], ◌∷◌, ◌++◌, length, take, Option, Some, None, is_some, slice_get, Contains, ◌↔◌, if◌then◌else◌}
use Rattle.rp_value.specs.declared.value.Value.{Value}
use Rattle.rp_words.specs.declared.word.End.{End}
use Rattle.rp_words.specs.declared.word.End.TheVariants.{Open, Closed}
use Rattle.rp_query.specs.declared.query.QueryData.{QueryData}
use Rattle.rp_query.specs.declared.item.Item.{Item}
use Rattle.rp_query.specs.Sound.{IsSound}
use Rattle.rp_same_query.specs.SameQuery.{IsSameQuery}
use Rattle.rp_known.specs.Known.{Known}
use Rattle.rp_known.specs.Plans.{first_read}
use Rattle.rp_known.specs.Walk.{known, answer}
use Rattle.rp_walker.specs.declared.record.MatcherState.{MatcherState}
use Rattle.rp_walker.specs.Records.{first_state, Fits as StateFits}
use Rattle.rp_feed.specs.Fed.{Fed, IsOrdered, IsFree, IsReached, fed_from, row_at, is_taken, with_taken, with_close, forgotten, front_of}
use Rattle.rp_schedules.specs.Schedules.{KnownAnswer, Standing, World, StaysElsewhere, Becomes, Saves, Event, Done, Saved, Restarted, BegunAnew, Refused, Act, Takes, Closes, Gives, Idles, Pauses, IsAtPlace}

abbrev pub Row : Type 0
Row = List Value

-- what is known of rows, at either end
abbrev pub known_of_rows : QueryData → KnownAnswer Row Item
known_of_rows q rows e = known q (record { rows = rows; end = e })

-- the answer on a whole partition
abbrev pub answer_on : QueryData → List Row → List Item
answer_on q whole = answer q (record { rows = whole; end = Closed })

-- a record of a partition: what was taken, and where its walk stands
pub record Held : Type 0 where
  pub feed : Fed
  pub state : MatcherState

-- the record of a partition of which nothing was taken
abbrev pub fresh : Held
fresh = record { feed = fed_from 1; state = first_state }

-- The feed's rows are the partition's at their numbers, and its close, if it was taken, counts them. No more
-- rows than there are were dropped.
pub record IsOf (whole : List Row) (feed : Fed) : Type 0 where
  pub ordered : IsOrdered feed
  pub dropped : feed.first ≤ length whole + 1
  pub same : (n : ℕ) (row : Row) → row_at feed.rows n ≡ Some row → slice_get whole (n - 1) ≡ Some row
  pub count : (c : ℕ) → feed.closed ≡ Some c → c ≡ length whole

-- the partition is seen as closed where its close was taken and the front is its length
abbrev pub end_seen : List Row → Fed → End
end_seen whole feed = if is_some feed.closed && front_of feed == length whole then Closed else Open

-- what is known of the partition: its rows up to the front, and that end
abbrev pub seen_part : List Row → Fed → Known
seen_part whole feed = record { rows = take (front_of feed) whole; end = end_seen whole feed }

-- The record fits the whole partition.
pub record Fits (q : QueryData) (whole : List Row) (r : Held) : Type 0 where
  pub feed : IsOf whole r.feed
  pub first : r.state.first ≡ r.feed.first
  pub stands : StateFits q r.state (seen_part whole r.feed)

-- a record stands for the numbers taken, the close and the count of items
pub record StandsFor (r : Held) (s : Standing) : Type 0 where
  pub taken : (n : ℕ) → 1 ≤ n → s.taken n ≡ is_taken r.feed n
  pub closed : s.closed ≡ is_some r.feed.closed
  pub given : s.given ≡ r.state.given

-- What a poll does to a record that fits: the next item of what is known is given, or none was there, or the
-- poll was paused or found no memory. Only an item raises the number of given items, by one.
pub data Polls (q : QueryData) (whole : List Row) (old new : Held) : Act Item → Type 0 where
  item : {x : Item} → slice_get (known q (seen_part whole old.feed)) old.state.given ≡ Some x
      → new.state.given ≡ old.state.given + 1 → Polls q whole old new (Gives (old.state.given + 1) x)
  idle : old.state.given ≡ length (known q (seen_part whole old.feed)) → new.state.given ≡ old.state.given
      → Polls q whole old new Idles
  paused : new.state.given ≡ old.state.given → Polls q whole old new Pauses

-- And the record fits afterwards, with the same numbers taken and the same close.
pub record PollFits (q : QueryData) (whole : List Row) (old new : Held) (act : Act Item) : Type 0 where
  pub fits : Fits q whole new
  pub taken : (n : ℕ) → 1 ≤ n → is_taken new.feed n ≡ is_taken old.feed n
  pub closed : new.feed.closed ≡ old.feed.closed
  pub polls : Polls q whole old new act

-- ---- calls

abbrev pub with_fed : Held → Fed → Held
with_fed r feed = record r { feed = feed }

-- a partition of which nothing was accepted is as fresh as a new record
abbrev pub or_fresh : Option Held → Held
or_fresh None = fresh
or_fresh (Some r) = r

-- the rows below a number are dropped
abbrev pub dropped_to : ℕ → Held → Held
dropped_to before r = record { feed = forgotten before r.feed; state = record r.state { first = before } }

-- for each node and key the record, where there is one
abbrev pub Nodes : Type 0 → Type 0
Nodes Key = World Key (Option Held)

-- the record of a key at a node: a fresh one where nothing was accepted
abbrev pub record_at : {Key : Type 0} → Nodes Key → ℕ → Key → Held
record_at w a key = or_fresh (w.now a key)

-- What calls do, where `whole` has each key's whole partition. A packet that repeats, is old or is refused
-- changes no record, and what is refused is `nothing_done`. A poll that finds no memory may leave another
-- record, which fits and stands for the same.
pub data Calls {Key : Type 0} (q : QueryData) (whole : Key → List Row) : Nodes Key → Event Key Item → Nodes Key
    → Type 0 where
  row_taken : {old new : Nodes Key} {a : ℕ} {key : Key} (k : ℕ) (row : Row)
      → 1 ≤ k → slice_get (whole key) (k - 1) ≡ Some row → IsFree (record_at old a key).feed k
      → new.now a key ≡ Some (with_fed (record_at old a key) (with_taken k row (record_at old a key).feed))
      → StaysElsewhere a key old new → Calls q whole old (Done a key (Takes k)) new
  close_taken : {old new : Nodes Key} {a : ℕ} {key : Key}
      → new.now a key ≡ Some (with_fed (record_at old a key) (with_close (length (whole key)) (record_at old a key).feed))
      → StaysElsewhere a key old new → Calls q whole old (Done a key Closes) new
  polled : {old new : Nodes Key} {a : ℕ} {key : Key} {act : Act Item}
      → (Fits q (whole key) (record_at old a key) → PollFits q (whole key) (record_at old a key) (record_at new a key) act)
      → StaysElsewhere a key old new → Calls q whole old (Done a key act) new
  no_memory : {old new : Nodes Key} {a : ℕ} {key : Key}
      → (Fits q (whole key) (record_at old a key) → PollFits q (whole key) (record_at old a key) (record_at new a key) Pauses)
      → StaysElsewhere a key old new → Calls q whole old (Refused a) new
  saved : {old new : Nodes Key} {a : ℕ} → Saves a old new → Calls q whole old (Saved a) new
  restarted : {old new : Nodes Key} {a which : ℕ} {state : Key → Option Held}
      → slice_get (old.saved a) which ≡ Some state → Becomes a state old new
      → Calls q whole old (Restarted a which) new
  begun_anew : {old new : Nodes Key} {a : ℕ} → Becomes a (λ _. None) old new → Calls q whole old (BegunAnew a) new
  nothing_done : {w : Nodes Key} {a : ℕ} → Calls q whole w (Refused a) w

-- A call of a node that has the same query. Each process compiles the clause for itself, so a node has a query of its own,
-- and another one once it goes on in another process.
pub record CallsBySame {Key : Type 0} (q : QueryData) (whole : Key → List Row) (old : Nodes Key) (e : Event Key Item)
    (new : Nodes Key) : Type 0 where
  pub query : QueryData
  pub same : IsSameQuery q query
  pub sound : IsSound query
  pub calls : Calls query whole old e new

-- a run of the nodes, from fresh ones, each call by a query that is the same as this one
pub data Runs {Key : Type 0} (q : QueryData) (whole : Key → List Row) : List (Event Key Item) → Nodes Key
    → Type 0 where
  none : Runs q whole [] (record { now = λ _ _. None; saved = λ _. [] })
  more : {events : List (Event Key Item)} {e : Event Key Item} {old new : Nodes Key} → Runs q whole events old
      → CallsBySame q whole old e new → Runs q whole (events ++ e ∷ []) new

-- ---- what runs give

-- all rows were taken, dropped ones too, and the close
pub record HoldsWhole (whole : List Row) (feed : Fed) : Type 0 where
  pub rows : (k : ℕ) → 1 ≤ k → k ≤ length whole → is_taken feed k ≡ true
  pub close : feed.closed ≡ Some (length whole)

-- What a node has given of a key's partition, in all its lives: the first items of the answer on the whole
-- partition, each with its place; and all of them where it holds all rows and the close and a poll is idle.
pub record RunGivesFront {Key : Type 0} (q : QueryData) (whole : Key → List Row) (events : List (Event Key Item))
    (nodes : Nodes Key) (a : ℕ) (key : Key) : Type 0 where
  pub count : ℕ
  pub within : count ≤ length (answer_on q (whole key))
  pub given : (place : ℕ) (x : Item)
      → Contains events (Done a key (Gives place x)) ↔ IsAtPlace count (answer_on q (whole key)) place x
  pub all : HoldsWhole (whole key) (record_at nodes a key).feed →
      (after : Nodes Key) → CallsBySame q whole nodes (Done a key Idles) after → count ≡ length (answer_on q (whole key))

-- A fresh record fits, and one that fits goes on fitting with one more row of the partition or its close, and
-- without the rows that its walk doesn't read any more; then the same numbers were taken. Its front is in the
-- partition.
pub record RecordsStay (q : QueryData) (whole : List Row) : Type 0 where
  pub fresh_fits : Fits q whole fresh
  pub row_fits : (r : Held) (k : ℕ) (row : Row) → Fits q whole r → 1 ≤ k → slice_get whole (k - 1) ≡ Some row
      → IsFree r.feed k
      → Fits q whole (with_fed r (with_taken k row r.feed))
  pub close_fits : (r : Held) → Fits q whole r → Fits q whole (with_fed r (with_close (length whole) r.feed))
  pub rest_fits : (r : Held) (before : ℕ) → Fits q whole r → IsReached r.feed before
      → (r.state.over ≡ false → before ≤ first_read q r.state.at)
      → Fits q whole (dropped_to before r)
  pub front_within : (r : Held) → Fits q whole r → front_of r.feed ≤ length whole
