-- What is written over rows: the answers of their partitions, in a form.
use Rattle.std.specs.Prelude.{◌≡◌, ℕ, suc, ◌+◌, ◌-◌, ◌<◌, ◌≤◌, List, [], ◌∷◌, ◌++◌, length, map, take, All, Option, None, Some, IfSome, option_map}
use Rattle.std.specs.declared.num.NonZeroU64.{NonZeroU64}
use Rattle.std.specs.Int.NonZero.{non_zero_u64_get}
use Rattle.std.specs.List.{flat_map}
use Rattle.std.specs.Io.KnownBytes.{Appends}
use Rattle.rp_value.specs.declared.value.Value.{Value}
use Rattle.rp_words.specs.declared.word.End.TheVariants.{Closed as ClosedEnd}
use Rattle.rp_words.specs.PatternForm.{form_of}
use Rattle.rp_words.specs.Turns.{turns}
use Rattle.rp_words.specs.Words.{words}
use Rattle.rp_query.specs.declared.query.QueryData.{QueryData}
use Rattle.rp_query.specs.declared.item.Item.{Item}
use Rattle.rp_known.specs.declared.place.Place.{Place}
use Rattle.rp_known.specs.Known.{Known}
use Rattle.rp_known.specs.Walk.{known, leg, leg_items, first_place, ComesTo}
use Rattle.rp_io.specs.Devices.{AppendsFront}
use Rattle.rp_input.specs.CsvRows.{AreRowsOf}
use Rattle.rp_numbering.specs.Numbered.{AreOrderedParts}
use Rattle.rp_numbering.specs.Partitions.{Part}
use Rattle.rp_whole.specs.declared.halted.Halted.{Halted}
use Rattle.rp_whole.specs.declared.stopped.Stopped.{Stopped}

-- A form of answers: what stands before them all, what an item of a partition's answer comes to by the partition's key and the
-- item's place, and whether it ends the answer by a skip fault that is told.
pub record Form : Type 0 where
  pub head : QueryData → List ℕ
  pub bytes : QueryData → List Value → ℕ → Item → List ℕ
  pub stops : List Value → Item → List Stopped

-- a partition that has all its rows
abbrev pub closed : List (List Value) → Known
closed rows = record { rows = rows; end = ClosedEnd }

-- the bytes of items, with places from this one on
abbrev pub bytes_from : Form → QueryData → List Value → ℕ → List Item → List ℕ
bytes_from form q key place [] = []
bytes_from form q key place (item ∷ items) = form.bytes q key place item ++ bytes_from form q key (suc place) items

-- the bytes of a partition: those of all items of its answer, with places from 1
abbrev pub part_bytes : Form → QueryData → Part → List ℕ
part_bytes form q part = bytes_from form q part.0 1 (known q (closed part.1))

-- whether a skip fault ends its answer, and which
abbrev pub part_stops : Form → QueryData → Part → List Stopped
part_stops form q part = flat_map (form.stops part.0) (known q (closed part.1))

-- the answers over rows: the form's head, and then the bytes of the rows' partitions, each in order, one after another
pub record AreAnswersOver (form : Form) (q : QueryData) (rows : List (List Value)) (bytes : List ℕ) (stopped : List Stopped) : Type 0 where
  pub parts : List Part
  pub ordered : AreOrderedParts q.partition.items q.order.items rows parts
  pub are : bytes ≡ form.head q ++ flat_map (part_bytes form q) parts
  pub stops : stopped ≡ flat_map (part_stops form q) parts

-- the answers of a text: it is a header and the records of rows, and these are the answers over them
pub record AreAnswersOf (form : Form) (q : QueryData) (text bytes : List ℕ) (stopped : List Stopped) : Type 0 where
  pub rows : List (List Value)
  pub read : AreRowsOf q.table text rows
  pub over : AreAnswersOver form q rows bytes stopped

-- Where the bytes written are known, they grow by the answers over these rows.
abbrev pub WritesOver : Form → QueryData → List (List Value) → Option (List ℕ) → Option (List ℕ) → List Stopped → Type 0
WritesOver form q rows old new stopped =
    (bytes : List ℕ) × AreAnswersOver form q rows bytes stopped × Appends old new bytes

-- they grow by a front of these
abbrev pub WritesFrontOver : Form → QueryData → List (List Value) → Option (List ℕ) → Option (List ℕ) → Type 0
WritesFrontOver form q rows old new =
    (bytes : List ℕ) × (stopped : List Stopped) × AreAnswersOver form q rows bytes stopped × AppendsFront old new bytes

-- Where the bytes of the input are known: those written, where they are known too, grow by its answers.
abbrev pub WritesOf : Form → QueryData → Option (List ℕ) → Option (List ℕ) → Option (List ℕ) → List Stopped → Type 0
WritesOf form q input old new stopped =
    IfSome input (λ text. (bytes : List ℕ) × AreAnswersOf form q text bytes stopped × Appends old new bytes)

-- they grow by a front of these
abbrev pub WritesFrontOf : Form → QueryData → Option (List ℕ) → Option (List ℕ) → Option (List ℕ) → Type 0
WritesFrontOf form q input old new = IfSome input
    (λ text. (bytes : List ℕ) × (stopped : List Stopped) × AreAnswersOf form q text bytes stopped × AppendsFront old new bytes)

-- ---- within a limit

-- the most turns of a start row's search, where there is a limit
abbrev pub limit_of : Option NonZeroU64 → Option ℕ
limit_of = option_map non_zero_u64_get

-- What is shown of a partition's answer: so many first items, and, where it is given up there, the start row of the search that
-- took too many turns.
pub record Shown : Type 0 where
  pub part : Part
  pub count : ℕ
  pub given_up : Option ℕ

abbrev pub items_shown : QueryData → Shown → List Item
items_shown q s = take s.count (known q (closed s.part.1))

abbrev pub shown_bytes : Form → QueryData → Shown → List ℕ
shown_bytes form q s = bytes_from form q s.part.0 1 (items_shown q s)

abbrev pub shown_stops : Form → QueryData → Shown → List Stopped
shown_stops form q s = flat_map (form.stops s.part.0) (items_shown q s)

-- whether the answer of the partition of this key is given up, and at which row
abbrev pub halted_at : List Value → Option ℕ → List Halted
halted_at key None = []
halted_at key (Some row) = record { key = key; row = row } ∷ []

abbrev pub shown_halted : Shown → List Halted
shown_halted s = halted_at s.part.0 s.given_up

-- How many turns a start row of a partition of n rows may take: those of the pattern from there, over rows that no condition refuses,
-- one for each of its words, one for each row behind the start row, and four in which the search ends and the walk goes on.
abbrev pub turns_at : QueryData → ℕ → ℕ → ℕ
turns_at q n row = turns n ClosedEnd (form_of q.pattern) row + length (words n ClosedEnd (form_of q.pattern) row) + (n - row) + 4

-- The answer of a partition of these rows is given up at one of them, behind so many items: the walk comes to this start row, the
-- items are those before it and first ones of its own, and it may take more turns than the limit.
pub record IsGivenUp (most : ℕ) (q : QueryData) (rows : List (List Value)) (count row : ℕ) : Type 0 where
  pub place : Place
  pub before : ℕ
  pub comes : ComesTo q (closed rows) first_place before place
  pub at_row : place.start ≡ row
  pub from : before ≤ count
  pub to : count ≤ before + length (leg_items (leg q (closed rows) place))
  pub in_rows : row ≤ length rows
  pub many : most < turns_at q (length rows) row

-- without a limit it isn't
abbrev pub IsByLimit : Option ℕ → QueryData → List (List Value) → ℕ → ℕ → Type 0
IsByLimit None q rows count row = ⊥
IsByLimit (Some most) q rows count row = IsGivenUp most q rows count row

-- All items are shown, unless the answer is given up, and that it is by a limit alone.
pub record IsShown (limit : Option ℕ) (q : QueryData) (s : Shown) : Type 0 where
  pub all : s.given_up ≡ None → items_shown q s ≡ known q (closed s.part.1)
  pub by_limit : IfSome s.given_up (IsByLimit limit q s.part.1 s.count)

-- The answers over rows where some may be given up: as `AreAnswersOver`, but that of each partition first items are shown; the
-- partitions whose answers are given up are told, in order.
pub record AreAnswersWithin (limit : Option ℕ) (form : Form) (q : QueryData) (rows : List (List Value)) (bytes : List ℕ)
    (stopped : List Stopped) (halted : List Halted) : Type 0 where
  pub shown : List Shown
  pub ordered : AreOrderedParts q.partition.items q.order.items rows (map (λ s. s.part) shown)
  pub are_shown : All (IsShown limit q) shown
  pub are : bytes ≡ form.head q ++ flat_map (shown_bytes form q) shown
  pub stops : stopped ≡ flat_map (shown_stops form q) shown
  pub halts : halted ≡ flat_map shown_halted shown

-- Where the bytes written are known, they grow by such answers,
abbrev pub WritesWithin : Option ℕ → Form → QueryData → List (List Value) → Option (List ℕ) → Option (List ℕ) → List Stopped → List Halted → Type 0
WritesWithin limit form q rows old new stopped halted =
    (bytes : List ℕ) × AreAnswersWithin limit form q rows bytes stopped halted × Appends old new bytes

-- or by a front of them.
abbrev pub WritesFrontWithin : Option ℕ → Form → QueryData → List (List Value) → Option (List ℕ) → Option (List ℕ) → Type 0
WritesFrontWithin limit form q rows old new =
    (bytes : List ℕ) × (stopped : List Stopped) × (halted : List Halted)
    × AreAnswersWithin limit form q rows bytes stopped halted × AppendsFront old new bytes
