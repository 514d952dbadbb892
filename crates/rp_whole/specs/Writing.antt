-- Inside: how items are written: those of partitions one after another, those of a partition one at a time.
use Rattle.std.specs.Prelude.{◌≡◌, ℕ, ◌+◌, List, [], ◌++◌, map, drop, All, Option}
use Rattle.std.specs.Io.KnownBytes.{Appends}
use Rattle.std.specs.List.{flat_map}
use Rattle.rp_query.specs.declared.query.QueryData.{QueryData}
use Rattle.rp_known.specs.Walk.{known}
use Rattle.rp_io.specs.Devices.{AppendsFront, Moves}
use Rattle.rp_numbering.specs.Numbered.{AreOrdered}
use Rattle.rp_numbering.specs.Partitions.{Part}
use Rattle.rp_walker.specs.declared.record.MatcherState.{MatcherState}
use Rattle.rp_whole.specs.declared.closed.Part.{Part as Closed}
use Rattle.rp_whole.specs.declared.stopped.Stopped.{Stopped}
use Rattle.rp_whole.specs.declared.halted.Halted.{Halted}
use Rattle.rp_whole.specs.Answers.{Form, IsShown, Shown, bytes_from, closed, shown_bytes, shown_halted, shown_stops}

-- Where the bytes written are known, they grow by those gathered and those that are shown of these partitions, of which each is put
-- in order; what is told grows by what they tell, and these are given up.
abbrev pub WritesParts : Option ℕ → Form → QueryData → List Part → Option (List ℕ) → List ℕ → Option (List ℕ) → List Stopped → List Stopped → List Halted → Type 0
WritesParts limit form q parts old gathered new stopped stopped' halted =
    (shown : List Shown) × AreOrdered q.order.items parts (map (λ s. s.part) shown) × All (IsShown limit q) shown
    × Appends old new (gathered ++ flat_map (shown_bytes form q) shown)
    × (stopped' ≡ stopped ++ flat_map (shown_stops form q) shown) × (halted ≡ flat_map shown_halted shown)

-- Where the bytes written are known, they grow by a front of these.
abbrev pub WritesPartsFront : Option ℕ → Form → QueryData → List Part → Option (List ℕ) → List ℕ → Option (List ℕ) → Type 0
WritesPartsFront limit form q parts old gathered new =
    (shown : List Shown) × AreOrdered q.order.items parts (map (λ s. s.part) shown) × All (IsShown limit q) shown
    × AppendsFront old new (gathered ++ flat_map (shown_bytes form q) shown)

-- The same of what gathers in a form: `bytes` says what it has gathered, and `stopped` what it tells.
abbrev pub PartsAreWritten : {G : Type 0} → Form → (G → List ℕ) → (G → List Stopped) → Option ℕ → QueryData → List Part
    → Option (List ℕ) → G → Option (List ℕ) → G → List Halted → Type 0
PartsAreWritten form bytes stopped limit q parts w gathered w' gathered' halted =
    WritesParts limit form q parts w (bytes gathered) w' (stopped gathered) (stopped gathered') halted

-- so many first items are shown of a partition's answer, which is given up at a row or isn't
abbrev pub shown_of : Part → ℕ → Option ℕ → Shown
shown_of part count given_up = record { part = part; count = count; given_up = given_up }

-- What is shown of the answer is behind what was gathered, of which a front was written and the rest is still gathered. What is told
-- is added likewise.
pub record WritesPart (limit : Option ℕ) (form : Form) (q : QueryData) (part : Part) (given_up : Option ℕ) (before : Option (List ℕ))
    (gathered : List ℕ) (after : Option (List ℕ)) (rest : List ℕ) (stopped stopped' : List Stopped) : Type 0 where
  pub count : ℕ
  pub is : IsShown limit q (shown_of part count given_up)
  pub moves : Moves before (gathered ++ shown_bytes form q (shown_of part count given_up)) after rest
  pub told : stopped' ≡ stopped ++ shown_stops form q (shown_of part count given_up)

-- The same of what gathers in a form.
abbrev pub PartIsWritten : {G : Type 0} → Form → (G → List ℕ) → (G → List Stopped) → Option ℕ → QueryData → Part → Option ℕ
    → Option (List ℕ) → G → Option (List ℕ) → G → Type 0
PartIsWritten form bytes stopped limit q part given_up w gathered w' gathered' =
    WritesPart limit form q part given_up w (bytes gathered) w' (bytes gathered') (stopped gathered) (stopped gathered')

-- the key of a partition, and its rows
abbrev pub part_of : Closed → Part
part_of part = (part.key, part.rows.items)

-- the bytes of the items that are still to be given
abbrev pub bytes_to_come : Form → QueryData → Part → MatcherState → List ℕ
bytes_to_come form q part r = bytes_from form q part.0 (r.given + 1) (drop r.given (known q (closed part.1)))

-- what those items tell
abbrev pub stops_to_come : Form → QueryData → Part → MatcherState → List Stopped
stops_to_come form q part r = flat_map (form.stops part.0) (drop r.given (known q (closed part.1)))

-- No item is still to be given.
abbrev pub NoneToCome : Form → QueryData → Part → MatcherState → Type 0
NoneToCome form q part r = (bytes_to_come form q part r ≡ []) × (stops_to_come form q part r ≡ [])

-- The bytes to come of one record begin with some, and then those of another come: the former are behind what was gathered,
-- of which a front was written and the rest is still gathered. What is told is added likewise.
pub record WritesOn (form : Form) (q : QueryData) (part : Part) (old new : MatcherState) (before : Option (List ℕ))
    (gathered : List ℕ) (after : Option (List ℕ)) (rest : List ℕ) (stopped stopped' : List Stopped) : Type 0 where
  pub bytes : List ℕ
  pub come : bytes_to_come form q part old ≡ bytes ++ bytes_to_come form q part new
  pub moves : Moves before (gathered ++ bytes) after rest
  pub stops : List Stopped
  pub tell : stops_to_come form q part old ≡ stops ++ stops_to_come form q part new
  pub told : stopped' ≡ stopped ++ stops

-- The same of what gathers in a form.
abbrev pub NextIsWritten : {G : Type 0} → Form → (G → List ℕ) → (G → List Stopped) → QueryData → Part → (old new : MatcherState)
    → Option (List ℕ) → G → Option (List ℕ) → G → Type 0
NextIsWritten form bytes stopped q part old new w gathered w' gathered' =
    WritesOn form q part old new w (bytes gathered) w' (bytes gathered') (stopped gathered) (stopped gathered')
