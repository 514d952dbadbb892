-- What contracts see of a node.
use Rattle.std.specs.Prelude.{◌≤◌, ℕ, List, [], ◌∷◌, Option, None, Some, if◌then◌else◌, ⊤, refl}
use Rattle.std.specs.Coded.{Coded, code_by, coded×, coded_list, coded_ℕ, coded_option}
use Rattle.std.specs.declared.vec.Vec.{Vec}
use Rattle.std.specs.declared.alloc.Global.{Global}
use Rattle.rp_value.specs.declared.value.Value.{Value}
use Rattle.rp_value.specs.contracts.value.Value.{the_row as value_row}
use Rattle.rp_words.specs.PatternForm.{form_of}
use Rattle.rp_words.specs.Turns.{all_turns}
use Rattle.rp_query.specs.declared.query.QueryData.{QueryData}
use Rattle.rp_query.specs.contracts.query.QueryData.{the_row as query_row}
use Rattle.rp_query.specs.Keys.{same_key}
use Rattle.rp_feed.specs.Fed.{Fed, IsFeed, front_of}
use Rattle.rp_walker.specs.Bound.{SearchSeen}
use Rattle.rp_walker.specs.declared.record.MatcherState.{MatcherState}
use Rattle.rp_walker.specs.contracts.record.MatcherState.{the_row as state_row}
use Rattle.rp_schedules.specs.Records.{Held}
use Rattle.rp_partition.specs.declared.partition.Partition.{Partition}
use Rattle.rp_partition.specs.PartRows.{end_of}
use Rattle.rp_partition.specs.Joined.{Work, held_of, work_of}
use Rattle.rp_node.specs.Keyed.{IsPartition}

-- something of each key, in order of first arrival
abbrev pub Entries : Type 0 → Type 0
Entries V = List (List Value × V)

-- what a key has
abbrev pub entry_at : {V : Type 0} → Entries V → List Value → Option V
entry_at [] key = None
entry_at (e ∷ es) key = if same_key key e.0 then Some e.1 else entry_at es key

-- a key that is there keeps its place, a new one goes last
abbrev pub with_entry : {V : Type 0} → List Value → V → Entries V → Entries V
with_entry key v [] = (key, v) ∷ []
with_entry key v (e ∷ es) = if same_key key e.0 then (e.0, v) ∷ es else e ∷ with_entry key v es

-- What contracts see of a node: its query, the record of each key of which a packet was accepted, and beside
-- it, key by key, the turns that its polls have left at most, the rows that its searches have entered and what is seen
-- of the search.
pub record NodeSeen : Type 0 where
  pub query : QueryData
  pub records : Entries Held
  pub work : Entries Work

-- ---- how it is stored

abbrev fed_code : Coded Fed
fed_code =
    code_by (ℕ × (List (ℕ × List Value) × Option ℕ))
    (coded× coded_ℕ (coded× (coded_list (coded× coded_ℕ (coded_list value_row.coded))) (coded_option coded_ℕ)))
    (λ f. (f.first, (f.rows, f.closed))) (λ t. record { first = t.0; rows = t.1.0; closed = t.1.1 }) (λ _. refl)

abbrev held_code : Coded Held
held_code =
    code_by (Fed × MatcherState) (coded× fed_code state_row.coded) (λ h. (h.feed, h.state)) (λ t. record {
      feed =
          t.0;
      state = t.1;
    }) (λ _. refl)

abbrev search_code : Coded SearchSeen
search_code =
    code_by (ℕ × (ℕ × ℕ)) (coded× coded_ℕ (coded× coded_ℕ coded_ℕ)) (λ s. (s.first, (s.row, s.left))) (λ t. record {
      first =
          t.0;
      row = t.1.0;
      left = t.1.1;
    }) (λ _. refl)

abbrev work_code : Coded Work
work_code =
    code_by (ℕ × (ℕ × Option SearchSeen))
    (coded× coded_ℕ (coded× coded_ℕ (coded_option search_code)))
    (λ w. (w.left, (w.entered, w.search))) (λ t. record { left = t.0; entered = t.1.0; search = t.1.1 }) (λ _. refl)

abbrev entries_code : {V : Type 0} → Coded V → Coded (Entries V)
entries_code code = coded_list (coded× (coded_list value_row.coded) code)

abbrev pub node_code : Coded NodeSeen
node_code =
    code_by (QueryData × (Entries Held × Entries Work))
    (coded× query_row.coded (coded× (entries_code held_code) (entries_code work_code)))
    (λ n. (n.query, (n.records, n.work))) (λ t. record { query = t.0; records = t.1.0; work = t.1.1 }) (λ _. refl)

-- ---- what is seen of a node's map

abbrev pub MapOf : Type 0 → Type 0
MapOf P = List (Vec Value Global × P)

abbrev pub Map : Type 0
Map = MapOf Partition

abbrev pub entries_by : {P V : Type 0} → (P → V) → MapOf P → Entries V
entries_by of [] = []
entries_by of (e ∷ es) = (e.0.items, of e.1) ∷ entries_by of es

abbrev pub node_by : QueryData → Map → NodeSeen
node_by q es = record { query = q; records = entries_by held_of es; work = entries_by (work_of q) es }

abbrev pub AllJoined : QueryData → Map → Type 0
AllJoined q [] = ⊤
AllJoined q (e ∷ es) = IsPartition q e.0.items e.1 × AllJoined q es

-- ---- the bounds of each record

-- What is held of a partition is bounded: its feed is one, so no row below the first is held and no more beyond the front than
-- may be. And so many turns are left for it at most as all starts of its known rows take.
pub record IsBounded (q : QueryData) (r : Held) (w : Work) : Type 0 where
  pub feed : IsFeed r.feed
  pub left : w.left ≤ all_turns (front_of r.feed) (end_of r.feed) (form_of q.pattern)

abbrev pub AreBounded : QueryData → Entries Held → Entries Work → Type 0
AreBounded q [] [] = Unit {0}
AreBounded q [] (w ∷ ws) = ⊥
AreBounded q (r ∷ rs) [] = ⊥
AreBounded q (r ∷ rs) (w ∷ ws) = IsBounded q r.1 w.1 × AreBounded q rs ws

-- each record is bounded, whether it fits a whole partition or not
abbrev pub AllBounded : NodeSeen → Type 0
AllBounded n = AreBounded n.query n.records n.work

-- no work was done for a key that isn't there
abbrev pub or_no_work : Option Work → Work
or_no_work None = record { left = 0; entered = 0; search = None }
or_no_work (Some w) = w

abbrev pub work_at : NodeSeen → List Value → Work
work_at n key = or_no_work (entry_at n.work key)
