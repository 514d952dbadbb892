-- What is saved passes all checks of a restart, which then has the same records.
use Rattle.std.proofs.Common.{◌≡◌, ℕ, ◌+◌, ◌≤◌, Bool, true, false, cond, not, ◌&&◌, ◌||◌, List, [], ◌∷◌, ◌++◌, append_assoc, map, Option, Some, None, Result, Ok, Err, refl, sym, ap, ◌∙◌, subst, arith}
use Rattle.std.specs.Prelude.{nat_lt, nat_le, is_some, IfOk, ⊤}
use Rattle.std.specs.List.{AllByRecursion, IsDistinct}
use Rattle.std.specs.Map.{keys_of}
use Rattle.std.specs.Cmp.Lexicographic.{pointwise}
use Rattle.std.specs.declared.vec.Vec.{Vec}
use Rattle.std.specs.declared.alloc.Global.{Global}
use Rattle.std.specs.declared.alloc.AllocError.{AllocError}
use Rattle.std.proofs.lemmas.Bool.Decides.{nat_tests}
use Rattle.rp_value.specs.declared.value.Value.{Value}
use Rattle.rp_value.specs.declared.row.RowFault.{RowFault}
use Rattle.rp_value.specs.contracts.value.ValuePartialEq.TheImpl.{eq-value}
use Rattle.rp_value.specs.Rows.{row_fault}
use Rattle.rp_value.specs.Tables.{kinds_of}
use Rattle.rp_query.specs.declared.query.QueryData.{QueryData}
use Rattle.rp_query.specs.Keys.{key_kinds, key_of, same_key}
use Rattle.rp_feed.specs.Limits.{greatest_number}
use Rattle.rp_feed.specs.Fed.{Numbered, front_of}
use Rattle.rp_feed.specs.Again.{FeedsAreTakenAgain, fed_again}
use Rattle.rp_known.specs.Plans.{first_read}
use Rattle.rp_walker.specs.Walking.{record_of, CanGoOn, StandsCanGoOn}
use Rattle.rp_checkpoint.specs.declared.node_data.PartitionData.{PartitionData}
use Rattle.rp_checkpoint.specs.Checkpoints.{restored}
use Rattle.rp_schedules.specs.Records.{Held}
use Rattle.rp_partition.specs.declared.partition.Partition.{Partition}
use Rattle.rp_partition.specs.PartRows.{known_by, known_count}
use Rattle.rp_partition.specs.Joined.{held_of}
use Rattle.rp_node.specs.Keyed.{IsPartition, RowsHaveKey}
use Rattle.rp_node.specs.NodeSeen.{Entries, Map, AllJoined, entries_by, node_by, entry_at, with_entry}
use Rattle.rp_node.specs.Keeping.{held_row, kept_of, partition_kept}
use Rattle.rp_node.specs.Resuming.{numbered, held_in, feed_in, has_place, fits_all, restorable_over, is_restorable}
use Rattle.rp_node.specs.Restarting.{RestartsTo, is_next, records_from}
use Rattle.rp_node.proofs.Nodes.{SameKeys}

-- ---- what is kept of a partition is its record again

rows_back : (rows : List Numbered) → map numbered (map held_row rows) ≡ rows
rows_back [] = refl
rows_back (r ∷ rows) = ap (λ (rs : List Numbered). r ∷ rs) (rows_back rows)

record_back : (key : List Value) (h : Held) → h.state.first ≡ h.feed.first → held_in (partition_kept key h) ≡ h
record_back key h same =
    ap (λ (rows : List Numbered). record { feed = record { first = h.feed.first; rows = rows; closed = h.feed.closed }; state = record h.state { first = h.feed.first } }) (rows_back h.feed.rows)
    ∙ ap (λ n. record { feed = h.feed; state = record h.state { first = n } }) (sym same)

-- ---- a partition passes

no_fault_told : (o : Option RowFault) → o ≡ None → not (is_some o) ≡ true
no_fault_told None h = refl
no_fault_told (Some f) h = absurd (cc)

rows_pass : SameKeys → (q : QueryData) (key : List Value) (rows : List Numbered) → RowsHaveKey q key rows → fits_all q key (map held_row rows) ≡ true
rows_pass exact q key [] h = refl
rows_pass exact q key ((n, row) ∷ rows) h =
    rw (no_fault_told (row_fault (kinds_of q.table) row) h.0, (exact (key_of q row) key).1 h.1, rows_pass exact q key rows h.2) refl

module _ (again : FeedsAreTakenAgain) (can : StandsCanGoOn) (exact : SameKeys) (q : QueryData) where
  module _ (key : List Value) (p : Partition) (is : IsPartition q key p) where
    abbrev saved : PartitionData
    saved = partition_kept key (held_of p)

    feed_passes : feed_in saved ≡ Some p.feed
    feed_passes =
        let one = is.joined.feed.ordered.least in
        let limit = is.joined.feed.limit in
        let reached = is.joined.feed.reached in
        let low : nat_lt p.feed.first 1 ≡ false = grind (arith, nat_tests) in
        let high : nat_lt (greatest_number + 1) p.feed.first ≡ false = (let l : p.feed.first ≤ greatest_number + 1 = omega (arith, limit, reached) in grind (arith, nat_tests)) in
        let none : nat_lt p.feed.first 1 || nat_lt (greatest_number + 1) p.feed.first ≡ false = rw (low, high) refl in
        ap (λ b. cond b None (fed_again (pointwise eq-value.it) p.feed.first (map numbered (map held_row p.feed.rows)) p.feed.closed)) none
        ∙ ap (λ (rows : List Numbered). fed_again (pointwise eq-value.it) p.feed.first rows p.feed.closed) (rows_back p.feed.rows)
        ∙ again (pointwise eq-value.it) p.feed is.joined.feed

    going : CanGoOn q (record_of p.walker)
    going = can q (known_by p.feed) p.walker is.joined.stands

    walk_passes : (b : Bool) → (record_of p.walker).over ≡ b
        → b || (nat_le 1 (record_of p.walker).at && (nat_le (record_of p.walker).at (front_of p.feed + 1) && (nat_lt (record_of p.walker).matches (record_of p.walker).at && nat_le p.feed.first (first_read q (record_of p.walker).at)))) ≡ true
    walk_passes true e = refl
    walk_passes false e =
        let g = going.going e in
        let one = g.0 in
        let fewer = g.1 in
        let read = g.2 in
        let first = is.joined.first in
        let at = is.joined.in_rows.1 e in
        let n = known_count p.feed is.joined.feed.ordered.least in
        let a : nat_le 1 (record_of p.walker).at ≡ true = grind (arith, nat_tests) in
        let b : nat_le (record_of p.walker).at (front_of p.feed + 1) ≡ true = (let l : (record_of p.walker).at ≤ front_of p.feed + 1 = omega (arith, at, n) in grind (arith, nat_tests)) in
        let c : nat_lt (record_of p.walker).matches (record_of p.walker).at ≡ true = grind (arith, nat_tests) in
        let d : nat_le p.feed.first (first_read q (record_of p.walker).at) ≡ true = (let l : p.feed.first ≤ first_read q (record_of p.walker).at = subst (λ f. f ≤ first_read q (record_of p.walker).at) first read in grind (arith, nat_tests)) in
        rw (a, b, c, d) refl

    place_passes : has_place q (front_of p.feed) saved ≡ true
    place_passes =
        let here = going.here in
        let covered = is.joined.in_rows.0 in
        let n = known_count p.feed is.joined.feed.ordered.least in
        let a : nat_le (record_of p.walker).here (record_of p.walker).given ≡ true = grind (arith, nat_tests) in
        let b : nat_le (record_of p.walker).covered (front_of p.feed) ≡ true = (let l : (record_of p.walker).covered ≤ front_of p.feed = omega (arith, covered, n) in grind (arith, nat_tests)) in
        rw (a, b, walk_passes (record_of p.walker).over refl) refl

    pub passes : is_restorable q saved ≡ true
    passes =
        ap (restorable_over q saved) feed_passes
        ∙ rw (no_fault_told (row_fault (key_kinds q) key) is.of_key.kinds, place_passes, rows_pass exact q key p.feed.rows is.of_key.have) refl

  -- ---- all partitions pass, one after another

  put_last : (key : List Value) (h : Held) (before : Entries Held) → entry_at before key ≡ None → with_entry key h before ≡ before ++ (key, h) ∷ []
  put_last key h [] none = refl
  put_last key h (e ∷ es) none = go (same_key key e.0) none (put_last key h es)
    where
      go : (b : Bool) → cond b (Some e.1) (entry_at es key) ≡ None → (entry_at es key ≡ None → with_entry key h es ≡ es ++ (key, h) ∷ []) → cond b ((e.0, h) ∷ es) (e ∷ with_entry key h es) ≡ e ∷ (es ++ (key, h) ∷ [])
      go true n later = absurd (cc)
      go false n later = ap (λ (zs : Entries Held). e ∷ zs) (later n)

  other_way : (a b : List Value) → same_key a b ≡ false → same_key b a ≡ false
  other_way a b h = go (same_key b a) refl
    where
      go : (c : Bool) → same_key b a ≡ c → same_key b a ≡ false
      go false e = e
      go true e = let same : same_key a b ≡ true = (exact a b).1 (sym ((exact b a).0 e)) in absurd (cc)

  still_none : (key other : List Value) (h : Held) (before : Entries Held) → entry_at before other ≡ None → same_key other key ≡ false → entry_at (before ++ (key, h) ∷ []) other ≡ None
  still_none key other h [] none apart = ap (λ b. cond b (Some h) None) apart
  still_none key other h (e ∷ es) none apart = go (same_key other e.0) none (still_none key other h es)
    where
      go : (b : Bool) → cond b (Some e.1) (entry_at es other) ≡ None → (entry_at es other ≡ None → same_key other key ≡ false → entry_at (es ++ (key, h) ∷ []) other ≡ None)
          → cond b (Some e.1) (entry_at (es ++ (key, h) ∷ []) other) ≡ None
      go true n later = absurd (cc)
      go false n later = later n apart

  abbrev AreNew : Entries Held → List (Vec Value Global) → Type 0
  AreNew before [] = ⊤
  AreNew before (k ∷ ks) = (entry_at before k.items ≡ None) × AreNew before ks

  still_new : (key : List Value) (h : Held) (before : Entries Held) (ks : List (Vec Value Global)) → AreNew before ks → AllByRecursion (λ k. same_key key k.items ≡ false) ks → AreNew (before ++ (key, h) ∷ []) ks
  still_new key h before [] new apart = tt
  still_new key h before (k ∷ ks) new apart = (still_none key k.items h before new.0 (other_way key k.items apart.0), still_new key h before ks new.1 apart.1)

  pub all_pass : (es : Map) (before : Entries Held) → AllJoined q es → IsDistinct (λ j k. same_key j.items k.items) (keys_of es) → AreNew before (keys_of es)
      → records_from q before (map (λ e. partition_kept e.0 e.1) (entries_by held_of es)) ≡ Some (before ++ entries_by held_of es)
  unfolding IsDistinct
  all_pass [] before all apart new = ap Some (sym (nil_right before))
    where
      nil_right : (xs : Entries Held) → xs ++ [] ≡ xs
      nil_right [] = refl
      nil_right (x ∷ xs) = ap (λ z. x ∷ z) (nil_right xs)
  all_pass (e ∷ es) before all apart new =
      let next : is_next q before (partition_kept e.0.items (held_of e.1)) ≡ true = rw (passes e.0.items e.1 all.0, new.0) refl in
      let put : with_entry e.0.items (held_in (partition_kept e.0.items (held_of e.1))) before ≡ before ++ (e.0.items, held_of e.1) ∷ [] =
      ap (λ h. with_entry e.0.items h before) (record_back e.0.items (held_of e.1) all.0.joined.first) ∙ put_last e.0.items (held_of e.1) before new.0 in
      ap (λ b. cond b (records_from q (with_entry e.0.items (held_in (partition_kept e.0.items (held_of e.1))) before) (map (λ e. partition_kept e.0 e.1) (entries_by held_of es))) None) next
      ∙ ap (λ (b : Entries Held). records_from q b (map (λ e. partition_kept e.0 e.1) (entries_by held_of es))) put
      ∙ all_pass es (before ++ (e.0.items, held_of e.1) ∷ []) all.1 apart.1 (still_new e.0.items (held_of e.1) before (keys_of es) new.1 apart.0)
      ∙ ap Some (append_assoc before ((e.0.items, held_of e.1) ∷ []) (entries_by held_of es))

  none_before : (ks : List (Vec Value Global)) → AreNew [] ks
  none_before [] = tt
  none_before (k ∷ ks) = (refl, none_before ks)

  pub all_saved : (es : Map) → AllJoined q es → IsDistinct (λ j k. same_key j.items k.items) (keys_of es) → records_from q [] (map (λ e. partition_kept e.0 e.1) (entries_by held_of es)) ≡ Some (entries_by held_of es)
  all_saved es all apart = all_pass es [] all apart (none_before (keys_of es))

  -- the bytes restart to the records
  pub restarts : (es : Map) → AllJoined q es → IsDistinct (λ j k. same_key j.items k.items) (keys_of es) → (r : Result (Vec ℕ Global) AllocError) → IfOk r (λ bytes. restored bytes.items ≡ Ok (kept_of (node_by q es)))
      → IfOk r (λ bytes. RestartsTo q bytes.items (entries_by held_of es))
  restarts es all apart (Ok bytes) h = record { kept = kept_of (node_by q es); is = h; of = record { clause = refl; table = refl }; records = all_saved es all apart }
  restarts es all apart (Err e) h = tt
