-- Bytes restart to one list of records, and a query that is the same restarts from them too.
use Rattle.std.proofs.Common.{◌≡◌, ◌∙◌, ℕ, ◌+◌, Bool, true, false, cond, ◌&&◌, ◌||◌, not, List, [], ◌∷◌, Option, Some, None, Result, Ok, Err, refl, sym, ap, subst}
use Rattle.std.specs.Prelude.{is_some, nat_le, nat_lt}
use Rattle.rp_value.specs.declared.value.Value.{Value}
use Rattle.rp_value.specs.Rows.{row_fault}
use Rattle.rp_value.specs.Tables.{kinds_of}
use Rattle.rp_query.specs.declared.query.QueryData.{QueryData}
use Rattle.rp_query.specs.Keys.{key_of, same_key}
use Rattle.rp_same_query.specs.SameQuery.{IsSameQuery}
use Rattle.rp_feed.specs.Fed.{Fed, front_of}
use Rattle.rp_checkpoint.specs.Checkpoints.{restored}
use Rattle.rp_checkpoint.specs.declared.node_data.CheckpointFault.{CheckpointFault}
use Rattle.rp_checkpoint.specs.declared.node_data.CheckpointFault.TheVariants as bytes_fault
use Rattle.rp_checkpoint.specs.declared.node_data.HeldRow.{HeldRow}
use Rattle.rp_checkpoint.specs.declared.node_data.NodeData.{NodeData}
use Rattle.rp_checkpoint.specs.declared.node_data.PartitionData.{PartitionData}
use Rattle.rp_schedules.specs.Records.{Held}
use Rattle.rp_schedules.specs.SameKnown.{KeyIsSame, KindsAreSame, FirstReadIsSame}
use Rattle.rp_checkpoint.specs.declared.restart_fault.RestartFault.{RestartFault}
use Rattle.rp_checkpoint.specs.declared.restart_fault.RestartFault.TheVariants as fault
use Rattle.rp_node.specs.ClauseTexts.{without_blank_end}
use Rattle.rp_node.specs.NodeSeen.{Entries, entry_at, with_entry}
use Rattle.rp_node.specs.Resuming.{held_in, feed_in, has_kinds, has_place, fits_table, fits_all, restorable_over}
use Rattle.rp_node.specs.Restarting.{is_next, records_from, IsOfQuery, RestartsTo, IsRefused}
use Rattle.rp_node.specs.Events.{RestartsAreOne, RestartsAreSame, RestartsAreTaken}

ok_is : {E : Type 0} (x y : NodeData) → ◌≡◌ {A = Result NodeData E} (Ok x) (Ok y) → x ≡ y
ok_is x y h = cc

no_fault : (x : NodeData) (why : CheckpointFault) → ◌≡◌ {A = Result NodeData CheckpointFault} (Ok x) (Err why) → ⊥
no_fault x why h = cc

no_records : (x : Entries Held) → ◌≡◌ {A = Option (Entries Held)} (Some x) None → ⊥
no_records x h = cc

some_is : (x y : Entries Held) → Some x ≡ Some y → x ≡ y
some_is x y h = cc

-- the records are in the bytes, and a query says only whether a node may go on from them
records_are : (q r : QueryData) (before : Entries Held) (ps : List PartitionData) (x y : Entries Held)
    → records_from q before ps ≡ Some x → records_from r before ps ≡ Some y → y ≡ x
records_are q r before [] x y e f = sym (some_is before y f) ∙ some_is before x e
records_are q r before (p ∷ ps) x y e f =
    go (is_next q before p) (is_next r before p) (records_are q r (with_entry p.key (held_in p) before) ps x y) e f
  where
    go : {first second : Option (Entries Held)} (b c : Bool) → (first ≡ Some x → second ≡ Some y → y ≡ x)
        → cond b first None ≡ Some x → cond c second None ≡ Some y → y ≡ x
    go true true later e f = later e f
    go true false later e f = absurd cc
    go false c later e f = absurd cc

pub restarts_are_one : RestartsAreOne
restarts_are_one q r bytes saved restarted s t =
    let kept : s.kept ≡ t.kept = ok_is s.kept t.kept (sym s.is ∙ t.is) in
    records_are q r [] s.kept.partitions saved restarted s.records (ap (λ (k : NodeData). records_from r [] k.partitions) kept ∙ t.records)

module _ (key_same : KeyIsSame) (kinds_same : KindsAreSame) (read_same : FirstReadIsSame) (q r : QueryData) (same : IsSameQuery q r) where
  row_fits : (key : List Value) (row : HeldRow) → fits_table r key row ≡ fits_table q key row
  row_fits key row =
      ap (λ table. not (is_some (row_fault (kinds_of table) row.cells)) && same_key (key_of r row.cells) key) (sym same.table)
      ∙ ap (λ found. not (is_some (row_fault (kinds_of q.table) row.cells)) && same_key found key) (key_same q r row.cells same)

  rows_fit : (key : List Value) (rows : List HeldRow) → fits_all r key rows ≡ fits_all q key rows
  rows_fit key [] = refl
  rows_fit key (row ∷ rows) = ap (λ b. b && fits_all r key rows) (row_fits key row) ∙ ap (λ b. fits_table q key row && b) (rows_fit key rows)

  place_same : (front : ℕ) (p : PartitionData) → has_place r front p ≡ has_place q front p
  place_same front p =
      ap (λ first. nat_le p.here p.given && (nat_le p.covered front && (p.over || (nat_le 1 p.at
      && (nat_le p.at (front + 1) && (nat_lt p.matches p.at && nat_le p.first first)))))) (read_same q r p.at same)

  over_same : (p : PartitionData) (fed : Option Fed) → restorable_over r p fed ≡ restorable_over q p fed
  over_same p None = refl
  over_same p (Some fed) =
      ap (λ kinds. not (is_some (row_fault kinds p.key)) && (has_place r (front_of fed) p && fits_all r p.key p.rows)) (kinds_same q r same)
      ∙ ap (λ b. has_kinds q p && (b && fits_all r p.key p.rows)) (place_same (front_of fed) p)
      ∙ ap (λ b. has_kinds q p && (has_place q (front_of fed) p && b)) (rows_fit p.key p.rows)

  next_same : (before : Entries Held) (p : PartitionData) → is_next r before p ≡ is_next q before p
  next_same before p = ap (λ b. b && not (is_some (entry_at before p.key))) (over_same p (feed_in p))

  records_same : (before : Entries Held) (ps : List PartitionData) → records_from r before ps ≡ records_from q before ps
  records_same before [] = refl
  records_same before (p ∷ ps) =
      ap (λ b. cond b (records_from r (with_entry p.key (held_in p) before) ps) None) (next_same before p)
      ∙ ap (λ records. cond (is_next q before p) records None) (records_same (with_entry p.key (held_in p) before) ps)

module _ (keys : KeyIsSame) (kinds : KindsAreSame) (reads : FirstReadIsSame) (q r : QueryData) (bytes : List ℕ) (saved : Entries Held) (same : IsSameQuery q r) (s : RestartsTo q bytes saved) where
  of_too : IsOfQuery r s.kept
  of_too = record { clause = s.of.clause ∙ ap without_blank_end same.text; table = s.of.table ∙ same.table }

  records_too : records_from r [] s.kept.partitions ≡ Some saved
  records_too = records_same keys kinds reads q r same [] s.kept.partitions ∙ s.records

  pub restarts_too : RestartsTo r bytes saved
  restarts_too = record { kept = s.kept; is = s.is; of = of_too; records = records_too }

  not_bytes : (why : CheckpointFault) → restored bytes ≡ Err why → ⊥
  not_bytes why e = no_fault s.kept why (sym s.is ∙ e)

  pub is_taken : (why : RestartFault) → IsRefused r bytes why → why ≡ fault.OutOfMemory
  is_taken fault.Digest e = absurd (not_bytes bytes_fault.Digest e)
  is_taken fault.NotJson e = absurd (not_bytes bytes_fault.NotJson e)
  is_taken fault.Version e = absurd (not_bytes bytes_fault.Version e)
  is_taken fault.BadField e = absurd (not_bytes bytes_fault.BadField e)
  is_taken fault.ClauseDiffers e = absurd (e.other (subst (IsOfQuery r) (ok_is s.kept e.kept (sym s.is ∙ e.is)) of_too))
  is_taken fault.BadState e =
      let kept : s.kept ≡ e.kept = ok_is s.kept e.kept (sym s.is ∙ e.is) in
      absurd (no_records saved (sym records_too ∙ ap (λ (k : NodeData). records_from r [] k.partitions) kept ∙ e.bad))
  is_taken fault.OutOfMemory e = refl

pub restarts_are_same : KeyIsSame → KindsAreSame → FirstReadIsSame → RestartsAreSame
restarts_are_same keys kinds reads q r bytes saved same s = restarts_too keys kinds reads q r bytes saved same s

pub restarts_are_taken : KeyIsSame → KindsAreSame → FirstReadIsSame → RestartsAreTaken
restarts_are_taken keys kinds reads q r bytes saved why same s refused = is_taken keys kinds reads q r bytes saved same s why refused
