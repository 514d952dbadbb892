-- A partition that goes on from what was kept of it.
use Rattle.std.proofs.Common.{◌≡◌, ℕ, ◌+◌, ◌<◌, ◌≤◌, Bool, true, false, cond, not, ◌&&◌, ◌||◌, List, [], ◌∷◌, map, Option, Some, None, refl, sym, ap, ◌∙◌, subst, arith}
use Rattle.std.specs.Prelude.{nat_lt, nat_le, is_some}
use Rattle.std.specs.Cmp.Lexicographic.{pointwise}
use Rattle.std.proofs.lemmas.Bool.Decides.{nat_tests}
use Rattle.rp_value.specs.declared.value.Value.{Value}
use Rattle.rp_value.specs.contracts.value.ValuePartialEq.TheImpl.{eq-value}
use Rattle.rp_value.specs.declared.row.RowFault.{RowFault}
use Rattle.rp_value.specs.Rows.{row_fault}
use Rattle.rp_value.specs.Tables.{kinds_of}
use Rattle.rp_query.specs.declared.query.QueryData.{QueryData}
use Rattle.rp_query.specs.Keys.{key_kinds, key_of, same_key}
use Rattle.rp_feed.specs.Limits.{greatest_number}
use Rattle.rp_feed.specs.Fed.{Fed, AscendFrom, IsFeed, front_of}
use Rattle.rp_feed.specs.Again.{AgainIsTheSame, fed_again}
use Rattle.rp_known.specs.Known.{count}
use Rattle.rp_known.specs.Plans.{first_read}
use Rattle.rp_walker.specs.Walking.{CanGoOn}
use Rattle.rp_checkpoint.specs.HeldRows.{is_above, ascend_above, ascend}
use Rattle.rp_checkpoint.specs.declared.node_data.HeldRow.{HeldRow}
use Rattle.rp_checkpoint.specs.declared.node_data.PartitionData.{PartitionData}
use Rattle.rp_walker.specs.Records.{StandsInRows}
use Rattle.rp_partition.specs.PartRows.{known_by, known_count}
use Rattle.rp_schedules.specs.Records.{Held}
use Rattle.rp_partition.specs.declared.partition.Partition.{Partition}
use Rattle.rp_partition.specs.Joined.{CanResume, Joined, held_of}
use Rattle.rp_node.specs.Keyed.{IsPartition, RowsHaveKey}
use Rattle.rp_node.specs.Resuming.{numbered, state_in, fed_in, held_in, feed_in, has_kinds, fits_table, fits_all, has_place, restorable_over, is_restorable}
use Rattle.rp_node.proofs.Nodes.{SameKeys}

both : (a b : Bool) → a && b ≡ true → (a ≡ true) × (b ≡ true)
both true b h = (refl, h)
both false b h = absurd (cc)

-- ---- the feed

abbrev least : Option ℕ → ℕ
least None = 0
least (Some m) = m + 1

-- rows that ascend by their numbers, the first from this one on
ascend_from : (o : Option ℕ) (rs : List HeldRow) → ascend_above o rs ≡ true → AscendFrom (least o) (map numbered rs)
ascend_from o [] a = tt
ascend_from o (r ∷ rs) a =
    let up = both (is_above o r.number) (ascend_above (Some r.number) rs) a in
    (low o r.number up.0, ascend_from (Some r.number) rs up.1)
  where
    low : (p : Option ℕ) (n : ℕ) → is_above p n ≡ true → least p ≤ n
    low None n h = omega arith
    low (Some m) n h = grind (arith, nat_tests)

-- the feed holds the rows and the close that were kept
fed_same : AgainIsTheSame → (p : PartitionData) (fed : Fed) → ascend p.rows ≡ true → feed_in p ≡ Some fed → fed ≡ fed_in p
fed_same same p fed up e = go (nat_lt p.first 1 || nat_lt (greatest_number + 1) p.first) e
  where
    go : (b : Bool) → cond b None (fed_again (pointwise eq-value.it) p.first (map numbered p.rows) p.close) ≡ Some fed → fed ≡ fed_in p
    go true h = absurd (cc)
    go false h = same (pointwise eq-value.it) p.first (map numbered p.rows) p.close fed (ascend_from None p.rows up) h

-- ---- the key

no_fault : (o : Option RowFault) → not (is_some o) ≡ true → o ≡ None
no_fault None h = refl
no_fault (Some f) h = absurd (cc)

pub rows_have_key : SameKeys → (q : QueryData) (key : List Value) (rs : List HeldRow) → fits_all q key rs ≡ true → RowsHaveKey q key (map numbered rs)
rows_have_key exact q key [] h = tt
rows_have_key exact q key (r ∷ rs) h =
    let a = both (fits_table q key r) (fits_all q key rs) h in
    let b = both (not (is_some (row_fault (kinds_of q.table) r.cells))) (same_key (key_of q r.cells) key) a.0 in
    (no_fault (row_fault (kinds_of q.table) r.cells) b.0, (exact (key_of q r.cells) key).0 b.1, rows_have_key exact q key rs a.1)

-- ---- the walk goes on

can_go_on : (q : QueryData) (front : ℕ) (p : PartitionData) → has_place q front p ≡ true → CanGoOn q (state_in p)
can_go_on q front p h =
    let a = both (nat_le p.here p.given) (nat_le p.covered front && (p.over || (nat_le 1 p.at && (nat_le p.at (front + 1) && (nat_lt p.matches p.at && nat_le p.first (first_read q p.at)))))) h in
    let b = both (nat_le p.covered front) (p.over || (nat_le 1 p.at && (nat_le p.at (front + 1) && (nat_lt p.matches p.at && nat_le p.first (first_read q p.at))))) a.1 in
    let here : p.here ≤ p.given = (let t = a.0 in grind (arith, nat_tests)) in
    record { here = here; going = λ going. walks (ap (λ o. o || (nat_le 1 p.at && (nat_le p.at (front + 1) && (nat_lt p.matches p.at && nat_le p.first (first_read q p.at))))) (sym going) ∙ b.1) }
  where
    walks : (nat_le 1 p.at && (nat_le p.at (front + 1) && (nat_lt p.matches p.at && nat_le p.first (first_read q p.at)))) ≡ true → (1 ≤ p.at) × (p.matches < p.at) × (p.first ≤ first_read q p.at)
    walks h =
        let a = both (nat_le 1 p.at) (nat_le p.at (front + 1) && (nat_lt p.matches p.at && nat_le p.first (first_read q p.at))) h in
        let b = both (nat_le p.at (front + 1)) (nat_lt p.matches p.at && nat_le p.first (first_read q p.at)) a.1 in
        let c = both (nat_lt p.matches p.at) (nat_le p.first (first_read q p.at)) b.1 in
        let x : 1 ≤ p.at = (let t = a.0 in grind (arith, nat_tests)) in
        let y : p.matches < p.at = (let t = c.0 in grind (arith, nat_tests)) in
        let z : p.first ≤ first_read q p.at = (let t = c.1 in grind (arith, nat_tests)) in
        (x, y, z)

-- what is covered is known, and the walk stands in the rows
stands_in : (q : QueryData) (fed : Fed) (p : PartitionData) → 1 ≤ fed.first → has_place q (front_of fed) p ≡ true → StandsInRows (known_by fed) (state_in p)
stands_in q fed p one h =
    let n = known_count fed one in
    let a = both (nat_le p.here p.given) (nat_le p.covered (front_of fed) && (p.over || (nat_le 1 p.at && (nat_le p.at (front_of fed + 1) && (nat_lt p.matches p.at && nat_le p.first (first_read q p.at)))))) h in
    let b = both (nat_le p.covered (front_of fed)) (p.over || (nat_le 1 p.at && (nat_le p.at (front_of fed + 1) && (nat_lt p.matches p.at && nat_le p.first (first_read q p.at))))) a.1 in
    let c : p.covered ≤ front_of fed = (let t = b.0 in grind (arith, nat_tests)) in
    (omega (arith, c, n), λ going. walks n (ap (λ o. o || (nat_le 1 p.at && (nat_le p.at (front_of fed + 1) && (nat_lt p.matches p.at && nat_le p.first (first_read q p.at))))) (sym going) ∙ b.1))
  where
    walks : count (known_by fed) ≡ front_of fed → (nat_le 1 p.at && (nat_le p.at (front_of fed + 1) && (nat_lt p.matches p.at && nat_le p.first (first_read q p.at)))) ≡ true → p.at ≤ count (known_by fed) + 1
    walks n h =
        let a = both (nat_le 1 p.at) (nat_le p.at (front_of fed + 1) && (nat_lt p.matches p.at && nat_le p.first (first_read q p.at))) h in
        let b = both (nat_le p.at (front_of fed + 1)) (nat_lt p.matches p.at && nat_le p.first (first_read q p.at)) a.1 in
        let x : p.at ≤ front_of fed + 1 = (let t = b.0 in grind (arith, nat_tests)) in
        omega (arith, x, n)

pub resumed : AgainIsTheSame → SameKeys → (q : QueryData) (p : PartitionData) (fed : Fed) (part : Partition) → feed_in p ≡ Some fed → ascend p.rows ≡ true → has_kinds q p ≡ true → has_place q (front_of fed) p ≡ true → fits_all q p.key p.rows ≡ true
    → IsFeed fed → held_of part ≡ record { feed = fed; state = state_in p } → (CanResume q (held_of part) → Joined q part)
    → (is_restorable q p ≡ true) × (held_of part ≡ held_in p) × IsPartition q p.key part
resumed again exact q p fed part is up kinds place fits feed held joined =
    let same = fed_same again p fed up is in (
      ap (restorable_over q p) is ∙ rw (kinds, place, fits) refl,
      held ∙ (λ i. record { feed = same i; state = state_in p }),
      record {
        joined = joined (subst (λ (h : Held). CanResume q h) (sym held) (record {
          first = ap (λ (f : Fed). f.first) (sym same);
          can = can_go_on q (front_of fed) p place;
          in_rows = stands_in q fed p feed.ordered.least place;
        }));
        of_key = record {
          kinds = no_fault (row_fault (key_kinds q) p.key) kinds;
          have = subst (λ (f : Fed). RowsHaveKey q p.key f.rows) (sym (ap (λ (h : Held). h.feed) held ∙ same)) (rows_have_key exact q p.key p.rows fits);
        };
      },
    )
