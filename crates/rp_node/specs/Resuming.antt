-- Which partitions a node may go on from, by what was kept of them.
use Rattle.std.specs.Prelude.{◌≡◌, ℕ, ◌+◌, ◌&&◌, ◌||◌, not, Bool, true, false, List, [], ◌∷◌, map, Option, None, Some, nat_lt, nat_le, is_some, if◌then◌else◌}
use Rattle.std.specs.Cmp.Lexicographic.{pointwise}
use Rattle.rp_value.specs.declared.value.Value.{Value}
use Rattle.rp_value.specs.contracts.value.ValuePartialEq.TheImpl.{eq-value}
use Rattle.rp_value.specs.Rows.{row_fault}
use Rattle.rp_value.specs.Tables.{kinds_of}
use Rattle.rp_query.specs.declared.query.QueryData.{QueryData}
use Rattle.rp_query.specs.Keys.{key_kinds, key_of, same_key}
use Rattle.rp_feed.specs.Limits.{greatest_number}
use Rattle.rp_feed.specs.Fed.{Fed, Numbered, front_of}
use Rattle.rp_feed.specs.Again.{fed_again}
use Rattle.rp_known.specs.Plans.{first_read}
use Rattle.rp_walker.specs.declared.record.MatcherState.{MatcherState}
use Rattle.rp_checkpoint.specs.declared.node_data.HeldRow.{HeldRow}
use Rattle.rp_checkpoint.specs.declared.node_data.PartitionData.{PartitionData}
use Rattle.rp_schedules.specs.Records.{Held}
use Rattle.rp_partition.specs.declared.partition.Partition.{Partition}
use Rattle.rp_partition.specs.Joined.{held_of}
use Rattle.rp_node.specs.Keyed.{IsPartition}

-- ---- the record in what was kept

abbrev pub numbered : HeldRow → Numbered
numbered r = (r.number, r.cells)

abbrev pub state_in : PartitionData → MatcherState
state_in p =
    record {
      first =
          p.first;
      at = p.at;
      matches = p.matches;
      covered = p.covered;
      here = p.here;
      given = p.given;
      over = p.over;
    }

abbrev pub fed_in : PartitionData → Fed
fed_in p = record { first = p.first; rows = map numbered p.rows; closed = p.close }

abbrev pub held_in : PartitionData → Held
held_in p = record { feed = fed_in p; state = state_in p }

-- ---- the rows and the close

-- A feed that has dropped the rows below the first takes each row and the close as new: so numbers are from the
-- first on, in range, not too far above the front and not above the close.
abbrev pub feed_in : PartitionData → Option Fed
feed_in p =
    if nat_lt p.first 1 || nat_lt (greatest_number + 1) p.first then None
    else fed_again (pointwise eq-value.it) p.first (map numbered p.rows) p.close

-- ---- the key, the rows' cells, and the place of the walk

abbrev pub has_kinds : QueryData → PartitionData → Bool
has_kinds q p = not (is_some (row_fault (key_kinds q) p.key))

-- the row fits the table and has the key in the columns of PARTITION BY
abbrev pub fits_table : QueryData → List Value → HeldRow → Bool
fits_table q key r = not (is_some (row_fault (kinds_of q.table) r.cells)) && same_key (key_of q r.cells) key

abbrev pub fits_all : QueryData → List Value → List HeldRow → Bool
fits_all q key [] = true
fits_all q key (r ∷ rs) = fits_table q key r && fits_all q key rs

-- What was given of the present search was given in all, what is covered is known; and while the answer goes
-- on, the walk stands in the rows or just behind them, fewer matches begin before it than there are rows, and
-- what it reads is kept.
abbrev pub has_place : QueryData → ℕ → PartitionData → Bool
has_place q front p =
    nat_le p.here p.given && (nat_le p.covered front && (p.over || (nat_le 1 p.at
    && (nat_le p.at (front + 1) && (nat_lt p.matches p.at && nat_le p.first (first_read q p.at))))))

abbrev pub restorable_over : QueryData → PartitionData → Option Fed → Bool
restorable_over q p None = false
restorable_over q p (Some fed) = has_kinds q p && (has_place q (front_of fed) p && fits_all q p.key p.rows)

-- a node may go on from it
abbrev pub is_restorable : QueryData → PartitionData → Bool
is_restorable q p = restorable_over q p (feed_in p)

-- The partition goes on from its record; it is none where a node may not go on from it.
abbrev pub Resumed : QueryData → PartitionData → Option Partition → Type 0
Resumed q p None = is_restorable q p ≡ false
Resumed q p (Some part) = (is_restorable q p ≡ true) × (held_of part ≡ held_in p) × IsPartition q p.key part
