-- The partition of a key.
use Rattle.std.specs.Prelude.{◌≡◌, List, [], ◌∷◌, None, ⊤}
use Rattle.rp_value.specs.declared.value.Value.{Value}
use Rattle.rp_value.specs.Rows.{row_fault}
use Rattle.rp_value.specs.Tables.{kinds_of}
use Rattle.rp_query.specs.declared.query.QueryData.{QueryData}
use Rattle.rp_query.specs.Keys.{key_kinds, key_of}
use Rattle.rp_feed.specs.Fed.{Numbered}
use Rattle.rp_partition.specs.declared.partition.Partition.{Partition}
use Rattle.rp_partition.specs.Joined.{Joined, held_of}

-- each row fits the table and has the key in the columns of PARTITION BY
abbrev pub RowsHaveKey : QueryData → List Value → List Numbered → Type 0
RowsHaveKey q key [] = ⊤
RowsHaveKey q key ((n, row) ∷ rows) = (row_fault (kinds_of q.table) row ≡ None) × (key_of q row ≡ key)
    × RowsHaveKey q key rows

-- The key fits the columns of PARTITION BY, and the rows that are held have it.
pub record IsOfKey (q : QueryData) (key : List Value) (rows : List Numbered) : Type 0 where
  pub kinds : row_fault (key_kinds q) key ≡ None
  pub have : RowsHaveKey q key rows

-- the partition of a key
pub record IsPartition (q : QueryData) (key : List Value) (p : Partition) : Type 0 where
  pub joined : Joined q p
  pub of_key : IsOfKey q key (held_of p).feed.rows
