-- Inside: the rows that are kept, as a known partition. The lemmas stand here and not in proofs/, since what an impl owes its trait can
-- only be cited from specs/.
use Rattle.std.proofs.Common.{◌≡◌, ℕ, ◌+◌, ◌-◌, ◌^◌, ◌<◌, List, [], ◌++◌, length, length-append, replicate, None, arith}
use Rattle.std.proofs.lemmas.List.{length-replicate}
use Rattle.rp_value.specs.declared.value.Value.{Value}
use Rattle.rp_eval.specs.Dropped.{none_dropped as dropped}
use Rattle.rp_eval.specs.Partition.{Rows, row_at, cell_in}
use Rattle.rp_answer.specs.declared.kept.Kept.{Kept}

-- those before the first are dropped, and have no cells
unfoldable pub kept_rows : Kept → Rows
kept_rows k = replicate (k.first - 1) [] ++ k.rows.items

pub kept_count : (k : Kept) → length (kept_rows k) ≡ k.first - 1 + length k.rows.items
unfolding kept_rows
kept_count k = omega (arith, length-append (replicate {A = List Value} (k.first - 1) []) k.rows.items, length-replicate {A = List Value} (k.first - 1) [])

pub few_kept : (k : Kept) → length (kept_rows k) < 2 ^ 64 - 1
few_kept k = omega (arith, kept_count k, k.few, k.from_one)

pub none_dropped : (k : Kept) (row column : ℕ) → row < k.first → cell_in (row_at (kept_rows k) row) column ≡ None
unfolding kept_rows
none_dropped k row column h = dropped (k.first - 1) row column k.rows.items (omega (arith, h))
