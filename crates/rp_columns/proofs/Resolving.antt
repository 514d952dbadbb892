-- Columns that are resolved one after another.
use Rattle.std.proofs.Common.{◌≡◌, ◌+◌, ◌<◌, ℕ, zero, suc, List, [], ◌∷◌, ◌++◌, length, get_or, take, drop, map, Some, sym, ap, arith}
use Rattle.rp_columns.specs.ColumnsGrammar.{WrittenTree, written_tree}
use Rattle.rp_columns.specs.Resolved.{AreColumns, column_of}
use Rattle.rp_columns.specs.declared.columns.InputColumn.{InputColumn}
use Rattle.rp_columns.specs.declared.written.Written.{Written}

pub columns_more : (ws : List WrittenTree) (cs : List InputColumn) (w : WrittenTree) (c : InputColumn) → AreColumns ws cs → column_of w ≡ Some c → AreColumns (ws ++ w ∷ []) (cs ++ c ∷ [])
columns_more [] [] w c are is = (is, tt)
columns_more [] (d ∷ cs) w c are is = absurd are
columns_more (v ∷ ws) [] w c are is = absurd are
columns_more (v ∷ ws) (d ∷ cs) w c are is = (are.0, columns_more ws cs w c are.1 is)

-- those before a place, the one that stands there, and those behind it
pub trees_round : (ws : List Written) (i : ℕ) (w : Written) → i < length ws → w ≡ get_or ws i w → map written_tree ws ≡ map written_tree (take i ws) ++ written_tree w ∷ map written_tree (drop (i + 1) ws)
trees_round [] i w lt is = absurd (omega arith)
trees_round (v ∷ ws) zero w lt is = ap (λ x. written_tree x ∷ map written_tree ws) (sym is)
trees_round (v ∷ ws) (suc i) w lt is = let e : suc i + 1 ≡ suc (i + 1) = omega arith in rw e (ap (λ xs. written_tree v ∷ xs) (trees_round ws i w (omega arith) is))
