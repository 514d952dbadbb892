-- The rows of a feed up to its front, as a known partition. The lemmas stand here and not in proofs/, since what an impl owes its trait can only be cited from specs/.
use Rattle.std.proofs.Common.{◌≡◌, ℕ, ◌+◌, ◌-◌, ◌^◌, ◌<◌, ◌≤◌, List, [], ◌∷◌, ◌++◌, length, length-append, replicate, Bool, true, false, cond, Option, None, Some, arith}
use Rattle.std.specs.Prelude.{◌==◌, if◌then◌else◌}
use Rattle.std.proofs.lemmas.List.{length-replicate}
use Rattle.rp_value.specs.declared.value.Value.{Value}
use Rattle.rp_words.specs.declared.word.End.{End}
use Rattle.rp_words.specs.declared.word.End.TheVariants.{Open, Closed}
use Rattle.rp_feed.specs.Limits.{greatest_number}
use Rattle.rp_feed.specs.Fed.{Fed, Numbered, first_missing, front_of}
use Rattle.rp_eval.specs.Dropped.{none_dropped as dropped}
use Rattle.rp_eval.specs.Partition.{Rows, row_at, cell_in}
use Rattle.rp_known.specs.Known.{Known}

-- where rows ascend from `n` on: those that follow one another from `n` on
abbrev pub run_from : ℕ → List Numbered → Rows
run_from n [] = []
run_from n ((m, row) ∷ rows) = if m == n then row ∷ run_from (n + 1) rows else []

-- the rows up to the front; those that are dropped have no cells
unfoldable pub known_rows : Fed → Rows
known_rows fed = replicate (fed.first - 1) [] ++ run_from fed.first fed.rows

-- a close of so many rows is the end where all of them were taken
abbrev pub end_at : Option ℕ → ℕ → End
end_at None front = Open
end_at (Some count) front = if count == front then Closed else Open

-- the partition is closed where its close was taken and the front is its count
abbrev pub end_of : Fed → End
end_of fed = end_at fed.closed (front_of fed)

-- what is known of a partition by its feed
abbrev pub known_by : Fed → Known
known_by fed = record { rows = known_rows fed; end = end_of fed }

pub run_length : (n : ℕ) (rows : List Numbered) → length (run_from n rows) + n ≡ first_missing n rows
run_length n [] = omega arith
run_length n ((m, row) ∷ rows) = go (m == n) (run_length (n + 1) rows)
  where
    go : (b : Bool) → length (run_from (n + 1) rows) + (n + 1) ≡ first_missing (n + 1) rows → length (cond b (row ∷ run_from (n + 1) rows) []) + n ≡ cond b (first_missing (n + 1) rows) n
    go true h = omega (arith, h)
    go false h = omega arith

pub known_count : (fed : Fed) → 1 ≤ fed.first → length (known_rows fed) ≡ front_of fed
unfolding known_rows
known_count fed one = omega (arith, length-append (replicate {A = List Value} (fed.first - 1) []) (run_from fed.first fed.rows), length-replicate {A = List Value} (fed.first - 1) [], run_length fed.first fed.rows, one)

pub few_known : (fed : Fed) → 1 ≤ fed.first → front_of fed ≤ greatest_number → length (known_rows fed) < 2 ^ 64 - 1
few_known fed one limit = omega (arith, known_count fed one, limit)

pub none_dropped : (fed : Fed) (row column : ℕ) → row < fed.first → cell_in (row_at (known_rows fed) row) column ≡ None
unfolding known_rows
none_dropped fed row column h = dropped (fed.first - 1) row column (run_from fed.first fed.rows) (omega (arith, h))
