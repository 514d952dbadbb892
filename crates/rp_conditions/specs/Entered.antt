-- Inside: what a tester is of, and which labels it has entered.
use Rattle.std.specs.Prelude.{ℕ, ◌-◌, ◌^◌, ◌<◌, List, length}
use Rattle.rp_words.specs.declared.word.Label.{Label}
use Rattle.rp_eval.specs.declared.rows.Rows.{Ghosts}
use Rattle.rp_eval.specs.Entered.{AreTotals}
use Rattle.rp_conditions.specs.declared.tester.Tester.{Tester}
use Rattle.rp_conditions.specs.Tested.{Tested, asked_of}

module _ {R : Type 0} {g : Ghosts R} where
  -- the rows and the query that it borrows
  unfoldable pub tested_by : Tester R g → Tested
  tested_by t = record { rows = g.known t.rows.now; ending = g.ending t.rows.now; query = t.query.now }

  -- its totals are those of these labels, from this start row on
  unfoldable pub HasEntered : Tester R g → ℕ → List Label → Type 0
  HasEntered t start labels = AreTotals t.totals (g.known t.rows.now) start labels

  -- how many calls of `enter` it has counted
  unfoldable pub entries_of : Tester R g → ℕ
  entries_of t = t.entries

  -- It stands here and not in proofs/, since what an impl owes its trait can only be cited from specs/.
  pub few_are_asked : (t : Tester R g) → length (g.known t.rows.now) < 2 ^ 64 - 1 → (asked_of (tested_by t)).known < 2 ^ 64 - 1
  unfolding tested_by
  few_are_asked t few = few
