-- Where the next search starts, after AFTER MATCH SKIP.
use Rattle.std.specs.Prelude.{ℕ, zero, suc, ◌+◌, Bool, true, false, List, [], ◌∷◌, length, Option, Some, None, option_map, Result, Ok, Err, if◌then◌else◌}
use Rattle.rp_words.specs.declared.word.Label.{Label}
use Rattle.rp_query.specs.declared.plan.Variables.{Variables}
use Rattle.rp_query.specs.declared.query.SkipTo.{SkipTo}
use Rattle.rp_query.specs.declared.query.SkipTo.TheVariants.{PastLastRow, NextRow, First, Last}
use Rattle.rp_query.specs.Scopes.{includes}
use Rattle.rp_query.specs.declared.item.SkipFault.{SkipFault}
use Rattle.rp_query.specs.declared.item.SkipFault.TheVariants.{SkipNoRow, SkipSame}

-- the row is mapped to one of the variables
abbrev pub is_of : Variables → Label → Bool
is_of variables label = includes variables label.var

-- the place of the first label that passes, from 0
abbrev pub first_passing : (Label → Bool) → List Label → Option ℕ
first_passing test [] = None
first_passing test (l ∷ ls) = if test l then Some 0 else option_map suc (first_passing test ls)

-- one place further on, or here
abbrev pub or_here : Bool → Option ℕ → Option ℕ
or_here passes (Some k) = Some (suc k)
or_here true None = Some 0
or_here false None = None

-- the place of the last label that passes, from 0
abbrev pub last_passing : (Label → Bool) → List Label → Option ℕ
last_passing test [] = None
last_passing test (l ∷ ls) = or_here (test l) (last_passing test ls)

-- so many rows on from the match's first row
abbrev pub skipped : SkipTo → List Label → Option ℕ
skipped NextRow labels = Some 1
skipped PastLastRow labels = Some (length labels)
skipped (First variables) labels = first_passing (is_of variables) labels
skipped (Last variables) labels = last_passing (is_of variables) labels

-- A skip to a variable without a row, and one to the match's own first row, are faults.
abbrev pub start_after : ℕ → Option ℕ → Result ℕ SkipFault
start_after start None = Err SkipNoRow
start_after start (Some zero) = Err SkipSame
start_after start (Some (suc k)) = Ok (start + suc k)

-- the start row after a match: no skip rule counts where it is empty
abbrev pub next_start : SkipTo → ℕ → List Label → Result ℕ SkipFault
next_start skip start [] = Ok (suc start)
next_start skip start (l ∷ ls) = start_after start (skipped skip (l ∷ ls))
