-- Inside: what is still to be looked at of a search's rows, once it has ended.
use Rattle.std.specs.Prelude.{ℕ, zero, suc, ◌+◌, ◌-◌, ◌≤◌, ⊤, Bool, false, List, [], ◌∷◌, Option, Some, None, slice_get, if◌then◌else◌}
use Rattle.rp_query.specs.declared.query.RowsPerMatch.{RowsPerMatch}
use Rattle.rp_query.specs.declared.query.RowsPerMatch.TheVariants.{One}
use Rattle.rp_words.specs.declared.word.Label.{Label}
use Rattle.rp_search.specs.Found.{Found, Match, NoMatch, Waits}
use Rattle.rp_search.specs.Search.{labels_of_search}
use Rattle.rp_walker.specs.declared.ahead.Ahead.{Ahead}
use Rattle.rp_walker.specs.declared.run.Run.{Run}
use Rattle.rp_walker.specs.declared.stage.Ended.{Ended}
use Rattle.rp_walker.specs.declared.stage.Ended.TheVariants.{Match as EndedMatch, NoMatch as EndedNoMatch}

abbrev pub is_excluded : Option Label → Bool
is_excluded None = false
is_excluded (Some l) = l.excluded

-- a row of a match that isn't shown
abbrev pub is_hidden : RowsPerMatch → ℕ → Found → ℕ → Bool
is_hidden One start result row = false
is_hidden _ start (Match labels) row = is_excluded (slice_get labels (row - start))
is_hidden _ start NoMatch row = false
is_hidden _ start Waits row = false

-- so many rows from one on, without the hidden ones
abbrev pub shown_from : (ℕ → Bool) → ℕ → ℕ → List ℕ
shown_from hidden zero row = []
shown_from hidden (suc k) row = if hidden row then shown_from hidden k (suc row) else row ∷ shown_from hidden k (suc row)

-- the rows ahead after the next one, where so many items come before them
abbrev pub past_row : Ahead → ℕ → Ahead
past_row a seen = record { next = a.next + 1; end = a.end; seen = seen }

-- what an ended search has found
abbrev pub result_of : Ended → Found
result_of (EndedNoMatch run) = NoMatch
result_of (EndedMatch run) = Match (labels_of_search run.search.value)

abbrev pub run_of : Ended → Run
run_of (EndedNoMatch run) = run
run_of (EndedMatch run) = run

-- a search without a match shows one row at most
abbrev pub IsShort : Ended → Ahead → Type 0
IsShort (EndedNoMatch run) a = a.end ≤ a.next + 1
IsShort (EndedMatch run) a = ⊤
