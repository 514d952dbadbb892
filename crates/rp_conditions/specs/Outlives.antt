-- What tests by conditions answer stays, when rows come, when the partition is closed, and when rows out of reach are dropped.
use Rattle.std.specs.Prelude.{ℕ, ◌-◌, ◌≤◌, max}
use Rattle.rp_words.specs.declared.word.End.{End}
use Rattle.rp_query.specs.Sound.{IsSound}
use Rattle.rp_eval.specs.Partition.{Rows}
use Rattle.rp_eval.specs.GoesOn.{GoesOn}
use Rattle.rp_search.specs.Asked.{AskedExtend}
use Rattle.rp_conditions.specs.Tested.{Tested, asked_of}

-- the same conditions over other rows
abbrev pub over : Tested → Rows → End → Tested
over t p' e' = record t { rows = p'; ending = e' }

-- Rows may be dropped that lie further before the start row than the query reaches.
abbrev pub TestsGoOn : Type 0
TestsGoOn = (t : Tested) (p' : Rows) (e' : End) (start : ℕ) → 1 ≤ start → IsSound t.query →
    GoesOn (max 1 (start - t.query.reach)) t.rows t.ending p' e' → AskedExtend start (asked_of t) (asked_of (over t p' e'))
