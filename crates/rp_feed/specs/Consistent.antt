-- Inside: what is true of a feed's fields.
use Rattle.std.specs.Prelude.{◌≡◌, ℕ, ◌+◌, List, Option}
use Rattle.rp_feed.specs.Fed.{Fed, IsFeed, Numbered, first_missing}

-- what a feed of these fields is seen as
abbrev pub fed_of : ℕ → List Numbered → Option ℕ → Fed
fed_of first rows closed = record { first = first; rows = rows; closed = closed }

-- What is true of a feed's fields: what is true of every feed, and `ready` counts the rows that follow one another from `first`
-- on.
pub record IsConsistent (first ready : ℕ) (rows : List Numbered) (closed : Option ℕ) : Type 0 where
  pub feed : IsFeed (fed_of first rows closed)
  pub run : first + ready ≡ first_missing first rows
