-- What a feed is seen as: the rows that it holds by their numbers, and what follows of them.
use Rattle.std.specs.Prelude.{◌≡◌, ℕ, ◌+◌, ◌-◌, ◌≤◌, ◌==◌, Bool, true, false, List, [], ◌∷◌, filter, Option, None, Some, is_some, nat_lt, nat_le, ◌||◌, count_by, if◌then◌else◌, ⊤}
use Rattle.rp_value.specs.declared.value.Value.{Value}
use Rattle.rp_feed.specs.Limits.{greatest_number, most_beyond}

-- a row with its number
abbrev pub Numbered : Type 0
Numbered = ℕ × List Value

-- What a feed is seen as. All numbers below `first` were taken and their rows dropped; `rows` are those that are held, with
-- ascending numbers; `closed` is the count of the close, if that was taken.
pub record Fed : Type 0 where
  pub first : ℕ
  pub rows : List Numbered
  pub closed : Option ℕ

-- a feed that holds no row and has taken no close, and has dropped the rows below `first`
abbrev pub fed_from : ℕ → Fed
fed_from first = record { first = first; rows = []; closed = None }

-- the row of a number, if it is held
abbrev pub row_at : List Numbered → ℕ → Option (List Value)
row_at [] n = None
row_at ((m, row) ∷ rows) n = if m == n then Some row else row_at rows n

-- whether the row of a number, from 1, was taken: it is dropped or held
abbrev pub is_taken : Fed → ℕ → Bool
is_taken fed n = nat_lt n fed.first || is_some (row_at fed.rows n)

-- the rows with one more, put before the first that has a greater number
abbrev pub with_row : ℕ → List Value → List Numbered → List Numbered
with_row n row [] = (n, row) ∷ []
with_row n row ((m, other) ∷ rows) =
    if nat_lt n m then (n, row) ∷ ((m, other) ∷ rows) else (m, other) ∷ with_row n row rows

-- one row more is held
abbrev pub with_taken : ℕ → List Value → Fed → Fed
with_taken n row fed = record fed { rows = with_row n row fed.rows }

-- the close is taken
abbrev pub with_close : ℕ → Fed → Fed
with_close count fed = record fed { closed = Some count }

-- the rows from a number on
abbrev pub rows_from : ℕ → List Numbered → List Numbered
rows_from n rows = filter (λ e. nat_le n e.0) rows

-- the rows below a number are dropped
abbrev pub forgotten : ℕ → Fed → Fed
forgotten before fed = record fed { first = before; rows = rows_from before fed.rows }

-- where rows ascend from `n` on: the first number from `n` on that none of them has
abbrev pub first_missing : ℕ → List Numbered → ℕ
first_missing n [] = n
first_missing n ((m, row) ∷ rows) = if m == n then first_missing (n + 1) rows else n

-- the greatest number to which all from 1 on were taken
abbrev pub front_of : Fed → ℕ
front_of fed = first_missing fed.first fed.rows - 1

-- each number is above the one before it, and the first is `n` or above
abbrev pub AscendFrom : ℕ → List Numbered → Type 0
AscendFrom n [] = ⊤
AscendFrom n ((m, row) ∷ rows) = (n ≤ m) × AscendFrom (m + 1) rows

-- numbers ascend, from the first that isn't dropped on, which is 1 or above
pub record IsOrdered (fed : Fed) : Type 0 where
  pub least : 1 ≤ fed.first
  pub ascend : AscendFrom fed.first fed.rows

-- all numbers from 1 to `f` were taken, and the next one wasn't
pub record IsFront (fed : Fed) (f : ℕ) : Type 0 where
  pub reached : (n : ℕ) → 1 ≤ n → n ≤ f → is_taken fed n ≡ true
  pub missing : is_taken fed (f + 1) ≡ false

-- the number wasn't taken: its row is neither held nor dropped
pub record IsFree (fed : Fed) (n : ℕ) : Type 0 where
  pub kept : fed.first ≤ n
  pub none : row_at fed.rows n ≡ None

-- the rows below the number can be dropped: all of them were taken, and it isn't below `first`
pub record IsReached (fed : Fed) (before : ℕ) : Type 0 where
  pub kept : fed.first ≤ before
  pub reached : before ≤ front_of fed + 1

-- how many rows are held beyond the front
abbrev pub beyond : Fed → ℕ
beyond fed = count_by (λ e. nat_lt (front_of fed) e.0) fed.rows

-- no number is above this one
abbrev pub AreUpTo : ℕ → List Numbered → Type 0
AreUpTo n [] = ⊤
AreUpTo n ((m, row) ∷ rows) = (m ≤ n) × AreUpTo n rows

-- the close, if it was taken, counts all that was taken: neither the front nor a number is above its count, which is in range
abbrev pub CountsAll : Option ℕ → ℕ → List Numbered → Type 0
CountsAll None front rows = ⊤
CountsAll (Some count) front rows = (count ≤ greatest_number) × (front ≤ count) × AreUpTo count rows

-- What is true of every feed: numbers ascend, what is dropped is below the front, the front is at most the greatest number, no more
-- rows beyond it are held than may be, none is too far above it or too great, and the close counts all.
pub record IsFeed (fed : Fed) : Type 0 where
  pub ordered : IsOrdered fed
  pub reached : fed.first ≤ front_of fed + 1
  pub limit : front_of fed ≤ greatest_number
  pub few : beyond fed ≤ most_beyond
  pub near : AreUpTo (front_of fed + most_beyond) fed.rows
  pub range : AreUpTo greatest_number fed.rows
  pub ended : CountsAll fed.closed (front_of fed) fed.rows
