-- The first match that is looked for. Own: ISO/IEC 9075-2:2016 has no word on why there is none. What the search from a row finds
-- is the preferred match there (ISO/IEC TR 19075-5:2016, 4.12).
use Rattle.std.specs.Prelude.{◌≡◌, ℕ, ◌+◌, ◌<◌, ◌≤◌, ◌⊎◌, Bool, false, true, List, [], ◌∷◌, ⊤}
use Rattle.rp_words.specs.declared.word.Label.{Label}
use Rattle.rp_search.specs.Found.{Found, Match, NoMatch, Waits}
use Rattle.rp_query.specs.declared.query.QueryData.{QueryData}
use Rattle.rp_known.specs.Known.{Known, count}
use Rattle.rp_known.specs.Walk.{found_at}
use Rattle.rp_why.specs.declared.reasons.Finding.{Finding}
use Rattle.rp_why.specs.declared.reasons.Finding.TheVariants as finding
use Rattle.rp_why.specs.declared.reasons.Finding.TheVariants.{Matched, Unmatched, NoRow}
use Rattle.rp_why.specs.declared.seeking.Match.{Match as MatchOf}
use Rattle.rp_why.specs.declared.seeking.Sought.{Sought}
use Rattle.rp_why.specs.declared.seeking.Sought.TheVariants.{Found as FoundIt, NotFound, GivenUp}
use Rattle.rp_why.specs.declared.seeking.Wanted.{Wanted}

-- whether a match is looked for: any, or one with rows alone
abbrev pub is_match : Bool → List Label → Bool
is_match with_rows (l ∷ ls) = true
is_match true [] = false
is_match false [] = true

-- whether what a search finds is a match that is looked for
abbrev pub is_wanted : Bool → Found → Bool
is_wanted with_rows (Match labels) = is_match with_rows labels
is_wanted with_rows NoMatch = false
is_wanted with_rows Waits = false

-- No row from one to before another begins a match that is looked for.
abbrev pub NoneFrom : QueryData → Known → Bool → ℕ → ℕ → Type 0
NoneFrom q p with_rows from to = (row : ℕ) → from ≤ row → row < to → is_wanted with_rows (found_at q p row) ≡ false

-- It is the match that the search from its first row finds, a match that is looked for, and no row before begins one.
pub record IsFirst (q : QueryData) (p : Known) (wanted : Wanted) (m : MatchOf) : Type 0 where
  pub found : found_at q p m.first ≡ Match m.labels.items
  pub has_rows : is_match wanted.with_rows m.labels.items ≡ true
  pub within : wanted.first ≤ m.first
  pub not_past : m.first ≤ wanted.last
  pub none_before : NoneFrom q p wanted.with_rows wanted.first m.first

-- What is found among the start rows: the first match that is looked for, or none. Given up says nothing.
abbrev pub IsSought : QueryData → Known → Wanted → Sought → Type 0
IsSought q p wanted (FoundIt m) = IsFirst q p wanted m
IsSought q p wanted NotFound = NoneFrom q p wanted.with_rows wanted.first (wanted.last + 1)
IsSought q p wanted GivenUp = ⊤

-- the first start row or the last one isn't a row of a partition of n rows
abbrev pub IsOutside : ℕ → Wanted → Type 0
IsOutside n wanted = (wanted.first ≡ 0) ⊎ ((n < wanted.first) ⊎ (n < wanted.last))

-- What is said of a partition: its first match, that no start row begins one, or that it has no such start rows. That the searches were
-- given up says nothing.
abbrev pub IsFinding : QueryData → Known → Wanted → Finding → Type 0
IsFinding q p wanted (Matched m) = IsFirst q p wanted m
IsFinding q p wanted (Unmatched reasons) = NoneFrom q p wanted.with_rows wanted.first (wanted.last + 1)
IsFinding q p wanted (NoRow row) = (row ≡ wanted.first) × IsOutside (count p) wanted
IsFinding q p wanted finding.GivenUp = ⊤
