-- The cells of an output row are those of the output columns, one for one.
use Rattle.std.specs.Prelude.{◌≡◌, ◌<◌, ◌≤◌, ◌+◌, ◌-◌, ℕ, suc, ⊤, true, List, length, All, Some, None}
use Rattle.std.specs.List.{AllZip}
use Rattle.rp_value.specs.declared.value.Value.{Value}
use Rattle.rp_words.specs.declared.word.Label.{Label}
use Rattle.rp_query.specs.declared.item.Item.{Item}
use Rattle.rp_query.specs.declared.item.Item.TheVariants.{Row, Fault, End}
use Rattle.rp_query.specs.declared.query.OutputColumn.{OutputColumn}
use Rattle.rp_query.specs.declared.query.QueryData.{QueryData}
use Rattle.rp_query.specs.declared.query.Source.{Source}
use Rattle.rp_search.specs.Found.{Found, Match, NoMatch}
use Rattle.rp_eval.specs.declared.cell.Cell.{Cell}
use Rattle.rp_eval.specs.declared.cell.Cell.TheVariants.{Ready}
use Rattle.rp_known.specs.declared.place.Place.{Place}
use Rattle.rp_known.specs.Items.{shows_unmatched}
use Rattle.rp_known.specs.Known.{Known, count}
use Rattle.rp_known.specs.Plans.{setting_of, shown_in, shown_alone}
use Rattle.rp_known.specs.Walk.{ComesTo, first_place, found_at, known}

-- there are as many cells as columns, and each is what the column at its place has
abbrev pub AreNamed : (Source → Cell) → List OutputColumn → List Value → Type 0
AreNamed shown columns cells = AllZip (λ o v. shown o.from ≡ Ready v) columns cells

-- The walk comes to this place, whose row is known, and the search from this row finds this.
pub record IsSearched (q : QueryData) (p : Known) (place : Place) (result : Found) : Type 0 where
  pub items : ℕ
  pub comes : ComesTo q p first_place items place
  pub in_rows : place.start ≤ count p
  pub found : found_at q p place.start ≡ result

-- the row is one of a match that begins here with these labels; of an empty match, the row at which it was found
abbrev pub IsRowOfMatch : ℕ → List Label → ℕ → Type 0
IsRowOfMatch start labels row = (start ≤ row) × (row ≤ start + (length labels - 1))

-- the cells are those of a row of the match of this number: a match that the walk finds, behind all those of lower numbers
pub record AreOfMatch (q : QueryData) (p : Known) (number : ℕ) (cells : List Value) : Type 0 where
  pub place : Place
  pub labels : List Label
  pub searched : IsSearched q p place (Match labels)
  pub counted : number ≡ suc place.matches
  pub row : ℕ
  pub within : IsRowOfMatch place.start labels row
  pub named : AreNamed (shown_in q (setting_of q p place.start labels number row)) q.output.items cells

-- The cells are those of a row that is in no match, where such rows are shown: the walk finds none there, and each match that it found
-- before ends before this row.
pub record AreUnmatched (q : QueryData) (p : Known) (cells : List Value) : Type 0 where
  pub place : Place
  pub searched : IsSearched q p place NoMatch
  pub after_matches : place.covered < place.start
  pub shown : shows_unmatched q.plan.rows ≡ true
  pub named : AreNamed (λ from. Ready (shown_alone p.rows place.start from)) q.output.items cells

-- an output row has the cells of the output columns at a row of the partition
abbrev pub IsNamed : QueryData → Known → Item → Type 0
IsNamed q p (Row (Some number) cells) = AreOfMatch q p number cells
IsNamed q p (Row None cells) = AreUnmatched q p cells
IsNamed q p (Fault fault) = ⊤
IsNamed q p End = ⊤

-- So has each output row that is known.
abbrev pub KnownIsNamed : Type 0
KnownIsNamed = (q : QueryData) (p : Known) → All (IsNamed q p) (known q p)
