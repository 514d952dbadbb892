-- The items of a search.
use Rattle.std.specs.Prelude.{ℕ, suc, ◌+◌, ◌&&◌, Bool, true, false, List, [], ◌∷◌, length, map, nat_lt, Option, Some, None, option_map, if◌then◌else◌}
use Rattle.rp_query.specs.declared.query.RowsPerMatch.{RowsPerMatch}
use Rattle.rp_query.specs.declared.query.RowsPerMatch.TheVariants.{One, AllShowEmpty, AllOmitEmpty, AllWithUnmatched}
use Rattle.rp_words.specs.declared.word.Label.{Label}
use Rattle.rp_search.specs.Found.{Found, Match, NoMatch, Waits}
use Rattle.rp_query.specs.declared.query.QueryData.{QueryData}
use Rattle.rp_query.specs.declared.item.Item.{Item}
use Rattle.rp_query.specs.declared.item.Item.TheVariants.{Row as RowItem}
use Rattle.rp_known.specs.declared.place.Place.{Place}
use Rattle.rp_known.specs.Known.{Known}
use Rattle.rp_known.specs.Plans.{setting_of, cells_in, cells_alone}

abbrev pub shows_empty : RowsPerMatch → Bool
shows_empty One = true
shows_empty AllShowEmpty = true
shows_empty AllOmitEmpty = false
shows_empty AllWithUnmatched = true

abbrev pub shows_unmatched : RowsPerMatch → Bool
shows_unmatched One = false
shows_unmatched AllShowEmpty = false
shows_unmatched AllOmitEmpty = false
shows_unmatched AllWithUnmatched = true

-- the rows of these labels, from a row on, without the excluded ones
abbrev pub unexcluded : ℕ → List Label → List ℕ
unexcluded row [] = []
unexcluded row (l ∷ ls) = if l.excluded then unexcluded (suc row) ls else row ∷ unexcluded (suc row) ls

-- the rows at which a match that isn't empty is shown
abbrev pub match_rows : RowsPerMatch → ℕ → List Label → List ℕ
match_rows One start (l ∷ ls) = (start + length ls) ∷ []
match_rows _ start labels = unexcluded start labels

-- the rows at which what was found is shown
abbrev pub item_rows : RowsPerMatch → Place → Found → List ℕ
item_rows shows place Waits = []
item_rows shows place NoMatch = if shows_unmatched shows && nat_lt place.covered place.start then place.start ∷ [] else []
item_rows shows place (Match []) = if shows_empty shows then place.start ∷ [] else []
item_rows shows place (Match (l ∷ ls)) = match_rows shows place.start (l ∷ ls)

-- the item at a row, or none where a measure is open
abbrev pub item_at : QueryData → Known → Place → Found → ℕ → Option Item
item_at q p place Waits row = None
item_at q p place NoMatch row = Some (RowItem None (cells_alone p.rows row q.output.items))
item_at q p place (Match labels) row =
    option_map (RowItem (Some (suc place.matches)))
    (cells_in q (setting_of q p place.start labels (suc place.matches) row) q.output.items)

-- the items of a search, each where it is ready
abbrev pub items_of : QueryData → Known → Place → Found → List (Option Item)
items_of q p place result = map (item_at q p place result) (item_rows q.plan.rows place result)
