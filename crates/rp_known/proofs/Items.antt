-- The items of a search that has ended stay where they are ready.
use Rattle.std.proofs.Common.{◌≡◌, ℕ, suc, ◌+◌, ◌≤◌, List, [], ◌∷◌, length, Bool, true, false, cond, Option, Some, None, refl, ap, ◌∙◌, arith}
use Rattle.std.specs.Prelude.{option_map}
use Rattle.std.specs.List.{AllByRecursion}
use Rattle.rp_value.specs.declared.value.Value.{Value}
use Rattle.rp_query.specs.declared.query.RowsPerMatch.{RowsPerMatch}
use Rattle.rp_query.specs.declared.query.RowsPerMatch.TheVariants.{One, AllShowEmpty, AllOmitEmpty, AllWithUnmatched}
use Rattle.rp_words.specs.declared.word.Label.{Label}
use Rattle.rp_search.specs.Found.{Found, Match, NoMatch, Waits}
use Rattle.rp_query.specs.declared.query.QueryData.{QueryData}
use Rattle.rp_eval.specs.Laws.{ValuesStay}
use Rattle.rp_query.specs.Sound.{IsSound}
use Rattle.rp_query.specs.declared.item.Item.{Item}
use Rattle.rp_query.specs.declared.item.Item.TheVariants.{Row as RowItem}
use Rattle.rp_eval.specs.Partition.{row_at}
use Rattle.rp_known.specs.declared.place.Place.{Place}
use Rattle.rp_known.specs.Known.{Known, count}
use Rattle.rp_known.specs.WalkLaws.{GoesOnFrom}
use Rattle.rp_known.specs.Plans.{first_read, setting_of, cells_in}
use Rattle.rp_known.specs.WalkLaws.{AreKnown}
use Rattle.rp_known.specs.Items.{unexcluded, match_rows, item_rows, item_at}
use Rattle.rp_known.proofs.Values.{match_stays, alone_stays}

-- ---- the rows of a search's items are known

abbrev pub AreWithin : ℕ → ℕ → List ℕ → Type 0
AreWithin low high rows = AllByRecursion (λ r. (low ≤ r) × (r ≤ high)) rows

within_more : (low high : ℕ) (rows : List ℕ) → AreWithin (suc low) high rows → AreWithin low high rows
within_more low high [] a = tt
within_more low high (r ∷ rs) a = ((omega (arith, a.0.0), a.0.1), within_more low high rs a.1)

unexcluded_within : (row high : ℕ) (ls : List Label) → row + length ls ≤ suc high → AreWithin row high (unexcluded row ls)
unexcluded_within row high [] h = tt
unexcluded_within row high (l ∷ ls) h = go l.excluded (within_more row high (unexcluded (suc row) ls) (unexcluded_within (suc row) high ls (omega (arith, h))))
  where
    go : (b : Bool) → AreWithin row high (unexcluded (suc row) ls) → AreWithin row high (cond b (unexcluded (suc row) ls) (row ∷ unexcluded (suc row) ls))
    go true later = later
    go false later = ((omega arith, omega (arith, h)), later)

match_within : (shows : RowsPerMatch) (start high : ℕ) (l : Label) (ls : List Label) → start + length (l ∷ ls) ≤ suc high → AreWithin start high (match_rows shows start (l ∷ ls))
match_within One start high l ls h = ((omega arith, omega (arith, h)), tt)
match_within AllShowEmpty start high l ls h = unexcluded_within start high (l ∷ ls) h
match_within AllOmitEmpty start high l ls h = unexcluded_within start high (l ∷ ls) h
match_within AllWithUnmatched start high l ls h = unexcluded_within start high (l ∷ ls) h

one_within : (b : Bool) (start high : ℕ) → start ≤ high → AreWithin start high (cond b (start ∷ []) [])
one_within true start high h = ((omega arith, h), tt)
one_within false start high h = tt

pub rows_within : (shows : RowsPerMatch) (place : Place) (n : ℕ) (result : Found) → place.start ≤ n → AreKnown place.start n result → AreWithin place.start n (item_rows shows place result)
rows_within shows place n Waits h k = tt
rows_within shows place n NoMatch h k = one_within _ place.start n h
rows_within shows place n (Match []) h k = one_within _ place.start n h
rows_within shows place n (Match (l ∷ ls)) h k = match_within shows place.start n l ls k

-- ---- an item

-- what is ready at a row stays so
abbrev pub Settled : (ℕ → Option Item) → (ℕ → Option Item) → ℕ → Type 0
Settled f g row = (x : Item) → f row ≡ Some x → g row ≡ Some x

of_cells : (f : List Value → Item) → (m m' : Option (List Value)) → ((vs : List Value) → m ≡ Some vs → m' ≡ Some vs) → (x : Item) → option_map f m ≡ Some x → option_map f m' ≡ Some x
of_cells f None m' h x e = cc
of_cells f (Some vs) m' h x e = ap (option_map f) (h vs refl) ∙ e

module _ (law : ValuesStay) (q : QueryData) (p p' : Known) (reaches : IsSound q) (place : Place) (one : 1 ≤ place.start) (g : GoesOnFrom (first_read q place.start) p p') where
  row_same : (r : ℕ) → place.start ≤ r → r ≤ count p → row_at p'.rows r ≡ row_at p.rows r
  row_same r low high = g.same r (omega (arith, one, low)) high

  item_settles : (result : Found) → AreKnown place.start (count p) result → (r : ℕ) → (place.start ≤ r) × (r ≤ count p) → Settled (item_at q p place result) (item_at q p' place result) r
  item_settles Waits k r h x e = cc
  item_settles NoMatch k r h x e = ap (λ cells. Some (RowItem None cells)) (alone_stays p.rows p'.rows r q.output.items (row_same r h.0 h.1)) ∙ e
  item_settles (Match ls) k r h x e =
      of_cells (RowItem (Some (suc place.matches))) (cells_in q (setting_of q p place.start ls (suc place.matches) r) q.output.items) (cells_in q (setting_of q p' place.start ls (suc place.matches) r) q.output.items)
      (match_stays law q p p' reaches place.start ls (suc place.matches) r one k g (row_same r h.0 h.1)) x e

  pub all_settle : (result : Found) → AreKnown place.start (count p) result → (rows : List ℕ) → AreWithin place.start (count p) rows →
      AllByRecursion (Settled (item_at q p place result) (item_at q p' place result)) rows
  all_settle result k [] a = tt
  all_settle result k (r ∷ rs) a = (item_settles result k r a.0, all_settle result k rs a.1)
