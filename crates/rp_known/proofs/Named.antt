-- Each output row has a cell for each output column.
use Rattle.std.proofs.Common.{◌≡◌, ℕ, zero, suc, ◌+◌, ◌-◌, ◌<◌, ◌≤◌, List, [], ◌∷◌, ◌++◌, map, length, Bool, true, false, cond, Option, Some, None, refl, sym, subst, arith}
use Rattle.std.specs.Prelude.{⊤, ◌&&◌, nat_le, nat_lt, option_map, Result, Ok, Err}
use Rattle.std.specs.List.{AllByRecursion}
use Rattle.std.proofs.lemmas.Bool.Decides.{nat_tests}
use Rattle.std.proofs.lemmas.List.Elements.{All-from_recursion}
use Rattle.std.proofs.lemmas.Option.{same_Some}
use Rattle.rp_value.specs.declared.value.Value.{Value}
use Rattle.rp_words.specs.declared.word.Label.{Label}
use Rattle.rp_words.specs.declared.word.End.{End}
use Rattle.rp_words.specs.declared.word.End.TheVariants.{Open as OpenEnd, Closed as ClosedEnd}
use Rattle.rp_search.specs.Found.{Found, Match, NoMatch, Waits}
use Rattle.rp_query.specs.declared.item.Item.{Item}
use Rattle.rp_query.specs.declared.item.Item.TheVariants.{Row as RowItem}
use Rattle.rp_query.specs.declared.item.SkipFault.{SkipFault}
use Rattle.rp_query.specs.declared.query.OutputColumn.{OutputColumn}
use Rattle.rp_query.specs.declared.query.QueryData.{QueryData}
use Rattle.rp_query.specs.declared.query.RowsPerMatch.{RowsPerMatch}
use Rattle.rp_query.specs.declared.query.Source.{Source}
use Rattle.rp_eval.specs.declared.cell.Cell.{Cell}
use Rattle.rp_eval.specs.declared.cell.Cell.TheVariants.{Ready, Open}
use Rattle.rp_eval.specs.Partition.{Rows}
use Rattle.rp_known.specs.declared.place.Place.{Place}
use Rattle.rp_known.specs.Known.{Known, count}
use Rattle.rp_known.specs.Plans.{setting_of, shown_in, shown_alone, before_ready, values_of, cells_in, cells_alone}
use Rattle.rp_known.specs.Skips.{next_start}
use Rattle.rp_known.specs.Items.{item_rows, item_at, shows_unmatched}
use Rattle.rp_known.specs.Walk.{Leg, Goes, Pauses, Ends, after_item, after_items, after_match, after_found, found_at, at_last, searched, leg, leg_items, and_then, walk, first_place, ComesTo, here, on}
use Rattle.rp_known.specs.Named.{AreNamed, IsNamed, IsRowOfMatch, IsSearched, KnownIsNamed}
use Rattle.rp_known.proofs.Items.{rows_within}

-- ---- cells

module _ (shown : Source → Cell) where
  first_and_later : (o : OutputColumn) (os : List OutputColumn) (c : Cell) (later : Option (List Value)) → shown o.from ≡ c
      → ((us : List Value) → later ≡ Some us → AreNamed shown os us) → (vs : List Value) → before_ready c later ≡ Some vs → AreNamed shown (o ∷ os) vs
  first_and_later o os Open later is named vs e = absurd cc
  first_and_later o os (Ready v) None is named vs e = absurd cc
  first_and_later o os (Ready v) (Some us) is named vs e = subst (AreNamed shown (o ∷ os)) (same_Some (v ∷ us) vs e) (is, named us refl)

  ready_named : (columns : List OutputColumn) (vs : List Value) → values_of (map (λ o. shown o.from) columns) ≡ Some vs → AreNamed shown columns vs
  ready_named [] vs e = subst (AreNamed shown []) (same_Some [] vs e) tt
  ready_named (o ∷ os) vs e = first_and_later o os (shown o.from) (values_of (map (λ o. shown o.from) os)) refl (ready_named os) vs e

alone_named : (p : Rows) (row : ℕ) (columns : List OutputColumn) → AreNamed (λ from. Ready (shown_alone p row from)) columns (cells_alone p row columns)
alone_named p row [] = tt
alone_named p row (o ∷ os) = (refl, alone_named p row os)

-- ---- rows

-- a row at which what was found from a place is shown
abbrev IsShownAt : RowsPerMatch → Place → Found → ℕ → Type 0
IsShownAt shows place Waits row = ⊤
IsShownAt shows place NoMatch row = (row ≡ place.start) × (place.covered < place.start) × (shows_unmatched shows ≡ true)
IsShownAt shows place (Match labels) row = IsRowOfMatch place.start labels row

none_shown : (shows : RowsPerMatch) (place : Place) (a b : Bool) → shows_unmatched shows ≡ a → nat_lt place.covered place.start ≡ b
    → AllByRecursion (IsShownAt shows place NoMatch) (cond (a && b) (place.start ∷ []) [])
none_shown shows place true true asked e = ((refl, grind (arith, nat_tests), asked), tt)
none_shown shows place true false asked e = tt
none_shown shows place false b asked e = tt

all_shown : (shows : RowsPerMatch) (place : Place) (result : Found) → AllByRecursion (IsShownAt shows place result) (item_rows shows place result)
all_shown shows place Waits = tt
all_shown shows place NoMatch = none_shown shows place (shows_unmatched shows) (nat_lt place.covered place.start) refl refl
all_shown shows place (Match labels) = rows_within shows place (place.start + (length labels - 1)) (Match labels) (omega arith) (omega arith)

module _ (q : QueryData) (p : Known) where
  item_named : (place : Place) (result : Found) → IsSearched q p place result → (row : ℕ) → IsShownAt q.plan.rows place result row
      → (x : Item) → item_at q p place result row ≡ Some x → IsNamed q p x
  item_named place Waits is row at x e = absurd cc
  item_named place NoMatch is row at x e =
      subst (IsNamed q p) (same_Some (RowItem None (cells_alone p.rows row q.output.items)) x e)
      (subst (λ r. IsNamed q p (RowItem None (cells_alone p.rows r q.output.items))) (sym at.0)
      (record { place = place; searched = is; after_matches = at.1; shown = at.2; named = alone_named p.rows place.start q.output.items }))
  item_named place (Match labels) is row at x e = go (cells_in q (setting_of q p place.start labels (suc place.matches) row) q.output.items) refl e
    where
      go : (o : Option (List Value)) → cells_in q (setting_of q p place.start labels (suc place.matches) row) q.output.items ≡ o
          → option_map (RowItem (Some (suc place.matches))) o ≡ Some x → IsNamed q p x
      go None none e = absurd cc
      go (Some vs) are e =
          subst (IsNamed q p) (same_Some (RowItem (Some (suc place.matches)) vs) x e)
          (record {
            place = place;
            labels = labels;
            searched = is;
            counted = refl;
            row = row;
            within = at;
            named = ready_named (shown_in q (setting_of q p place.start labels (suc place.matches) row)) q.output.items vs are;
          })

  -- ---- the walk

  abbrev AllNamed : List Item → Type 0
  AllNamed xs = AllByRecursion (IsNamed q p) xs

  item_first : (x : Item) (t : Leg) → IsNamed q p x → AllNamed (leg_items t) → AllNamed (leg_items (after_item x t))
  item_first x (Goes xs next) h k = (h, k)
  item_first x (Pauses xs) h k = (h, k)
  item_first x (Ends xs) h k = (h, k)

  items_first : (place : Place) (result : Found) → IsSearched q p place result → (rows : List ℕ) → AllByRecursion (IsShownAt q.plan.rows place result) rows
      → (t : Leg) → AllNamed (leg_items t) → AllNamed (leg_items (after_items (map (item_at q p place result) rows) t))
  items_first place result found [] at t h = h
  items_first place result found (r ∷ rs) at t h = go (item_at q p place result r) refl (items_first place result found rs at.1 t h)
    where
      go : (o : Option Item) → item_at q p place result r ≡ o → AllNamed (leg_items (after_items (map (item_at q p place result) rs) t))
          → AllNamed (leg_items (after_items (o ∷ map (item_at q p place result) rs) t))
      go None is later = tt
      go (Some x) is later = item_first x (after_items (map (item_at q p place result) rs) t) (item_named place result found r at.0 x is) later

  match_last : (place : Place) (labels : List Label) (next : Result ℕ SkipFault) → AllNamed (leg_items (after_match place labels next))
  match_last place labels (Ok row) = tt
  match_last place labels (Err fault) = (tt, tt)

  found_last : (place : Place) (result : Found) → AllNamed (leg_items (after_found q place result))
  found_last place Waits = tt
  found_last place NoMatch = tt
  found_last place (Match labels) = match_last place labels (next_start q.plan.skip place.start labels)

  at_end : (e : End) → AllNamed (leg_items (at_last e))
  at_end OpenEnd = tt
  at_end ClosedEnd = (tt, tt)

  leg_named : (place : Place) (items : ℕ) → ComesTo q p first_place items place → AllNamed (leg_items (leg q p place))
  leg_named place items comes = go (nat_le place.start (count p)) refl
    where
      go : (b : Bool) → nat_le place.start (count p) ≡ b → AllNamed (leg_items (cond b (searched q p place (found_at q p place.start)) (at_last p.end)))
      go true e =
          let result = found_at q p place.start in
          let in_rows : place.start ≤ count p = grind (arith, nat_tests) in
          items_first place result (record { items = items; comes = comes; in_rows = in_rows; found = refl })
          (item_rows q.plan.rows place result) (all_shown q.plan.rows place result) (after_found q place result) (found_last place result)
      go false e = at_end p.end

  -- from where a walk comes to, it comes one leg further
  comes_on : {from place next : Place} {xs : List Item} {d : ℕ} → ComesTo q p from d place → leg q p place ≡ Goes xs next → (e : ℕ) × ComesTo q p from e next
  comes_on {xs = xs} here is = (length xs + 0, on is here)
  comes_on (on {xs = ys} first rest) is = let later = comes_on rest is in (length ys + later.0, on first later.1)

  both_named : (xs ys : List Item) → AllNamed xs → AllNamed ys → AllNamed (xs ++ ys)
  both_named [] ys h k = k
  both_named (x ∷ xs) ys h k = (h.0, both_named xs ys h.1 k)

  then_named : (t : Leg) (walk_on : Place → List Item) → AllNamed (leg_items t)
      → ((xs : List Item) (next : Place) → t ≡ Goes xs next → AllNamed (walk_on next)) → AllNamed (and_then t walk_on)
  then_named (Goes xs next) walk_on h k = both_named xs (walk_on next) h (k xs next refl)
  then_named (Pauses xs) walk_on h k = h
  then_named (Ends xs) walk_on h k = h

  walk_named : (legs : ℕ) (place : Place) (items : ℕ) → ComesTo q p first_place items place → AllNamed (walk legs q p place)
  walk_named zero place items comes = tt
  walk_named (suc legs) place items comes =
      then_named (leg q p place) (walk legs q p) (leg_named place items comes)
      (λ xs next is. let further = comes_on comes is in walk_named legs next further.0 further.1)

pub known_named : KnownIsNamed
known_named q p = All-from_recursion (IsNamed q p) _ (walk_named q p (suc (suc (count p) - 1)) first_place 0 here)
