-- What is written for partitions, as the answers over the rows that they are of, and of the input that these were read of.
use Rattle.std.proofs.Common.{◌≡◌, ◌∙◌, ℕ, ◌<◌, ◌≤◌, List, [], ◌∷◌, ◌++◌, length, map, Option, Some, None, IfSome, refl, sym, ap, subst, arith}
use Rattle.std.proofs.lemmas.List.Elements.{recursion_from_All}
use Rattle.std.specs.Prelude.{All}
use Rattle.std.specs.List.{AllByRecursion, flat_map}
use Rattle.rp_value.specs.declared.value.Value.{Value}
use Rattle.rp_query.specs.declared.query.QueryData.{QueryData}
use Rattle.rp_query.specs.declared.item.Item.{Item}
use Rattle.rp_known.specs.declared.place.Place.{Place}
use Rattle.rp_known.specs.Known.{Known}
use Rattle.rp_known.specs.Walk.{Goes, known, leg, ComesTo, here, on}
use Rattle.rp_known.specs.WalkLaws.{LeadsOn, LegsLeadOn}
use Rattle.rp_io.proofs.Writes.{front_none}
use Rattle.rp_input.specs.CsvRows.{AreRowsOf}
use Rattle.rp_numbering.specs.Numbered.{AreOrdered}
use Rattle.rp_numbering.specs.Orders.{OrderExists}
use Rattle.rp_numbering.specs.Partitions.{Part, partitions}
use Rattle.rp_whole.specs.Answers.{AreAnswersOf, AreAnswersOver, AreAnswersWithin, Form, IsByLimit, IsShown, Shown, WritesFrontOf, WritesFrontOver, WritesFrontWithin, WritesOf, WritesOver, WritesWithin}
use Rattle.rp_whole.specs.Answers.{bytes_from, closed, halted_at, items_shown, part_bytes, part_stops, shown_bytes, shown_halted, shown_stops, turns_at}
use Rattle.rp_whole.specs.AnswerLines.{line_form}
use Rattle.rp_whole.specs.Limits.{HaltedByLimit, TakesAtMost, WholeUnlessHalted, WholeWithinLimit}
use Rattle.rp_whole.specs.Writing.{WritesParts, WritesPartsFront}
use Rattle.rp_whole.specs.declared.halted.Halted.{Halted}
use Rattle.rp_whole.specs.declared.stopped.Stopped.{Stopped}
use Rattle.rp_whole.proofs.InOrder.{all_ordered}
use Rattle.rp_whole.proofs.AllShown.{part_shown}

-- ---- over rows

module _ (limit : Option ℕ) (form : Form) (q : QueryData) (rows : List (List Value)) (parts : List Part) (are : parts ≡ partitions q.partition.items rows) (old : Option (List ℕ)) where
  answers : (shown : List Shown) → AreOrdered q.order.items parts (map part_shown shown) → All (IsShown limit q) shown
      → AreAnswersWithin limit form q rows (form.head q ++ flat_map (shown_bytes form q) shown) (flat_map (shown_stops form q) shown) (flat_map shown_halted shown)
  answers shown is are_shown = record {
    shown = shown;
    ordered = subst (λ all. AreOrdered q.order.items all (map part_shown shown)) are is;
    are_shown = are_shown;
    are = refl;
    stops = refl;
    halts = refl;
  }

  pub wrote_within : (new : Option (List ℕ)) (stopped : List Stopped) (halted : List Halted) → WritesParts limit form q parts old (form.head q) new [] stopped halted
      → WritesWithin limit form q rows old new stopped halted
  wrote_within new stopped halted wrote =
      let bytes = form.head q ++ flat_map (shown_bytes form q) wrote.0 in
      let told : AreAnswersWithin limit form q rows bytes stopped (flat_map shown_halted wrote.0) =
      subst (λ l. AreAnswersWithin limit form q rows bytes l (flat_map shown_halted wrote.0)) (sym wrote.4) (answers wrote.0 wrote.1 wrote.2) in
      (bytes, subst (AreAnswersWithin limit form q rows bytes stopped) (sym wrote.5) told, wrote.3)

  pub front_within : (new : Option (List ℕ)) → WritesPartsFront limit form q parts old (form.head q) new → WritesFrontWithin limit form q rows old new
  front_within new wrote =
      (form.head q ++ flat_map (shown_bytes form q) wrote.0, flat_map (shown_stops form q) wrote.0, flat_map shown_halted wrote.0, answers wrote.0 wrote.1 wrote.2, wrote.3)

-- nothing was written, and there are answers
pub none_within : OrderExists → (limit : Option ℕ) (form : Form) (q : QueryData) (rows : List (List Value)) (old : Option (List ℕ)) → WritesFrontWithin limit form q rows old old
none_within law limit form q rows old =
    let all = all_ordered law limit q (partitions q.partition.items rows) in
    let bytes = form.head q ++ flat_map (shown_bytes form q) all.0 in (
      bytes,
      flat_map (shown_stops form q) all.0,
      flat_map shown_halted all.0,
      answers limit form q rows (partitions q.partition.items rows) refl old all.0 all.1 all.2,
      front_none old bytes,
    )

-- ---- none is given up

none_halted : (shown : List Shown) → [] ≡ flat_map shown_halted shown → AllByRecursion (λ s. s.given_up ≡ None) shown
none_halted [] none = tt
none_halted (s ∷ shown) none = go s.given_up refl none (none_halted shown)
  where
    go : (given_up : Option ℕ) → s.given_up ≡ given_up → [] ≡ halted_at s.part.0 given_up ++ flat_map shown_halted shown
        → ([] ≡ flat_map shown_halted shown → AllByRecursion (λ s. s.given_up ≡ None) shown) → AllByRecursion (λ s. s.given_up ≡ None) (s ∷ shown)
    go None is none later = (is, later none)
    go (Some row) is none later = absurd cc

module _ (limit : Option ℕ) (form : Form) (q : QueryData) where
  all_bytes : (shown : List Shown) → AllByRecursion (IsShown limit q) shown → AllByRecursion (λ s. s.given_up ≡ None) shown
      → flat_map (shown_bytes form q) shown ≡ flat_map (part_bytes form q) (map part_shown shown)
  all_bytes [] are none = refl
  all_bytes (s ∷ shown) are none =
      ap (λ items. bytes_from form q s.part.0 1 items ++ flat_map (shown_bytes form q) shown) (are.0.all none.0)
      ∙ ap (λ t. part_bytes form q s.part ++ t) (all_bytes shown are.1 none.1)

  all_stops : (shown : List Shown) → AllByRecursion (IsShown limit q) shown → AllByRecursion (λ s. s.given_up ≡ None) shown
      → flat_map (shown_stops form q) shown ≡ flat_map (part_stops form q) (map part_shown shown)
  all_stops [] are none = refl
  all_stops (s ∷ shown) are none =
      ap (λ items. flat_map (form.stops s.part.0) items ++ flat_map (shown_stops form q) shown) (are.0.all none.0)
      ∙ ap (λ t. part_stops form q s.part ++ t) (all_stops shown are.1 none.1)

pub whole_unless_halted : WholeUnlessHalted
whole_unless_halted limit form q rows bytes stopped within =
    let are = recursion_from_All (IsShown limit q) within.shown within.are_shown in
    let none = none_halted within.shown within.halts in
    record {
      parts = map part_shown within.shown;
      ordered = within.ordered;
      are = within.are ∙ ap (λ t. form.head q ++ t) (all_bytes limit form q within.shown are none);
      stops = within.stops ∙ all_stops limit form q within.shown are none;
    }

-- without a limit it isn't given up
not_given_up : (q : QueryData) (rows : List (List Value)) (n : ℕ) (given_up : Option ℕ) → IfSome given_up (IsByLimit None q rows n) → given_up ≡ None
not_given_up q rows n None by = refl
not_given_up q rows n (Some row) by = absurd by

no_halted : (q : QueryData) (shown : List Shown) → AllByRecursion (IsShown None q) shown → flat_map shown_halted shown ≡ []
no_halted q [] are = refl
no_halted q (s ∷ shown) are = ap (λ given_up. halted_at s.part.0 given_up ++ flat_map shown_halted shown) (not_given_up q s.part.1 s.count s.given_up are.0.by_limit) ∙ no_halted q shown are.1

pub halted_by_limit : HaltedByLimit
halted_by_limit form q rows bytes stopped halted within =
    within.halts ∙ no_halted q within.shown (recursion_from_All (IsShown None q) within.shown within.are_shown)

-- under a limit that no start row exceeds
module _ (leads : LegsLeadOn) (most : ℕ) (q : QueryData) where
  comes_up : {p : Known} {d : ℕ} {from to : Place} → ComesTo q p from d to → from.start ≤ to.start
  comes_up here = omega arith
  comes_up {p = p} (on {place = place} {next = next} {xs = xs} is rest) =
      let lead : LeadsOn place (Goes xs next) = subst (LeadsOn place) is (leads q p place) in
      let later : place.start < next.start = lead.0 in
      omega (arith, later, comes_up rest)

  within_limit : (part : Part) → TakesAtMost most q part → (n : ℕ) (given_up : Option ℕ) → IfSome given_up (IsByLimit (Some most) q part.1 n) → given_up ≡ None
  within_limit part few n None by = refl
  within_limit part few n (Some row) by =
      let start : 1 ≤ by.place.start = comes_up by.comes in
      let most_there : turns_at q (length part.1) row ≤ most = few row (omega (arith, start, by.at_row)) by.in_rows in
      absurd (omega (arith, most_there, by.many))

  none_within_limit : (shown : List Shown) → AllByRecursion (IsShown (Some most) q) shown → AllByRecursion (λ s. TakesAtMost most q s.part) shown → flat_map shown_halted shown ≡ []
  none_within_limit [] are few = refl
  none_within_limit (s ∷ shown) are few =
      ap (λ given_up. halted_at s.part.0 given_up ++ flat_map shown_halted shown) (within_limit s.part few.0 s.count s.given_up are.0.by_limit)
      ∙ none_within_limit shown are.1 few.1

pub whole_within_limit : LegsLeadOn → WholeWithinLimit
whole_within_limit leads most form q rows bytes stopped halted within few =
    within.halts
    ∙ none_within_limit leads most q within.shown (recursion_from_All (IsShown (Some most) q) within.shown within.are_shown)
    (recursion_from_All (λ s. TakesAtMost most q s.part) within.shown few)

-- without a limit
module _ (form : Form) (q : QueryData) (rows : List (List Value)) where
  whole : (bytes : List ℕ) (stopped : List Stopped) (halted : List Halted) → AreAnswersWithin None form q rows bytes stopped halted → AreAnswersOver form q rows bytes stopped
  whole bytes stopped halted within =
      whole_unless_halted None form q rows bytes stopped (subst (AreAnswersWithin None form q rows bytes stopped) (halted_by_limit form q rows bytes stopped halted within) within)

  pub wrote_over : (old new : Option (List ℕ)) (stopped : List Stopped) (halted : List Halted) → WritesWithin None form q rows old new stopped halted → WritesOver form q rows old new stopped
  wrote_over old new stopped halted wrote = (wrote.0, whole wrote.0 stopped halted wrote.1, wrote.2)

  pub front_over : (old new : Option (List ℕ)) → WritesFrontWithin None form q rows old new → WritesFrontOver form q rows old new
  front_over old new wrote = (wrote.0, wrote.1, whole wrote.0 wrote.1 wrote.2 wrote.3, wrote.4)

-- ---- of an input

module _ (form : Form) (q : QueryData) (rows : List (List Value)) (input old new : Option (List ℕ)) (read : IfSome input (λ text. AreRowsOf q.table text rows)) where
  of_text : (text bytes : List ℕ) (stopped : List Stopped) → AreRowsOf q.table text rows → AreAnswersOver form q rows bytes stopped → AreAnswersOf form q text bytes stopped
  of_text text bytes stopped is over = record { rows = rows; read = is; over = over }

  pub wrote_of : (stopped : List Stopped) → WritesOver form q rows old new stopped → WritesOf form q input old new stopped
  wrote_of stopped wrote = go input read where
    go : (input : Option (List ℕ)) → IfSome input (λ text. AreRowsOf q.table text rows) → WritesOf form q input old new stopped
    go None read = tt
    go (Some text) read = (wrote.0, of_text text wrote.0 stopped read wrote.1, wrote.2)

  pub front_of : WritesFrontOver form q rows old new → WritesFrontOf form q input old new
  front_of wrote = go input read where
    go : (input : Option (List ℕ)) → IfSome input (λ text. AreRowsOf q.table text rows) → WritesFrontOf form q input old new
    go None read = tt
    go (Some text) read = (wrote.0, wrote.1, of_text text wrote.0 wrote.1 read wrote.2, wrote.3)

-- ---- lines tell of no skip fault

nothing : (key : List Value) (items : List Item) → flat_map (line_form.stops key) items ≡ []
nothing key [] = refl
nothing key (item ∷ items) = nothing key items

no_stops_shown : (q : QueryData) (shown : List Shown) → flat_map (shown_stops line_form q) shown ≡ []
no_stops_shown q [] = refl
no_stops_shown q (s ∷ shown) = ap (λ t. t ++ flat_map (shown_stops line_form q) shown) (nothing s.part.0 (items_shown q s)) ∙ no_stops_shown q shown

no_stops : (q : QueryData) (parts : List Part) → flat_map (part_stops line_form q) parts ≡ []
no_stops q [] = refl
no_stops q (part ∷ parts) = ap (λ t. t ++ flat_map (part_stops line_form q) parts) (nothing part.0 (known q (closed part.1))) ∙ no_stops q parts

module _ (q : QueryData) (old new : Option (List ℕ)) (stopped : List Stopped) where
  pub wrote_lines_within : (limit : Option ℕ) (rows : List (List Value)) (halted : List Halted)
      → WritesWithin limit line_form q rows old new stopped halted → WritesWithin limit line_form q rows old new [] halted
  wrote_lines_within limit rows halted wrote =
      (wrote.0, subst (λ l. AreAnswersWithin limit line_form q rows wrote.0 l halted) (wrote.1.stops ∙ no_stops_shown q wrote.1.shown) wrote.1, wrote.2)

  lines_over : (rows : List (List Value)) (bytes : List ℕ) → AreAnswersOver line_form q rows bytes stopped → AreAnswersOver line_form q rows bytes []
  lines_over rows bytes are = subst (AreAnswersOver line_form q rows bytes) (are.stops ∙ no_stops q are.parts) are

  pub wrote_lines_of : (input : Option (List ℕ)) → WritesOf line_form q input old new stopped → WritesOf line_form q input old new []
  wrote_lines_of None wrote = tt
  wrote_lines_of (Some text) wrote =
      (wrote.0, record { rows = wrote.1.rows; read = wrote.1.read; over = lines_over wrote.1.rows wrote.0 wrote.1.over }, wrote.2)
