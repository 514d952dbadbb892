-- What is kept of a total, depth by depth.
use Rattle.std.proofs.Common.{◌≡◌, ℕ, zero, suc, ◌+◌, ◌-◌, ◌≤◌, ◌<◌, ◌==◌, Bool, true, false, cond, List, [], ◌∷◌, ◌++◌, map, length, take, drop, get_or, set, Result, Ok, Err, Option, None, Some, refl, sym, ap, ◌∙◌, subst, arith, append-nil}
use Rattle.std.specs.Prelude.{slice_get, option_map, OnOk}
use Rattle.std.specs.List.{AllByRecursion}
use Rattle.std.specs.List.Sorted.{IsNonDecreasing}
use Rattle.std.proofs.lemmas.List.{take-append-le, take_all, take-take, length-append, length-take-le, get_or-append-add, get_or_append_left}
use Rattle.std.proofs.lemmas.Option.{slice_get-map}
use Rattle.std.proofs.lemmas.Bool.Decides.{nat_tests}
use Rattle.std.proofs.lemmas.List.Sums.{fold-append}
use Rattle.rp_words.specs.declared.word.Label.{Label}
use Rattle.rp_query.specs.Changes.{changed_by, change_of}
use Rattle.rp_query.specs.declared.plan.Function.{Function}
use Rattle.rp_query.specs.declared.plan.Function.TheVariants.{Listed, Rows as RowCount, Count, Sum, Least as Min, Greatest as Max}
use Rattle.rp_query.specs.declared.plan.Total.{Total}
use Rattle.rp_query.specs.declared.plan.Variables.{Variables}
use Rattle.rp_query.specs.Scopes.{includes}
use Rattle.rp_eval.specs.declared.tally.Tally.{Tally}
use Rattle.rp_eval.specs.Partition.{Rows}
use Rattle.rp_eval.specs.Mapped.{rows_of, listed}
use Rattle.rp_eval.specs.Aggregated.{aggregate}
use Rattle.rp_eval.specs.Tallies.{no_tally, with_row, tally_of, tally_value}
use Rattle.rp_eval.specs.Kept.{Kept, tally_over, tallies_to, tallied, kept_of, tally_at, places_to, cut_back, changed}
use Rattle.rp_eval.proofs.MappedRows.{one_if, rows_of-last, rows_few, rows_each, listed_each}
use Rattle.rp_eval.proofs.Below.{none_left, rows_left, rows_ascend, rows_from}
use Rattle.rp_eval.proofs.Tallied.{IsWithin, tally_within, tally_is}

-- ---- the tallies of all depths

pub length-tallies : (p : Rows) (t : Total) (start : ℕ) (ls : List Label) (n : ℕ) → length (tallies_to p t start ls n) ≡ n
length-tallies p t start ls zero = refl
length-tallies p t start ls (suc n) = length-append (tallies_to p t start ls n) (tally_over p t start (take (suc n) ls) ∷ []) ∙ omega (arith, length-tallies p t start ls n)

-- labels beyond the depth don't matter
pub tallies_within : (p : Rows) (t : Total) (start : ℕ) (ls : List Label) (m d : ℕ) → d ≤ m → tallies_to p t start (take m ls) d ≡ tallies_to p t start ls d
tallies_within p t start ls m zero le = refl
tallies_within p t start ls m (suc d) le =
    let one = tallies_within p t start ls m d (omega arith) in
    let two = take-take (suc d) m ls le in
    ap (λ z. z ++ tally_over p t start (take (suc d) (take m ls)) ∷ []) one ∙ ap (λ z. tallies_to p t start ls d ++ tally_over p t start z ∷ []) two

front : (p : Rows) (t : Total) (start : ℕ) (ls : List Label) (k d n : ℕ) → n ≡ d + k → take d (tallies_to p t start ls n) ≡ tallies_to p t start ls d
front p t start ls zero d n e =
    let same : n ≡ d = omega arith in
    ap (λ z. take d (tallies_to p t start ls z)) same ∙ take_all d (tallies_to p t start ls d) (omega (arith, length-tallies p t start ls d))
front p t start ls (suc k) d n e =
    let more : n ≡ suc (d + k) = omega arith in
    ap (λ z. take d (tallies_to p t start ls z)) more
    ∙ take-append-le d (tallies_to p t start ls (d + k)) (tally_over p t start (take (suc (d + k)) ls) ∷ []) (omega (arith, length-tallies p t start ls (d + k)))
    ∙ front p t start ls k d (d + k) refl

pub tallies_front : (p : Rows) (t : Total) (start : ℕ) (ls : List Label) (d : ℕ) → d ≤ length ls →
    take d (tallies_to p t start ls (length ls)) ≡ tallies_to p t start (take d ls) (length (take d ls))
tallies_front p t start ls d le =
    front p t start ls (length ls - d) d (length ls) (omega arith)
    ∙ sym (tallies_within p t start ls d d (omega arith))
    ∙ ap (tallies_to p t start (take d ls)) (sym (length-take-le d ls le))

got : (p : Rows) (t : Total) (start : ℕ) (ls : List Label) (k d n : ℕ) → n ≡ suc d + k → get_or (tallies_to p t start ls n) d no_tally ≡ tally_over p t start (take (suc d) ls)
got p t start ls zero d n e =
    let same : n ≡ suc d = omega arith in
    let xs = tallies_to p t start ls d in
    let at : d ≡ length xs + 0 = omega (arith, length-tallies p t start ls d) in
    ap (λ z. get_or (tallies_to p t start ls z) d no_tally) same
    ∙ ap (λ z. get_or (xs ++ tally_over p t start (take (suc d) ls) ∷ []) z no_tally) at
    ∙ get_or-append-add xs (tally_over p t start (take (suc d) ls) ∷ []) 0 no_tally
got p t start ls (suc k) d n e =
    let more : n ≡ suc (suc d + k) = omega arith in
    let xs = tallies_to p t start ls (suc d + k) in
    ap (λ z. get_or (tallies_to p t start ls z) d no_tally) more
    ∙ get_or_append_left xs (tally_over p t start (take (suc (suc d + k)) ls) ∷ []) no_tally d (omega (arith, length-tallies p t start ls (suc d + k)))
    ∙ got p t start ls k d (suc d + k) refl

above : (n : ℕ) → 0 < n → (n == 0) ≡ false
above n lt = grind (arith, nat_tests)

-- the tally at a depth is that of so many labels
pub tally_at_depth : (p : Rows) (t : Total) (start : ℕ) (ls : List Label) (n d : ℕ) → d ≤ n → tally_at (tallies_to p t start ls n) d ≡ tally_over p t start (take d ls)
tally_at_depth p t start ls n zero le = refl
tally_at_depth p t start ls n (suc d) le =
    let e : suc d - 1 ≡ d = omega arith in
    ap (λ b. cond b no_tally (get_or (tallies_to p t start ls n) (suc d - 1) no_tally)) (above (suc d) (omega arith))
    ∙ ap (λ z. get_or (tallies_to p t start ls n) z no_tally) e
    ∙ got p t start ls (n - suc d) d n (omega arith)

-- ---- by function

-- a total that lists no rows keeps its tallies
pub tallied_all : (f : Function) → ¬ (f ≡ Listed) → (ts : List Tally) → tallied f ts ≡ ts
tallied_all Listed h ts = absurd (h refl)
tallied_all RowCount h ts = refl
tallied_all (Count c) h ts = refl
tallied_all (Sum c) h ts = refl
tallied_all (Min c) h ts = refl
tallied_all (Max c) h ts = refl

tallied_front : (f : Function) (d : ℕ) (ts : List Tally) → take d (tallied f ts) ≡ tallied f (take d ts)
tallied_front Listed d ts = take_all d [] (omega arith)
tallied_front RowCount d ts = refl
tallied_front (Count c) d ts = refl
tallied_front (Sum c) d ts = refl
tallied_front (Min c) d ts = refl
tallied_front (Max c) d ts = refl

-- ---- one more label

one_more : (p : Rows) (f : Function) (rows : List ℕ) (row : ℕ) (b : Bool) → tally_of p f (rows ++ one_if b row) ≡ cond b (with_row p f (tally_of p f rows) row) (tally_of p f rows)
one_more p f rows row true = fold-append (with_row p f) no_tally rows (row ∷ [])
one_more p f rows row false = ap (tally_of p f) (append-nil rows)

pub tally_last : (p : Rows) (t : Total) (start : ℕ) (before : List Label) (l : Label) →
    tally_over p t start (before ++ l ∷ []) ≡ cond (includes t.variables l.var) (with_row p t.function (tally_over p t start before) (start + length before)) (tally_over p t start before)
tally_last p t start before l =
    ap (tally_of p t.function) (rows_of-last t.variables start before l)
    ∙ one_more p t.function (rows_of t.variables start before) (start + length before) (includes t.variables l.var)

pub tally_few : (p : Rows) (t : Total) (start : ℕ) (ls : List Label) → IsWithin (length ls) (tally_over p t start ls)
tally_few p t start ls =
    let w = tally_within p t.function (rows_of t.variables start ls) in
    let few = rows_few t.variables start ls in
    record { count = omega (arith, w.count); sum = omega (arith, w.sum) }

pub tallies_last : (p : Rows) (t : Total) (start : ℕ) (ls before : List Label) (l : Label) → ls ≡ before ++ l ∷ [] →
    tallies_to p t start before (length before) ++ tally_over p t start ls ∷ [] ≡ tallies_to p t start ls (length ls)
tallies_last p t start ls before l is =
    let n = length before in
    let size : length ls ≡ suc n = ap length is ∙ length-append before (l ∷ []) ∙ omega arith in
    let same : take n ls ≡ before = ap (take n) is ∙ take-append-le n before (l ∷ []) (omega arith) ∙ take_all n before (omega arith) in
    let all : take (suc n) ls ≡ ls = take_all (suc n) ls (omega arith) in
    ap (λ z. tallies_to p t start z n ++ tally_over p t start ls ∷ []) (sym same)
    ∙ ap (λ z. z ++ tally_over p t start ls ∷ []) (tallies_within p t start ls n n (omega arith))
    ∙ ap (λ z. tallies_to p t start ls n ++ tally_over p t start z ∷ []) (sym all)
    ∙ ap (tallies_to p t start ls) (sym size)

-- the last tally is that of the labels before
last_tally : (p : Rows) (t : Total) (start : ℕ) (ls before : List Label) (l : Label) (k : Kept) (old : Tally) → ls ≡ before ++ l ∷ [] → ¬ (t.function ≡ Listed) → k ≡ kept_of p start before t → old ≡ tally_at k.tallies (length ls - 1) → old ≡ tally_over p t start before
last_tally p t start ls before l k old is keeps kept old_is =
    let n : length ls - 1 ≡ length before = omega (arith, ap length is, length-append before (l ∷ [])) in
    old_is ∙ ap (λ (z : Kept). tally_at z.tallies (length ls - 1)) kept ∙ ap (λ z. tally_at z (length ls - 1)) (tallied_all t.function keeps (tallies_to p t start before (length before)))
    ∙ ap (tally_at (tallies_to p t start before (length before))) n
    ∙ tally_at_depth p t start before (length before) (length before) (omega arith) ∙ ap (tally_over p t start) (take_all (length before) before (omega arith))

pub last_few : (p : Rows) (t : Total) (start : ℕ) (ls before : List Label) (l : Label) (k : Kept) (old : Tally) → ls ≡ before ++ l ∷ [] → ¬ (t.function ≡ Listed) → k ≡ kept_of p start before t → old ≡ tally_at k.tallies (length ls - 1) → IsWithin (length before) old
last_few p t start ls before l k old is keeps kept old_is = subst (IsWithin (length before)) (sym (last_tally p t start ls before l k old is keeps kept old_is)) (tally_few p t start before)

-- ---- cut back

listed_left : (f : Function) (vs : Variables) (d : ℕ) (ls : List Label) → d ≤ length ls → places_to d (listed f (rows_of vs 0 ls)) ≡ listed f (rows_of vs 0 (take d ls))
listed_left Listed vs d ls le = rows_left vs d ls le
listed_left RowCount vs d ls le = refl
listed_left (Count c) vs d ls le = refl
listed_left (Sum c) vs d ls le = refl
listed_left (Min c) vs d ls le = refl
listed_left (Max c) vs d ls le = refl

pub kept_cut : (p : Rows) (t : Total) (start d : ℕ) (ls : List Label) → d ≤ length ls → cut_back d (kept_of p start ls t) ≡ kept_of p start (take d ls) t
kept_cut p t start d ls le =
    let tallies = tallied_front t.function d (tallies_to p t start ls (length ls)) ∙ ap (tallied t.function) (tallies_front p t start ls d le) in
    let places = listed_left t.function t.variables d ls le in
    cc (tallies, places)

-- those of fewer labels aren't cut
pub kept_uncut : (p : Rows) (t : Total) (start d : ℕ) (ls : List Label) → d ≡ length ls → cut_back d (kept_of p start ls t) ≡ kept_of p start ls t
kept_uncut p t start d ls is = kept_cut p t start d ls (omega arith) ∙ ap (λ z. kept_of p start z t) (take_all d ls (omega arith))

-- ---- of all totals of a plan

pub all_cut : (p : Rows) (plan : List Total) (start d : ℕ) (ls : List Label) → d ≤ length ls → map (cut_back d) (map (kept_of p start ls) plan) ≡ map (kept_of p start (take d ls)) plan
all_cut p [] start d ls le = refl
all_cut p (t ∷ plan) start d ls le = let one = kept_cut p t start d ls le in let more = all_cut p plan start d ls le in cc (one, more)

pub all_uncut : (p : Rows) (plan : List Total) (start d : ℕ) (ls : List Label) → d ≡ length ls → map (cut_back d) (map (kept_of p start ls) plan) ≡ map (kept_of p start ls) plan
all_uncut p [] start d ls is = refl
all_uncut p (t ∷ plan) start d ls is = let one = kept_uncut p t start d ls is in let more = all_uncut p plan start d ls is in cc (one, more)

-- some totals with one more label, and the others without
abbrev pub partly : Rows → ℕ → List Label → List Label → List Total → ℕ → List Kept
partly p start before ls plan n = map (kept_of p start ls) (take n plan) ++ map (kept_of p start before) (drop n plan)

-- cut back, all are without it
pub partly_cut : (p : Rows) (start : ℕ) (before ls : List Label) (l : Label) (plan : List Total) (n d : ℕ) → ls ≡ before ++ l ∷ [] → d ≡ length ls - 1 →
    map (cut_back d) (partly p start before ls plan n) ≡ map (kept_of p start before) plan
partly_cut p start before ls l plan n d is at = go plan n
  where
    size : length ls ≡ suc (length before)
    size = ap length is ∙ length-append before (l ∷ []) ∙ omega arith

    short : take d ls ≡ before
    short = ap (take d) is ∙ take-append-le d before (l ∷ []) (omega (arith, size)) ∙ take_all d before (omega (arith, size))

    cut_one : (t : Total) → cut_back d (kept_of p start ls t) ≡ kept_of p start before t
    cut_one t = kept_cut p t start d ls (omega (arith, size)) ∙ ap (λ z. kept_of p start z t) short

    go : (plan : List Total) (n : ℕ) → map (cut_back d) (partly p start before ls plan n) ≡ map (kept_of p start before) plan
    go plan zero = all_uncut p plan start d before (omega (arith, size))
    go [] (suc n) = refl
    go (t ∷ plan) (suc n) = let one = cut_one t in let more = go plan n in cc (one, more)

-- of no label
abbrev pub nothing : Kept
nothing = record { tallies = []; places = [] }

lists_none : (f : Function) → listed f [] ≡ []
lists_none Listed = refl
lists_none RowCount = refl
lists_none (Count c) = refl
lists_none (Sum c) = refl
lists_none (Min c) = refl
lists_none (Max c) = refl

none_tallied : (f : Function) → tallied f [] ≡ []
none_tallied Listed = refl
none_tallied RowCount = refl
none_tallied (Count c) = refl
none_tallied (Sum c) = refl
none_tallied (Min c) = refl
none_tallied (Max c) = refl

none_of : (p : Rows) (start : ℕ) (t : Total) → nothing ≡ kept_of p start [] t
none_of p start t = let tallies = none_tallied t.function in let places = lists_none t.function in cc (tallies, places)

none_kept : (k : Kept) → cut_back 0 k ≡ nothing
none_kept k = ap (λ places. record { tallies = []; places = places }) (none_left k.places)

pub all_none : (p : Rows) (start : ℕ) (plan : List Total) (ks : List Kept) → length ks ≡ length plan → map (cut_back 0) ks ≡ map (kept_of p start []) plan
all_none p start [] [] is = refl
all_none p start (t ∷ plan) [] is = absurd (omega arith)
all_none p start [] (k ∷ ks) is = absurd (omega arith)
all_none p start (t ∷ plan) (k ∷ ks) is = let one = none_kept k ∙ none_of p start t in let more = all_none p start plan ks (omega arith) in cc (one, more)

pub all_nothing : (p : Rows) (start : ℕ) (plan : List Total) → map (λ (t : Total). nothing) plan ≡ map (kept_of p start []) plan
all_nothing p start [] = refl
all_nothing p start (t ∷ plan) = let one = none_of p start t in let more = all_nothing p start plan in cc (one, more)

-- ---- what is entered

pub last_label : (ls before : List Label) (l d : Label) → ls ≡ before ++ l ∷ [] → get_or ls (length ls - 1) d ≡ l
last_label ls before l d is =
    let at : length ls - 1 ≡ length before + 0 = omega (arith, ap length is, length-append before (l ∷ [])) in
    ap (λ z. get_or z (length ls - 1) d) is ∙ ap (λ z. get_or (before ++ l ∷ []) z d) at ∙ get_or-append-add before (l ∷ []) 0 d

unlisted : (f : Function) → ¬ (f ≡ Listed) → (rows more : List ℕ) → listed f rows ≡ listed f more
unlisted Listed h rows more = absurd (h refl)
unlisted RowCount h rows more = refl
unlisted (Count c) h rows more = refl
unlisted (Sum c) h rows more = refl
unlisted (Min c) h rows more = refl
unlisted (Max c) h rows more = refl

-- a total that lists no rows has one more tally
pub entered_tally : (p : Rows) (t : Total) (start row : ℕ) (ls before : List Label) (l : Label) (k : Kept) (old new : Tally) (b : Bool) → ls ≡ before ++ l ∷ [] → ¬ (t.function ≡ Listed) → includes t.variables l.var ≡ b →
    k ≡ kept_of p start before t → old ≡ tally_at k.tallies (length ls - 1) → row ≡ start + (length ls - 1) → new ≡ cond b (with_row p t.function old row) old →
    record { tallies = k.tallies ++ new ∷ []; places = k.places } ≡ kept_of p start ls t
entered_tally p t start row ls before l k old new b is keeps mapped kept old_is row_is new_is =
    let f = t.function in
    let last = last_tally p t start ls before l k old is keeps kept old_is in
    let at : row ≡ start + length before = omega (arith, ap length is, length-append before (l ∷ [])) in
    let tally : new ≡ tally_over p t start ls =
    new_is ∙ ap (λ z. cond b (with_row p f z row) z) last ∙ ap (λ z. cond b (with_row p f (tally_over p t start before) z) (tally_over p t start before)) at
    ∙ sym (ap (λ z. cond z (with_row p f (tally_over p t start before) (start + length before)) (tally_over p t start before)) mapped)
    ∙ sym (tally_last p t start before l) ∙ ap (tally_over p t start) (sym is) in
    let all : k.tallies ++ new ∷ [] ≡ tallied f (tallies_to p t start ls (length ls)) =
    ap (λ (z : Kept). z.tallies ++ new ∷ []) kept ∙ ap (λ z. z ++ new ∷ []) (tallied_all f keeps (tallies_to p t start before (length before)))
    ∙ ap (λ z. tallies_to p t start before (length before) ++ z ∷ []) tally ∙ tallies_last p t start ls before l is
    ∙ sym (tallied_all f keeps (tallies_to p t start ls (length ls))) in
    let places : k.places ≡ listed f (rows_of t.variables 0 ls) = ap (λ (z : Kept). z.places) kept ∙ unlisted f keeps (rows_of t.variables 0 before) (rows_of t.variables 0 ls) in
    cc (all, places)

-- one that lists rows has one more place, if the label is its own
pub entered_place : (p : Rows) (t : Total) (start place : ℕ) (ls before : List Label) (l : Label) (k : Kept) (all_places : List ℕ) (b : Bool) → ls ≡ before ++ l ∷ [] → t.function ≡ Listed → includes t.variables l.var ≡ b →
    k ≡ kept_of p start before t → place ≡ length ls - 1 → all_places ≡ k.places ++ one_if b place →
    record { tallies = k.tallies; places = all_places } ≡ kept_of p start ls t
entered_place p t start place ls before l k all_places b is lists mapped kept place_is places_are =
    let at : place ≡ 0 + length before = omega (arith, ap length is, length-append before (l ∷ [])) in
    let none : k.tallies ≡ tallied t.function (tallies_to p t start ls (length ls)) =
    ap (λ (z : Kept). z.tallies) kept ∙ ap (λ f. tallied f (tallies_to p t start before (length before))) lists
    ∙ sym (ap (λ f. tallied f (tallies_to p t start ls (length ls))) lists) in
    let places : all_places ≡ listed t.function (rows_of t.variables 0 ls) =
    places_are ∙ ap (λ (z : Kept). z.places ++ one_if b place) kept ∙ ap (λ f. listed f (rows_of t.variables 0 before) ++ one_if b place) lists
    ∙ ap (λ z. rows_of t.variables 0 before ++ one_if b z) at
    ∙ sym (ap (λ z. rows_of t.variables 0 before ++ one_if z (0 + length before)) mapped)
    ∙ sym (rows_of-last t.variables 0 before l) ∙ ap (rows_of t.variables 0) (sym is)
    ∙ sym (ap (λ f. listed f (rows_of t.variables 0 ls)) lists) in
    cc (none, places)

-- what the row of a label changes of a total is what there is to keep of one label more
pub entered_next : (p : Rows) (start place : ℕ) (ls before : List Label) (l : Label) (t : Total) → ls ≡ before ++ l ∷ [] → place ≡ length ls - 1 →
    changed p start place (change_of l.var t) (kept_of p start before t) ≡ kept_of p start ls t
entered_next p start place ls before l t is at = go t.function (includes t.variables l.var) refl refl
  where
    k : Kept
    k = kept_of p start before t

    by : (f : Function) (b : Bool) → t.function ≡ f → includes t.variables l.var ≡ b → changed p start place (change_of l.var t) k ≡ changed p start place (changed_by f b) k
    by f b e own = ap (λ g. changed p start place (changed_by g (includes t.variables l.var)) k) e ∙ ap (λ z. changed p start place (changed_by f z) k) own

    with_tally : (f : Function) (b : Bool) → t.function ≡ f → includes t.variables l.var ≡ b → ¬ (f ≡ Listed) →
        record { tallies = k.tallies ++ cond b (with_row p f (tally_at k.tallies place) (start + place)) (tally_at k.tallies place) ∷ []; places = k.places } ≡ kept_of p start ls t
    with_tally f b e own keeps =
        entered_tally p t start (start + place) ls before l k (tally_at k.tallies place) (cond b (with_row p f (tally_at k.tallies place) (start + place)) (tally_at k.tallies place)) b is
        (λ h. keeps (sym e ∙ h)) own refl (ap (tally_at k.tallies) at) (ap (λ z. start + z) at)
        (ap (λ g. cond b (with_row p g (tally_at k.tallies place) (start + place)) (tally_at k.tallies place)) (sym e))

    go : (f : Function) (b : Bool) → t.function ≡ f → includes t.variables l.var ≡ b → changed p start place (change_of l.var t) k ≡ kept_of p start ls t
    go Listed true e own = by Listed true e own ∙ entered_place p t start place ls before l k (k.places ++ place ∷ []) true is e own refl at refl
    go Listed false e own = by Listed false e own ∙ entered_place p t start place ls before l k k.places false is e own refl at (sym (append-nil k.places))
    go RowCount true e own = by RowCount true e own ∙ with_tally RowCount true e own (λ h. cc)
    go RowCount false e own = by RowCount false e own ∙ with_tally RowCount false e own (λ h. cc)
    go (Count c) true e own = by (Count c) true e own ∙ with_tally (Count c) true e own (λ h. cc)
    go (Count c) false e own = by (Count c) false e own ∙ with_tally (Count c) false e own (λ h. cc)
    go (Sum c) true e own = by (Sum c) true e own ∙ with_tally (Sum c) true e own (λ h. cc)
    go (Sum c) false e own = by (Sum c) false e own ∙ with_tally (Sum c) false e own (λ h. cc)
    go (Min c) true e own = by (Min c) true e own ∙ with_tally (Min c) true e own (λ h. cc)
    go (Min c) false e own = by (Min c) false e own ∙ with_tally (Min c) false e own (λ h. cc)
    go (Max c) true e own = by (Max c) true e own ∙ with_tally (Max c) true e own (λ h. cc)
    go (Max c) false e own = by (Max c) false e own ∙ with_tally (Max c) false e own (λ h. cc)

few : (n d : ℕ) → IsWithin n (tally_at [] d)
few n d = go (d == 0)
  where
    go : (b : Bool) → IsWithin n (cond b no_tally no_tally)
    go true = record { count = omega arith; sum = omega arith }
    go false = record { count = omega arith; sum = omega arith }

-- there is room for it
pub entered_few : (p : Rows) (start place : ℕ) (ls before : List Label) (l : Label) (t : Total) → ls ≡ before ++ l ∷ [] → place ≡ length ls - 1 →
    IsWithin (length before) (tally_at (kept_of p start before t).tallies place)
entered_few p start place ls before l t is at = go t.function refl
  where
    k : Kept
    k = kept_of p start before t

    counted : (f : Function) → t.function ≡ f → ¬ (f ≡ Listed) → IsWithin (length before) (tally_at k.tallies place)
    counted f e keeps = last_few p t start ls before l k (tally_at k.tallies place) is (λ h. keeps (sym e ∙ h)) refl (ap (tally_at k.tallies) at)

    go : (f : Function) → t.function ≡ f → IsWithin (length before) (tally_at k.tallies place)
    go Listed e = subst (λ g. IsWithin (length before) (tally_at (tallied g (tallies_to p t start before (length before))) place)) (sym e) (few (length before) place)
    go RowCount e = counted RowCount e (λ h. cc)
    go (Count c) e = counted (Count c) e (λ h. cc)
    go (Sum c) e = counted (Sum c) e (λ h. cc)
    go (Min c) e = counted (Min c) e (λ h. cc)
    go (Max c) e = counted (Max c) e (λ h. cc)

-- ---- what is listed

listed_ascends : (f : Function) (vs : Variables) (ls : List Label) → IsNonDecreasing (listed f (rows_of vs 0 ls))
listed_ascends Listed vs ls = rows_ascend vs 0 ls
listed_ascends RowCount vs ls = rows_ascend vs 0 []
listed_ascends (Count c) vs ls = rows_ascend vs 0 []
listed_ascends (Sum c) vs ls = rows_ascend vs 0 []
listed_ascends (Min c) vs ls = rows_ascend vs 0 []
listed_ascends (Max c) vs ls = rows_ascend vs 0 []

pub places_ascend : (p : Rows) (t : Total) (start : ℕ) (ls : List Label) (k : Kept) → k ≡ kept_of p start ls t → IsNonDecreasing k.places
places_ascend p t start ls k is = subst (λ (z : Kept). IsNonDecreasing z.places) (sym is) (listed_ascends t.function t.variables ls)

each_listed : (P : ℕ → Type 0) (f : Function) (vs : Variables) (ls : List Label) → ((n : ℕ) → n < length ls → P n) → AllByRecursion P (listed f (rows_of vs 0 ls))
each_listed P f vs ls h = listed_each P f (rows_of vs 0 ls) (rows_each P vs 0 ls (λ n le lt. h n (omega arith)))

-- each place is one of the labels'
pub places_each : (P : ℕ → Type 0) (p : Rows) (t : Total) (start : ℕ) (ls : List Label) (k : Kept) → k ≡ kept_of p start ls t → ((n : ℕ) → n < length ls → P n) → AllByRecursion P k.places
places_each P p t start ls k is h = subst (λ (z : Kept). AllByRecursion P z.places) (sym is) (each_listed P t.function t.variables ls h)

-- the rows that are listed at a depth, by what is kept
listed_from : (f : Function) (vs : Variables) (start d : ℕ) (ls : List Label) → d ≤ length ls →
    map (λ place. start + place) (places_to d (listed f (rows_of vs 0 ls))) ≡ listed f (rows_of vs start (take d ls))
listed_from Listed vs start d ls le = ap (map (λ place. start + place)) (rows_left vs d ls le) ∙ rows_from vs start (take d ls)
listed_from RowCount vs start d ls le = refl
listed_from (Count c) vs start d ls le = refl
listed_from (Sum c) vs start d ls le = refl
listed_from (Min c) vs start d ls le = refl
listed_from (Max c) vs start d ls le = refl

pub listed_at : (p : Rows) (t : Total) (start d : ℕ) (ls : List Label) (k : Kept) → d ≤ length ls → k ≡ kept_of p start ls t →
    map (λ place. start + place) (places_to d k.places) ≡ listed t.function (rows_of t.variables start (take d ls))
listed_at p t start d ls k le is =
    ap (λ (z : Kept). map (λ place. start + place) (places_to d z.places)) is ∙ listed_from t.function t.variables start d ls le

-- ---- the value of an aggregate, by what is kept

value_kept : (p : Rows) (f : Function) (t : Total) (start d : ℕ) (ls : List Label) → d ≤ length ls →
    tally_value p f (tally_at (tallied f (tallies_to p t start ls (length ls))) d) ≡ tally_value p f (tally_over p t start (take d ls))
value_kept p Listed t start d ls le = refl
value_kept p RowCount t start d ls le = ap (tally_value p RowCount) (tally_at_depth p t start ls (length ls) d le)
value_kept p (Count c) t start d ls le = ap (tally_value p (Count c)) (tally_at_depth p t start ls (length ls) d le)
value_kept p (Sum c) t start d ls le = ap (tally_value p (Sum c)) (tally_at_depth p t start ls (length ls) d le)
value_kept p (Min c) t start d ls le = ap (tally_value p (Min c)) (tally_at_depth p t start ls (length ls) d le)
value_kept p (Max c) t start d ls le = ap (tally_value p (Max c)) (tally_at_depth p t start ls (length ls) d le)

pub value_at : (p : Rows) (t : Total) (start d : ℕ) (ls : List Label) (k : Kept) → d ≤ length ls → k ≡ kept_of p start ls t →
    tally_value p t.function (tally_at k.tallies d) ≡ aggregate p t.function (rows_of t.variables start (take d ls))
value_at p t start d ls k le is =
    ap (λ (z : Kept). tally_value p t.function (tally_at z.tallies d)) is
    ∙ value_kept p t.function t start d ls le
    ∙ tally_is p t.function (rows_of t.variables start (take d ls))

-- ---- by number

pub series_none : (p : Rows) (plan : List Total) (start : ℕ) (ls : List Label) (ks : List Kept) (number : ℕ) → ks ≡ map (kept_of p start ls) plan → None ≡ slice_get ks number → None ≡ slice_get plan number
series_none p plan start ls ks number is none = go (slice_get plan number) (none ∙ ap (λ z. slice_get z number) is ∙ slice_get-map (kept_of p start ls) plan number)
  where
    go : (o : Option Total) → None ≡ option_map (kept_of p start ls) o → None ≡ o
    go None e = refl
    go (Some t) e = cc

pub series_some : (p : Rows) (plan : List Total) (start : ℕ) (ls : List Label) (ks : List Kept) (number : ℕ) (t : Total) (k : Kept) → ks ≡ map (kept_of p start ls) plan → Some t ≡ slice_get plan number → Some k ≡ slice_get ks number →
    k ≡ kept_of p start ls t
series_some p plan start ls ks number t k is total some =
    let e : Some k ≡ Some (kept_of p start ls t) =
    some ∙ ap (λ z. slice_get z number) is ∙ slice_get-map (kept_of p start ls) plan number ∙ ap (option_map (kept_of p start ls)) (sym total) in
    cc

-- what is kept under a number is that of a total
pub record SeriesOf (p : Rows) (plan : List Total) (start : ℕ) (ls : List Label) (number : ℕ) (k : Kept) : Type 0 where
  pub total : Total
  pub there : Some total ≡ slice_get plan number
  pub is : k ≡ kept_of p start ls total

pub series_of : (p : Rows) (plan : List Total) (start : ℕ) (ls : List Label) (ks : List Kept) (number : ℕ) (k : Kept) → ks ≡ map (kept_of p start ls) plan → Some k ≡ slice_get ks number → SeriesOf p plan start ls number k
series_of p plan start ls ks number k is some = go (slice_get plan number) refl
  where
    go : (o : Option Total) → o ≡ slice_get plan number → SeriesOf p plan start ls number k
    go None e = let none : Some k ≡ None = some ∙ ap (λ z. slice_get z number) is ∙ slice_get-map (kept_of p start ls) plan number ∙ ap (option_map (kept_of p start ls)) (sym e) in cc
    go (Some t) e = record { total = t; there = e; is = series_some p plan start ls ks number t k is e some }

-- ---- a list that is gone through

-- an item of a list that isn't empty
pub item_of : {A : Type 0} (xs : List A) (n : ℕ) → n < length xs → A
item_of [] n lt = absurd (omega arith)
item_of (x ∷ xs) n lt = x

pub same_get : {A : Type 0} (xs : List A) (n : ℕ) (a b : A) → n < length xs → get_or xs n b ≡ get_or xs n a
same_get [] n a b lt = absurd (omega arith)
same_get (x ∷ xs) zero a b lt = refl
same_get (x ∷ xs) (suc n) a b lt = same_get xs n a b (omega arith)

pub get_mapped : {A B : Type 0} (f : A → B) (xs : List A) (n : ℕ) (a : A) (b : B) → n < length xs → get_or (map f xs) n b ≡ f (get_or xs n a)
get_mapped f [] n a b lt = absurd (omega arith)
get_mapped f (x ∷ xs) zero a b lt = refl
get_mapped f (x ∷ xs) (suc n) a b lt = get_mapped f xs n a b (omega arith)

pub mixed_set : {A : Type 0} (f g : A → Kept) (xs : List A) (n m : ℕ) (a : A) (y : Kept) (ks : List Kept) → n < length xs → m ≡ n + 1 → ks ≡ map f (take n xs) ++ map g (drop n xs) → y ≡ f (get_or xs n a) →
    set ks n y ≡ map f (take m xs) ++ map g (drop m xs)
mixed_set {A} f g xs n m a y ks lt next is here =
    let e : m ≡ suc n = omega arith in
    ap (λ z. set z n y) is ∙ go xs n lt here ∙ ap (λ z. map f (take z xs) ++ map g (drop z xs)) (sym e)
  where
    go : (xs : List A) (n : ℕ) → n < length xs → y ≡ f (get_or xs n a) → set (map f (take n xs) ++ map g (drop n xs)) n y ≡ map f (take (suc n) xs) ++ map g (drop (suc n) xs)
    go [] n lt here = absurd (omega arith)
    go (x ∷ xs) zero lt here = ap (λ z. z ∷ map g xs) here
    go (x ∷ xs) (suc n) lt here = ap (λ z. f x ∷ z) (go xs n (omega arith) here)

pub mixed_get : {A : Type 0} (f g : A → Kept) (xs : List A) (n : ℕ) (a : A) (y : Kept) (ks : List Kept) → n < length xs → ks ≡ map f (take n xs) ++ map g (drop n xs) → y ≡ get_or ks n y → y ≡ g (get_or xs n a)
mixed_get {A} f g xs n a y ks lt is here = here ∙ ap (λ z. get_or z n y) is ∙ go xs n lt
  where
    go : (xs : List A) (n : ℕ) → n < length xs → get_or (map f (take n xs) ++ map g (drop n xs)) n y ≡ g (get_or xs n a)
    go [] n lt = absurd (omega arith)
    go (x ∷ xs) zero lt = refl
    go (x ∷ xs) (suc n) lt = go xs n (omega arith)

pub set_same : (ks : List Kept) (n : ℕ) (k : Kept) → k ≡ get_or ks n k → set ks n k ≡ ks
set_same [] n k is = refl
set_same (x ∷ ks) zero k is = ap (λ z. z ∷ ks) is
set_same (x ∷ ks) (suc n) k is = ap (λ z. x ∷ z) (set_same ks n k is)

pub unchanged : (ks : List Kept) → ks ≡ map (λ (k : Kept). k) ks
unchanged [] = refl
unchanged (k ∷ ks) = ap (λ z. k ∷ z) (unchanged ks)

-- the labels but for the last
pub all_but_last : (ls before : List Label) (l : Label) → ls ≡ before ++ l ∷ [] → take (length ls - 1) ls ≡ before
all_but_last ls before l is =
    let n : length ls - 1 ≡ length before = omega (arith, ap length is, length-append before (l ∷ [])) in
    ap (λ z. take z ls) n ∙ ap (take (length before)) is ∙ take-append-le (length before) before (l ∷ []) (omega arith) ∙ take_all (length before) before (omega arith)

pub on_ok : {T E : Type 0} (P Q : Type 0) (r : Result T E) → (P → Q) → OnOk r P → OnOk r Q
on_ok P Q (Ok x) f h = f h
on_ok P Q (Err e) f h = h
