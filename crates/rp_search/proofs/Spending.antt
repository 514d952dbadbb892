-- What turns spend of the work that is left, and why no place is come to again at its row while it is marked.
use Rattle.std.specs.List.{AllByRecursion}
use Rattle.std.proofs.Common.{◌≡◌, ℕ, suc, ◌+◌, ◌<◌, ◌≤◌, Bool, true, false, List, [], ◌∷◌, length, Option, Some, None, ◌⊎◌, inl, inr, Result, Ok, Err, IfOk, OnOk, OnErr, refl, sym, ap, ◌∙◌, subst, arith}
use Rattle.std.specs.Prelude.{IfSome}
use Rattle.std.specs.declared.alloc.AllocError.{AllocError}
use Rattle.std.proofs.lemmas.List.{length-take}
use Rattle.rp_words.specs.declared.word.End.{End}
use Rattle.rp_words.specs.declared.word.Label.{Label}
use Rattle.rp_words.specs.Numbers.{most_u64}
use Rattle.rp_words.specs.declared.word.Seen.{Seen}
use Rattle.rp_words.specs.declared.word.Seen.TheVariants.{True, NotTrue}
use Rattle.rp_words.specs.Later.{IsLater}
use Rattle.rp_pattern.specs.declared.choices.Choices.{Choices}
use Rattle.rp_pattern.specs.declared.choices.Taken.{Taken}
use Rattle.rp_pattern.specs.declared.choices.Taken.TheVariants.{Row, Split, Full as FullTaken, Open as OpenTaken, Nothing}
use Rattle.rp_pattern.specs.Choices.{start_of, entered, before_top, height, kept, costs, top_weight, turns_left, turns_left_below, turns_left_after, AreFirstOf, DividesAtRow, IsSplit, KeepsUnder, TakenAs}
use Rattle.rp_pattern.specs.Ways.{Kept, IsNumbered, all_weight, kept_place_left, kept_places, kept_weight}
use Rattle.rp_search.specs.declared.memo.Mark.{Mark}
use Rattle.rp_search.specs.declared.memo.Memo.{Memo}
use Rattle.rp_search.specs.declared.search.Outcome.{Outcome}
use Rattle.rp_search.specs.declared.table.Table.{Table}
use Rattle.rp_search.specs.Asked.{Asked, AskedExtend, rows_from}
use Rattle.rp_search.specs.Memo.{AreMarksUnder, IsMarkOfTop, RemembersUnder, failed_until, marked_on, lessened}
use Rattle.rp_search.specs.Table.{until_of}
use Rattle.rp_search.specs.Work.{KeepsAll, NoneOrEver, NotesAll, IsFresh, SettledCosts, SettledEver, Sinks, Spent, TakesLess, TakeLess, added_by, fresh_work, rows_ahead, unmarked}
use Rattle.rp_search.proofs.ChoiceSteps.{later_still, now_later}
use Rattle.rp_search.proofs.Fresh.{fresh_equal, fresh_set}

-- ---- no more turns are left

pub taken_sinks : (old new : Choices) (n : ℕ) (e : End) (t : Taken) → kept new ≡ kept old → KeepsUnder old new → TakenAs old new n e t → Sinks old new n e
taken_sinks old new n e Row plan under t = record { plan = plan; under = under; turns = λ n' e' h. omega (arith, t.same.turns n' e' h) }
taken_sinks old new n e Split plan under t = record { plan = plan; under = under; turns = λ n' e' h. omega (arith, t.less n' e' h) }
taken_sinks old new n e FullTaken plan under t = record { plan = plan; under = under; turns = λ n' e' h. omega (arith, t.same.turns n' e' h) }
taken_sinks old new n e OpenTaken plan under t = record { plan = plan; under = under; turns = λ n' e' h. omega (arith, t.same.turns n' e' h) }
taken_sinks old new n e Nothing plan under t = record { plan = plan; under = under; turns = λ n' e' h. omega (arith, t.same.turns n' e' h) }

pub gave_sinks : (old new : Choices) (n : ℕ) (e : End) → kept new ≡ kept old → KeepsUnder old new → ((n' : ℕ) (e' : End) → turns_left new n' e' ≡ turns_left_below old n' e') →
    ((n' : ℕ) (e' : End) → IsLater n e n' e' → turns_left_below old n' e' ≤ turns_left old n' e') → Sinks old new n e
gave_sinks old new n e plan under left fewer = record { plan = plan; under = under; turns = λ n' e' h. omega (arith, left n' e', fewer n' e' h) }

-- where the preferred choice maps a row
pub row_fewer : (c : Choices) (n : ℕ) (e : End) → DividesAtRow c n e → (n' : ℕ) (e' : End) → IsLater n e n' e' → turns_left_below c n' e' ≤ turns_left c n' e'
row_fewer c n e d n' e' h = omega (arith, d.turns n' e' h)

pub admitted_sinks : (old new : Choices) (n : ℕ) (e : End) → kept new ≡ kept old → KeepsUnder old new →
    ((n' : ℕ) (e' : End) → turns_left new n' e' ≡ turns_left_after old n' e' + turns_left_below old n' e') → DividesAtRow old n e → Sinks old new n e
admitted_sinks old new n e plan under left d = record { plan = plan; under = under; turns = λ n' e' h. omega (arith, left n' e', d.turns n' e' h) }

pub same_sinks : (old new : Choices) (n : ℕ) (e : End) → new ≡ old → Sinks old new n e
same_sinks old new n e same =
    subst (λ c. Sinks old c n e) (sym same) (record { plan = refl; under = λ h n' e' lt. refl; turns = λ n' e' h. omega arith })

-- ---- marks are left in time

abbrev pub AreHigh : ℕ → List Mark → Type 0
AreHigh bound marks = AllByRecursion (λ m. m.height < bound) marks

marks_high : (top bound : ℕ) (c : Choices) (asked : Asked) (Such : ℕ → Type 0) (marks : List Mark) → bound ≤ top → AreMarksUnder bound c asked Such marks → AreHigh top marks
marks_high top bound c asked Such [] le h = tt
marks_high top bound c asked Such (mark ∷ marks) le h =
    (omega (arith, h.0, le), marks_high top (suc mark.height) c asked (λ u. Such u × (u ≤ mark.until)) marks (omega (arith, h.0, le)) h.2)

pub remembered_high : (bound : ℕ) (Such : ℕ → Type 0) (memo : Memo) (c : Choices) (asked : Asked) → RemembersUnder bound Such memo c asked → AreHigh bound memo.marks
remembered_high bound Such memo c asked r = marks_high bound bound c asked Such memo.marks (omega arith) r.marks

-- no mark is below the ground
pub none_high : (bound : ℕ) (marks : List Mark) → bound ≡ 0 → AreHigh bound marks → marks ≡ []
none_high bound [] none h = refl
none_high bound (mark ∷ marks) none h = absurd (omega (arith, none, h.0))

pub less_again : (c c' : Choices) (asked : Asked) (marks : List Mark) → Sinks c c' asked.known asked.end → AreHigh (height c) marks → TakeLess c asked marks → TakeLess c' asked marks
less_again c c' asked [] s high h = tt
less_again c c' asked (mark ∷ marks) s high h = (
  λ n e later. omega (arith, h.0 n e later, s.turns n e later, s.under mark.height n e high.0, ap (λ k. kept_place_left k mark.place n e mark.row) s.plan),
  less_again c c' asked marks s high.1 h.1,
)

-- the mark of a choice that is split
pub mark_less : (old new : Choices) (asked : Asked) (mark : Mark) → IsMarkOfTop old mark → IsSplit old new asked.known asked.end → kept new ≡ kept old → KeepsUnder old new → TakesLess new asked mark
mark_less old new asked mark m split plan under n e later =
    let lt : mark.height < height old = omega (arith, m.top) in
    omega (
      arith,
      split.less n e later,
      m.place.takes n e,
      m.place.under_top mark.height n e m.top,
      under mark.height n e lt,
      ap (kept_place_left (kept old) mark.place n e) m.row,
      ap (λ k. kept_place_left k mark.place n e mark.row) plan,
    )

pub set_less : (old new : Choices) (asked : Asked) (mark : Option Mark) (marks : List Mark) → IfSome mark (IsMarkOfTop old) → IsSplit old new asked.known asked.end → Sinks old new asked.known asked.end →
    AreHigh (height old) marks → TakeLess old asked marks → TakeLess new asked (marked_on mark marks)
set_less old new asked None marks m split s high h = less_again old new asked marks s high h
set_less old new asked (Some mark) marks m split s high h = (mark_less old new asked mark m split s.plan s.under, less_again old new asked marks s high h)

-- where memory is refused there is no further mark
pub set_either : (old new : Choices) (asked : Asked) (mark : Option Mark) (marks marks' : List Mark) (r : Result Unit AllocError) → OnOk r (marks' ≡ marked_on mark marks) → OnErr r (marks' ≡ marks) →
    IfSome mark (IsMarkOfTop old) → IsSplit old new asked.known asked.end → Sinks old new asked.known asked.end → AreHigh (height old) marks → TakeLess old asked marks → TakeLess new asked marks'
set_either old new asked mark marks marks' (Ok x) set refused m split s high h = subst (TakeLess new asked) (sym set) (set_less old new asked mark marks m split s high h)
set_either old new asked mark marks marks' (Err x) set refused m split s high h = subst (TakeLess new asked) (sym refused) (less_again old new asked marks s high h)

-- The place of the preferred choice has no mark at its row.
pub none_again : (c : Choices) (asked : Asked) (marks : List Mark) (top : Mark) → IsMarkOfTop c top → AreHigh (height c) marks → TakeLess c asked marks →
    AllByRecursion (λ mark. (mark.place ≡ top.place) × (mark.row ≡ top.row) → ⊥) marks
none_again c asked [] top m high h = tt
none_again c asked (mark ∷ marks) top m high h =
    let n = asked.known in
    let e = asked.end in (
      λ same. absurd (omega (
        arith,
        h.0 n e (now_later n e),
        m.place.takes n e,
        m.place.under mark.height n e high.0,
        ap (kept_place_left (kept c) top.place n e) m.row,
        ap (λ q. kept_place_left (kept c) q n e mark.row) same.0,
        ap (kept_place_left (kept c) top.place n e) same.1,
      )),
      none_again c asked marks top m high.1 h.1,
    )

-- what is asked goes on
pub less_later : (c : Choices) (old new : Asked) (marks : List Mark) → AskedExtend (start_of c) old new → TakeLess c old marks → TakeLess c new marks
less_later c old new [] x h = tt
less_later c old new (mark ∷ marks) x h = (λ n e later. h.0 n e (later_still old.known new.known n old.end new.end e x.later later), less_later c old new marks x h.1)

-- a mark that notes less
pub lessened_less : (c : Choices) (asked : Asked) (until : ℕ) (marks : List Mark) → TakeLess c asked marks → TakeLess c asked (lessened until marks)
lessened_less c asked until [] h = tt
lessened_less c asked until (mark ∷ marks) h = (λ n e later. h.0 n e later, h.1)

pub same_less : (c : Choices) (asked : Asked) (marks marks' : List Mark) → marks' ≡ marks → TakeLess c asked marks → TakeLess c asked marks'
same_less c asked marks marks' same h = subst (TakeLess c asked) (sym same) h

-- ---- what is noted

pub passes : true ≡ false → ⊥
passes h = absurd cc

pub notes_then : (k : Kept) (from : ℕ) (old mid new : Memo) → NotesAll k from old mid → NotesAll k from mid new → NotesAll k from old new
notes_then k from old mid new h g all =
    let second = g all in
    let first = h second.0 in
    (first.0, λ rows. omega (arith, first.1 rows, second.1 rows))

pub notes_equal : (k : Kept) (from : ℕ) (old new : Memo) → new.marks ≡ old.marks → new.failed ≡ old.failed → (KeepsAll new → KeepsAll old) → NotesAll k from old new
notes_equal k from old new marks failed keeps all = (keeps all, λ rows. fresh_equal k old new from rows marks failed)

-- ---- what a turn spends

fresh_at : (old new : Choices) (memo : Memo) (asked : Asked) → kept new ≡ kept old → start_of new ≡ start_of old →
    fresh_work (kept new) memo (start_of new) (rows_ahead new asked) ≡ fresh_work (kept old) memo (start_of old) (rows_ahead old asked)
fresh_at old new memo asked plan start =
    ap (λ k. fresh_work k memo (start_of new) (rows_ahead new asked)) plan
    ∙ ap (λ s. fresh_work (kept old) memo s (suc (rows_from s asked.known))) start

pub spends : (old new : Choices) (memo memo' : Memo) (asked : Asked) (taken added seen : ℕ) → kept new ≡ kept old → start_of new ≡ start_of old →
    (KeepsAll memo' → KeepsAll memo × (fresh_work (kept new) memo' (start_of new) (rows_ahead new asked) + seen ≤ fresh_work (kept new) memo (start_of new) (rows_ahead new asked))) →
    (IsNumbered (kept old) → costs new + taken ≤ costs old + added + seen) → Spent taken added old new memo memo' asked
spends old new memo memo' asked taken added seen plan start notes cost = record {
  plan = plan;
  keeps = λ all. (notes all).0;
  less = λ all numbered. omega (arith, (notes all).1, cost numbered, fresh_at old new memo asked plan start);
}

-- the choices take less, and no more is fresh
pub notes_spends : (old new : Choices) (memo memo' : Memo) (asked : Asked) (taken added : ℕ) → kept new ≡ kept old → start_of new ≡ start_of old →
    NotesAll (kept new) (start_of new) memo memo' → (IsNumbered (kept old) → costs new + taken ≤ costs old + added) → Spent taken added old new memo memo' asked
notes_spends old new memo memo' asked taken added plan start notes cost =
    spends old new memo memo' asked taken added 0 plan start (λ all. ((notes all).0, omega (arith, (notes all).1 (rows_ahead new asked)))) (λ numbered. omega (arith, cost numbered))

-- what is remembered stays
pub same_spends : (old new : Choices) (memo : Memo) (asked : Asked) (added : ℕ) → kept new ≡ kept old → start_of new ≡ start_of old → costs new ≤ costs old → Spent 0 added old new memo memo asked
same_spends old new memo asked added plan start cost =
    notes_spends old new memo memo asked 0 added plan start (λ all. (all, λ rows. omega arith)) (λ numbered. omega (arith, cost))

pub spent_more : (taken added more : ℕ) (old new : Choices) (memo memo' : Memo) (asked : Asked) → (IsNumbered (kept old) → added ≤ more) → Spent taken added old new memo memo' asked → Spent taken more old new memo memo' asked
spent_more taken added more old new memo memo' asked le s =
    record { plan = s.plan; keeps = s.keeps; less = λ all numbered. omega (arith, s.less all numbered, le numbered) }

-- the choices took no more before
pub spent_after : (taken added : ℕ) (old mid new : Choices) (memo memo' : Memo) (asked : Asked) → kept mid ≡ kept old → start_of mid ≡ start_of old → costs mid ≤ costs old →
    Spent taken added mid new memo memo' asked → Spent taken added old new memo memo' asked
spent_after taken added old mid new memo memo' asked plan start cost s = record {
  plan = s.plan ∙ plan;
  keeps = s.keeps;
  less = λ all numbered. omega (arith, s.less all (subst IsNumbered (sym plan) numbered), cost, fresh_at old mid memo asked plan start);
}

pub spent_then : (taken added taken' added' : ℕ) (old mid new : Choices) (memo memo' memo'' : Memo) (asked : Asked) → Spent taken added old mid memo memo' asked → Spent taken' added' mid new memo' memo'' asked →
    Spent (taken + taken') (added + added') old new memo memo'' asked
spent_then taken added taken' added' old mid new memo memo' memo'' asked s t = record {
  plan = t.plan ∙ s.plan;
  keeps = λ all. s.keeps (t.keeps all);
  less = λ all numbered. omega (arith, s.less (t.keeps all) numbered, t.less all (subst IsNumbered (sym s.plan) numbered));
}

-- ---- a choice is split

-- a front is no longer
front_long : (ls ms : List Label) → AreFirstOf ls ms → length ls ≤ length ms
front_long ls ms f = omega (arith, ap length f.1, length-take f.0 ms)

pub split_spends : (old new : Choices) (memo set memo' : Memo) (asked : Asked) (mark : Option Mark) → IfSome mark (IsMarkOfTop old) → IsFresh memo mark → AreHigh (height old) memo.marks → TakeLess old asked memo.marks →
    length (entered old) ≤ rows_from (start_of old) asked.known → kept new ≡ kept old → start_of new ≡ start_of old → costs new < costs old + top_weight old →
    (KeepsAll set → KeepsAll memo × (set.marks ≡ marked_on mark memo.marks)) → set.failed ≡ memo.failed → NotesAll (kept new) (start_of new) set memo' →
    Spent 1 (unmarked mark old) old new memo memo' asked
split_spends old new memo set memo' asked None m fresh high less known plan start cost sets failed notes =
    spends old new memo memo' asked 1 (top_weight old) 0 plan start
    (λ all.
    let n = notes all in
    let s = sets n.0 in
    (s.0, omega (arith, n.1 (rows_ahead new asked), fresh_equal (kept new) memo set (start_of new) (rows_ahead new asked) s.1 failed)))
    (λ numbered. omega (arith, cost))
split_spends old new memo set memo' asked (Some mark) m fresh high less known plan start cost sets failed notes =
    let place : mark.place < kept_places (kept new) = subst (λ k. mark.place < kept_places k) (sym plan) m.place.there in
    let low : start_of new ≤ mark.row = omega (arith, m.row, start) in
    let up : mark.row < start_of new + rows_ahead new asked = omega (arith, m.row, start, front_long (before_top old) (entered old) m.place.cut, known, ap (λ s. rows_from s asked.known) start) in
    spends old new memo memo' asked 1 0 (kept_weight (kept new) mark.place) plan start
    (λ all.
    let n = notes all in
    let s = sets n.0 in
    (s.0, omega (arith, n.1 (rows_ahead new asked), fresh_set (kept new) memo set mark (start_of new) (rows_ahead new asked) s.1 failed place low up fresh (none_again old asked memo.marks mark m high less))))
    (λ numbered. omega (arith, cost, m.place.weighs, ap (λ k. kept_weight k mark.place) plan))

-- ---- what turns add

pub adds_most : (remembers : Bool) (mark : Option Mark) (c : Choices) → (remembers ≡ true → mark ≡ None → top_weight c ≡ 0) → top_weight c ≤ all_weight (kept c) → unmarked mark c ≤ added_by remembers c
adds_most true None c none most = omega (arith, none refl refl)
adds_most true (Some m) c none most = omega arith
adds_most false None c none most = most
adds_most false (Some m) c none most = omega arith

-- any answer
pub any_ok : (P : Outcome → Type 0) (r : Result Outcome AllocError) → ((o : Outcome) → P o) → IfOk r P
any_ok P (Ok o) h = h o
any_ok P (Err x) h = tt

pub on_any : (P : Type 0) (r : Result Unit AllocError) → P → OnOk r P
on_any P (Ok o) h = h
on_any P (Err x) h = tt

-- ---- where marks are left after a step

-- what is asked is the same, by another name
pub noted_less : (old new : Choices) (asked asked' : Asked) (marks mid after : List Mark) → asked' ≡ asked → mid ≡ marks → Sinks old new asked.known asked.end → AreHigh (height old) marks →
    (TakeLess new asked' mid → TakeLess new asked' after) → TakeLess old asked marks → TakeLess new asked after
noted_less old new asked asked' marks mid after same is s high f h =
    subst (λ a. TakeLess new a after) same
    (f (subst (λ a. TakeLess new a mid) (sym same) (subst (TakeLess new asked) (sym is) (less_again old new asked marks s high h))))

pub sinks_asked : (old new : Choices) (asked asked' : Asked) → asked' ≡ asked → Sinks old new asked'.known asked'.end → Sinks old new asked.known asked.end
sinks_asked old new asked asked' same s = subst (λ a. Sinks old new a.known a.end) same s

-- a row that is settled
pub settled_cost : (old new : Choices) (seen : Seen) → (seen ≡ True) ⊎ (seen ≡ NotTrue) → SettledCosts old new seen → IsNumbered (kept old) → costs new < costs old
settled_cost old new seen (inl e) h numbered = (subst (SettledCosts old new) e h) numbered
settled_cost old new seen (inr e) h numbered = (subst (SettledCosts old new) e h) numbered

settled_for_ever : (until : ℕ) (seen : Seen) → (seen ≡ True) ⊎ (seen ≡ NotTrue) → SettledEver until seen → most_u64 ≤ until
settled_for_ever until seen (inl is) ever = subst (SettledEver until) is ever
settled_for_ever until seen (inr is) ever = subst (SettledEver until) is ever

-- where something is marked, start rows are looked at, so that a row that is settled is settled for ever
pub settled_ever : (marks marks' : List Mark) (looks until : ℕ) (seen : Seen) → marks' ≡ marks → (seen ≡ True) ⊎ (seen ≡ NotTrue) → (marks ≡ []) ⊎ (0 < looks) → (0 < looks → SettledEver until seen) → NoneOrEver marks' until
settled_ever marks marks' looks until seen same is (inl none) ever = inl (same ∙ none)
settled_ever marks marks' looks until seen same is (inr some) ever = inr (settled_for_ever until seen is (ever some))

-- a choice was split, and its mark set, or not
pub set_noted : (old new : Choices) (asked asked' : Asked) (mark : Option Mark) (marks set after : List Mark) (r : Result Unit AllocError) → OnOk r (set ≡ marked_on mark marks) → OnErr r (set ≡ marks) →
    IfSome mark (IsMarkOfTop old) → IsSplit old new asked.known asked.end → Sinks old new asked.known asked.end → AreHigh (height old) marks → TakeLess old asked marks → asked' ≡ asked →
    (TakeLess new asked' set → TakeLess new asked' after) → TakeLess new asked after
set_noted old new asked asked' mark marks set after r is refused m split s high h same f =
    subst (λ a. TakeLess new a after) same (f (subst (λ a. TakeLess new a set) (sym same) (set_either old new asked mark marks set r is refused m split s high h)))

-- what hasn't failed for a start row hasn't failed for ever
pub fresh_top : (memo : Memo) (mark : Option Mark) (until start : ℕ) → until ≡ failed_until memo mark → until ≤ start → start < most_u64 → IsFresh memo mark
fresh_top memo None until start is le lt = tt
fresh_top memo (Some m) until start is le lt = omega (arith, is, le, lt)

pub each_ok : (P Q : Outcome → Type 0) (r : Result Outcome AllocError) → ((o : Outcome) → P o → Q o) → IfOk r P → IfOk r Q
each_ok P Q (Ok o) f h = f o h
each_ok P Q (Err x) f h = tt

-- what has failed for ever stays so, and the pair that is noted has
pub noted_for_ever : (old new : Table) (mark : Mark) (start : ℕ) → most_u64 ≤ mark.until → start < mark.until → until_of new mark.place mark.row ≡ mark.until →
    ((q r : ℕ) → start ≤ r → start < until_of old q r → (until_of new q r ≡ until_of old q r) ⊎ ((q ≡ mark.place) × (r ≡ mark.row))) →
    (q r : ℕ) → start ≤ r → start < most_u64 → (most_u64 ≤ until_of old q r) ⊎ ((q ≡ mark.place) × (r ≡ mark.row)) → most_u64 ≤ until_of new q r
noted_for_ever old new mark start high some noted kept q r low room (inl le) = go (kept q r low (omega (arith, le, room)))
  where
    at : (q ≡ mark.place) × (r ≡ mark.row) → most_u64 ≤ until_of new q r
    at same = omega (arith, noted, high, ap (λ p. until_of new p r) same.0, ap (until_of new mark.place) same.1)

    go : (until_of new q r ≡ until_of old q r) ⊎ ((q ≡ mark.place) × (r ≡ mark.row)) → most_u64 ≤ until_of new q r
    go (inl stays) = omega (arith, stays, le)
    go (inr same) = at same
noted_for_ever old new mark start high some noted kept q r low room (inr same) =
    omega (arith, noted, high, ap (λ p. until_of new p r) same.0, ap (until_of new mark.place) same.1)
