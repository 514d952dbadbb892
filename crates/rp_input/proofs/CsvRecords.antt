-- The records that were read one after another are the first of a text's.
use Rattle.std.proofs.Common.{◌≡◌, ◌≢◌, ◌∙◌, ◌<◌, ◌≤◌, ◌+◌, ℕ, zero, suc, List, [], ◌∷◌, ◌++◌, length, Bool, true, false, Some, None, refl, sym, ap, arith, true≢false}
use Rattle.std.specs.Prelude.{◌==◌, if◌then◌else◌}
use Rattle.std.proofs.lemmas.List.{append-nil}
use Rattle.csv.specs.Machine.{Read, carriage_return, ends_at_end, ends_with, field_after, fields_after, is_end, line_feed, next_record, step}
use Rattle.csv.specs.Reading.{AreRecords, Reached, records, records_from, records_next, strip_bom}
use Rattle.rp_input.specs.Layouts.{config_with}
use Rattle.csv.specs.declared.parser.Action.{Action}
use Rattle.csv.specs.declared.parser.Action.TheVariants as act
use Rattle.csv.specs.declared.parser.State.{State}
use Rattle.csv.specs.declared.parser.State.TheVariants as st

-- after a step that ends a record, the end of the text would end no other
abbrev Ended : State × Action → Type 0
Ended p = is_end p.1 ≡ true → ends_at_end p.0 ≡ false

after : (cr : Bool) → ends_at_end (if cr then st.AfterCr else st.StartRecord) ≡ false
after true = refl
after false = refl

in_field : (delimits ends cr : Bool) → Ended (if delimits then (st.StartField, act.EndField) else if ends then (if cr then st.AfterCr else st.StartRecord, act.EndRecord) else (st.InField, act.Copy))
in_field true ends cr e = absurd (true≢false (sym e))
in_field false true cr e = after cr
in_field false false cr e = absurd (true≢false (sym e))

one_of : (here : Bool) (s : State) (a : Action) (p : State × Action) → is_end a ≡ false → Ended p → Ended (if here then (s, a) else p)
one_of true s a p none h e = absurd (true≢false (sym e ∙ none))
one_of false s a p none h e = h e

field : (d c : ℕ) → Ended (step (config_with d) st.InField c)
field d c = in_field (c == d) (ends_with (config_with d).terminator c) (c == carriage_return)

start_field : (d c : ℕ) → Ended (step (config_with d) st.StartField c)
start_field d c = one_of (c == 34) st.InQuoted act.Skip _ refl (field d c)

start_record : (d c : ℕ) → Ended (step (config_with d) st.StartRecord c)
start_record d c = one_of (ends_with (config_with d).terminator c) st.StartRecord act.Skip _ refl (start_field d c)

ended : (d : ℕ) (s : State) (c : ℕ) → Ended (step (config_with d) s c)
ended d st.StartRecord c = start_record d c
ended d st.StartField c = start_field d c
ended d st.InField c = field d c
ended d st.InQuoted c = one_of (c == 34) st.AfterQuote act.Skip (st.InQuoted, act.Copy) refl (λ e. absurd (true≢false (sym e)))
ended d st.InEscape c = λ e. absurd (true≢false (sym e))
ended d st.AfterQuote c = one_of (c == 34) st.InQuoted act.Copy _ refl (field d c)
ended d st.InComment c = one_of (c == line_feed) st.StartRecord act.Skip (st.InComment, act.Skip) refl (λ e. absurd (true≢false (sym e)))
ended d st.AfterCr c = one_of (c == line_feed) st.StartRecord act.Skip _ refl (start_record d c)

-- What is left after a record is no longer than the text, and shorter than one that isn't empty.
abbrev Leaves : List ℕ → Read → Type 0
Leaves xs p = (length p.2 ≤ length xs) × (xs ≢ [] → length p.2 < length xs) × (ends_at_end p.1 ≡ false)

leaves : (d : ℕ) (s : State) (fields : List (List ℕ)) (given xs : List ℕ) (p : Read) → next_record (config_with d) s fields given xs ≡ Some p → Leaves xs p
unfolding next_record
leaves d s fields given [] p e = at_end (ends_at_end s) e
  where
    at_end : (b : Bool) → (if b then Some (fields ++ (given ∷ []), st.StartRecord, []) else None) ≡ Some p → Leaves [] p
    at_end true e = let is : (fields ++ (given ∷ []), st.StartRecord, []) ≡ p = cc in rw (← is) (omega arith, λ n. absurd (n refl), refl)
    at_end false e = absurd cc
leaves d s fields given (c ∷ rest) p e = by (is_end (step (config_with d) s c).1) refl e (leaves d (step (config_with d) s c).0 (fields_after (step (config_with d) s c).1 fields given) (field_after (step (config_with d) s c).1 c given) rest p)
  where
    by : (b : Bool) → is_end (step (config_with d) s c).1 ≡ b
        → (if b then Some (fields_after (step (config_with d) s c).1 fields given, (step (config_with d) s c).0, rest)
        else next_record (config_with d) (step (config_with d) s c).0 (fields_after (step (config_with d) s c).1 fields given) (field_after (step (config_with d) s c).1 c given) rest) ≡ Some p
        → (next_record (config_with d) (step (config_with d) s c).0 (fields_after (step (config_with d) s c).1 fields given) (field_after (step (config_with d) s c).1 c given) rest ≡ Some p → Leaves rest p)
        → Leaves (c ∷ rest) p
    by true is e more =
        let same : (fields_after (step (config_with d) s c).1 fields given, (step (config_with d) s c).0, rest) ≡ p = cc in
        rw (← same) (omega arith, λ n. omega arith, ended d s c is)
    by false is e more =
        let no_more : length p.2 ≤ length rest = (more e).0 in
        (omega arith, λ n. omega arith, (more e).2)

-- a record comes from a text that isn't empty
not_empty : (d : ℕ) (s : State) (xs : List ℕ) (p : Read) → ends_at_end s ≡ false → next_record (config_with d) s [] [] xs ≡ Some p → xs ≢ []
unfolding next_record
not_empty d s [] p quiet e is = let none : next_record (config_with d) s [] [] [] ≡ None = rw quiet refl in cc
not_empty d s (x ∷ xs) p quiet e is = cc

-- records that were read are the first of all
pub reached_first : (d n : ℕ) (s s2 : State) (xs ys : List ℕ) (rs : List (List (List ℕ))) → ends_at_end s ≡ false → length xs < n → Reached (config_with d) s xs rs s2 ys
    → (m : ℕ) × (records_from (config_with d) n s xs ≡ rs ++ records_from (config_with d) m s2 ys) × (length ys < m)
unfolding Reached records_from
reached_first d n s s2 xs ys [] quiet fits at = (n, ap (λ q. records_from (config_with d) n q xs) at.0 ∙ ap (records_from (config_with d) n s2) at.1, rw at.1 at fits)
reached_first d zero s s2 xs ys (r ∷ rs) quiet fits at = absurd (omega arith)
reached_first d (suc n) s s2 xs ys (r ∷ rs) quiet fits at =
    let p = at.0 in
    let left = leaves d s [] [] xs p at.1 in
    let short : length p.2 < length xs = left.1 (not_empty d s xs p quiet at.1) in
    let later = reached_first d n p.1 s2 p.2 ys rs left.2 (omega arith) at.3 in
    (later.0, ap (λ q. records_next (records_from (config_with d) n) q) at.1 ∙ ap (λ q. q ∷ records_from (config_with d) n p.1 p.2) (sym at.2) ∙ ap (λ q. r ∷ q) later.1, later.2)

-- no record more
none_from : (d m : ℕ) (s : State) (ys : List ℕ) → next_record (config_with d) s [] [] ys ≡ None → records_from (config_with d) m s ys ≡ []
unfolding records_from
none_from d zero s ys e = refl
none_from d (suc m) s ys e = ap (records_next (records_from (config_with d) m)) e

abbrev pub Begins : ℕ → List ℕ → List (List (List ℕ)) → Type 0
Begins d text rs = (s : State) × (ys : List ℕ) × Reached (config_with d) st.StartRecord (strip_bom text) rs s ys

pub begins : (d : ℕ) (text : List ℕ) (rs : List (List (List ℕ))) → Begins d text rs → (after : List (List (List ℕ))) × (records (config_with d) (strip_bom text) ≡ rs ++ after)
begins d text rs (s, ys, at) =
    let xs = strip_bom text in
    let first = reached_first d (length xs + 1) st.StartRecord s xs ys rs refl (omega arith) at in
    (records_from (config_with d) first.0 s ys, first.1)

pub all_of : (d : ℕ) (text : List ℕ) (rs : List (List (List ℕ))) → AreRecords (config_with d) st.StartRecord (strip_bom text) rs → records (config_with d) (strip_bom text) ≡ rs
all_of d text rs (s, ys, at, none) =
    let xs = strip_bom text in
    let first = reached_first d (length xs + 1) st.StartRecord s xs ys rs refl (omega arith) at in
    first.1 ∙ ap (λ q. rs ++ q) (none_from d first.0 s ys none) ∙ append-nil rs
