-- The tests' own rows are tested each by itself.
use Rattle.std.proofs.Common.{◌≡◌, ℕ, ◌+◌, ◌-◌, List, [], ◌∷◌, ◌++◌, length, slice_get, nat_lt, ◌&&◌, ◌==◌, if◌then◌else◌, Bool, true, false, Option, Some, None, refl, sym, ap, ◌∙◌, subst, arith, length-append}
use Rattle.std.specs.Prelude.{IsSome, OnSome}
use Rattle.std.proofs.lemmas.Bool.Decides.{nat_tests}
use Rattle.rp_words.specs.declared.form.Form.{Form}
use Rattle.rp_words.specs.declared.word.End.{End}
use Rattle.rp_words.specs.declared.word.End.TheVariants.{Open as OpenEnd, Closed as ClosedEnd}
use Rattle.rp_words.specs.declared.word.Label.{Label}
use Rattle.rp_words.specs.declared.word.Seen.{Seen}
use Rattle.rp_words.specs.declared.word.Seen.TheVariants.{True, NotTrue, Open as OpenTest}
use Rattle.rp_words.specs.Later.{IsLater}
use Rattle.rp_search.specs.Asked.{AskedExtend, StayFromEach, rows_from}
use Rattle.rp_search.specs.Lasting.{LastsUntil, OfPattern}
use Rattle.rp_search.specs.SeenStays.{SeenStays, TestsStay}
use Rattle.rp_pattern_tests.specs.Grid.{grid_asked, grid_outcome, last_answer, may_go_on, open_if, row_answer, written}

last_is : (before : List Label) (label : Label) → slice_get (before ++ label ∷ []) (length before) ≡ Some label
last_is [] label = refl
last_is (l ∷ before) label = last_is before label

-- what is answered for the last of some labels
answered : (first second : List Seen) (reach known : ℕ) (e : End) (start : ℕ) (before : List Label) (label : Label) →
    grid_outcome first second reach known e start (before ++ label ∷ []) ≡ row_answer first second reach known e (start + length before) label.var
answered first second reach known e start before label =
    let size : length (before ++ label ∷ []) ≡ length before + 1 = length-append before (label ∷ []) in
    let row : start + length (before ++ label ∷ []) - 1 ≡ start + length before = omega (arith, size) in
    let last : length (before ++ label ∷ []) - 1 ≡ length before = omega (arith, size) in
    ap (λ r. last_answer (row_answer first second reach known e r) (slice_get (before ++ label ∷ []) (length (before ++ label ∷ []) - 1))) row
    ∙ ap (λ o. last_answer (row_answer first second reach known e (start + length before)) o) (ap (slice_get (before ++ label ∷ [])) last ∙ last_is before label)

-- What is refused is refused from each start row.
pub grid_lasts : (first second : List Seen) (reach known : ℕ) (e : End) (start : ℕ) (labels : List Label) (until : ℕ) (named : Option Form) →
    grid_outcome first second reach known e start labels ≡ NotTrue → LastsUntil (OfPattern named) (grid_asked first second reach known e named) start labels until
grid_lasts first second reach known e start labels until named refused before label after n e' w is meant begins start' n' e'' w' before' after' le lt at meant' begins' =
    answered first second reach known e start' before' label
    ∙ ap (λ r. row_answer first second reach known e r label.var) at
    ∙ sym (answered first second reach known e start before label)
    ∙ ap (grid_outcome first second reach known e start) (sym is) ∙ refused

-- ---- over more rows, and the close

written_stays : (waits waits' : Bool) (cell : Option Seen) → (waits ≡ false → waits' ≡ false) → SeenStays (written waits cell) (written waits' cell)
written_stays waits waits' None h = refl
written_stays waits waits' (Some True) h = refl
written_stays waits waits' (Some NotTrue) h = refl
written_stays true waits' (Some OpenTest) h = tt
written_stays false waits' (Some OpenTest) h = ap (λ w. open_if w True) (h refl)

open_stays : (is_open is_open' : Bool) (seen seen' : Seen) → (is_open ≡ false → is_open' ≡ false) → SeenStays seen seen' → SeenStays (open_if is_open seen) (open_if is_open' seen')
open_stays true is_open' seen seen' h stays = tt
open_stays false is_open' seen seen' h stays = subst (λ b. SeenStays seen (open_if b seen')) (sym (h refl)) stays

still_reached : (reach row known known' : ℕ) (e e' : End) → IsLater known e known' e' → (may_go_on e && nat_lt (known - row) reach) ≡ false → (may_go_on e' && nat_lt (known' - row) reach) ≡ false
still_reached reach row known known' e ClosedEnd later h = refl
still_reached reach row known known' OpenEnd OpenEnd later h = grind (arith, nat_tests, later.0)
still_reached reach row known known' ClosedEnd OpenEnd later h = absurd (let closed : OpenEnd ≡ ClosedEnd = (later.1 refl).1 in cc)

still_closed : (known known' : ℕ) (e e' : End) → IsLater known e known' e' → may_go_on e ≡ false → may_go_on e' ≡ false
still_closed known known' OpenEnd e' later h = absurd cc
still_closed known known' ClosedEnd e' later h = ap may_go_on (later.1 refl).1

-- what is decided for the last of some labels stays
answer_stays : (first second : List Seen) (reach known known' : ℕ) (e e' : End) (row : ℕ) → IsLater known e known' e' → (o : Option Label) →
    SeenStays (last_answer (row_answer first second reach known e row) o) (last_answer (row_answer first second reach known' e' row) o)
answer_stays first second reach known known' e e' row later None = refl
answer_stays first second reach known known' e e' row later (Some label) = go (label.var == 0)
  where
    go : (is_first : Bool) → SeenStays
        (if is_first then open_if (may_go_on e && nat_lt (known - row) reach) (written (may_go_on e) (slice_get first row)) else written (may_go_on e) (slice_get second row))
        (if is_first then open_if (may_go_on e' && nat_lt (known' - row) reach) (written (may_go_on e') (slice_get first row)) else written (may_go_on e') (slice_get second row))
    go true =
        open_stays (may_go_on e && nat_lt (known - row) reach) (may_go_on e' && nat_lt (known' - row) reach) (written (may_go_on e) (slice_get first row)) (written (may_go_on e') (slice_get first row))
        (still_reached reach row known known' e e' later)
        (written_stays (may_go_on e) (may_go_on e') (slice_get first row) (still_closed known known' e e' later))
    go false = written_stays (may_go_on e) (may_go_on e') (slice_get second row) (still_closed known known' e e' later)

-- What is asked goes on from each row.
pub grid_extends : (first second : List Seen) (reach known known' : ℕ) (e e' : End) (named : Option Form) (start : ℕ) → IsLater known e known' e' →
    AskedExtend start (grid_asked first second reach known e named) (grid_asked first second reach known' e' named)
grid_extends first second reach known known' e e' named start later =
    record { later = later; stay = stays start; variables = refl; remembered = from_each named }
  where
    stays : (row : ℕ) → TestsStay (rows_from row known) (grid_outcome first second reach known e row) (grid_outcome first second reach known' e' row)
    stays row labels short = answer_stays first second reach known known' e e' (row + length labels - 1) later (slice_get labels (length labels - 1))

    from_each : (o : Option Form) → OnSome o (IsSome o × StayFromEach start (grid_asked first second reach known e named) (grid_asked first second reach known' e' named))
    from_each None = tt
    from_each (Some f) = (refl, λ row le. stays row)
