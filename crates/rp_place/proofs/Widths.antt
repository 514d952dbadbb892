-- The widths of what stands before the place and before the marks.
use Rattle.std.proofs.Common.{◌≡◌, ◌<◌, ◌+◌, ◌-◌, ◌^◌, ◌%◌, ◌∙◌, ℕ, zero, suc, Bool, true, false, cond, not, List, [], ◌∷◌, ◌++◌, length, replicate, max, codes, refl, sym, ap, arith, append_assoc, length-append}
use Rattle.std.specs.Int.{is_in_range}
use Rattle.std.specs.List.{list_all}
use Rattle.std.specs.Fmt.{decimal}
use Rattle.std.proofs.lemmas.Bool.Decides.{nat_tests}
use Rattle.std.proofs.lemmas.Fmt.{decimal_by_steps}
use Rattle.std.proofs.lemmas.List.{length-replicate}
use Rattle.std.proofs.lemmas.List.Folds.{list_all-append}
use Rattle.unicode_width.proofs.Computing.{unicode_width}
use Rattle.unicode_width.proofs.Rules.{str_width-printable}
use Rattle.unicode_width.proofs.WidthLemmas.{read_before-printable}
use Rattle.unicode_width.specs.Width.{plain, read_before, step, str_width, Reading}
use Rattle.rp_place.specs.Shown.{blank, caret, shown_front, shown_part}
use Rattle.rp_place.specs.Drawn.{right_aligned}
use Rattle.rp_place.specs.Marks.{AreAsWideAsTheirPart, StandUnderTheirPlace}

abbrev IsPrintable : List ℕ → Type 0
IsPrintable cs = list_all (is_in_range 0x20 0x7E) cs ≡ true

both : (xs ys : List ℕ) → IsPrintable xs → IsPrintable ys → IsPrintable (xs ++ ys)
both xs ys first second = list_all-append (is_in_range 0x20 0x7E) xs ys ∙ rw (first, second) refl

printable-replicate : (n c : ℕ) → is_in_range 0x20 0x7E c ≡ true → IsPrintable (replicate n c)
printable-replicate zero c h = refl
printable-replicate (suc n) c h = rw (h, printable-replicate n c h) refl

printable-digit : (d : ℕ) → d < 10 → IsPrintable ((48 + d) ∷ [])
printable-digit d small = grind (arith, nat_tests)

printable-decimal : (n : ℕ) → n < 2 ^ 64 → IsPrintable (decimal n)
printable-decimal n small =
    decimal_by_steps (λ n ds. IsPrintable ds) (λ n h. printable-digit n h)
    (λ n ds high digits. both ds ((48 + n % 10) ∷ []) digits (printable-digit (n % 10) (omega arith))) n small

printable-aligned : (n : ℕ) → n < 2 ^ 64 → IsPrintable (right_aligned n)
printable-aligned n small = both (replicate (4 - length (decimal n)) blank) (decimal n) (printable-replicate (4 - length (decimal n)) blank refl) (printable-decimal n small)

cond_same : {A : Type 0} (b : Bool) (x : A) → cond b x x ≡ x
cond_same true x = refl
cond_same false x = refl

-- a blank joins nothing that follows
step-blank : (r : Reading) → step false blank r ≡ (r.0 + 1, plain)
unfolding unicode_width
step-blank r = cond_same (not r.1.emoji) (r.0 + 1, plain)

-- printable ASCII that ends with a bar adds its length to the width of what follows
str_width-barred : (xs cs : List ℕ) → IsPrintable xs → str_width false (xs ++ codes " | " ++ cs) ≡ length xs + 3 + str_width false cs
unfolding str_width
str_width-barred xs cs printable =
    let bar : List ℕ = 32 ∷ 124 ∷ [] in
    let after = read_before false cs (0, plain) in
    let read = read_before-printable false (xs ++ bar) (blank ∷ cs) (after.0 + 1) (both xs bar printable refl) (sym (step-blank after)) in
    let whole : xs ++ codes " | " ++ cs ≡ (xs ++ bar) ++ (blank ∷ cs) = append_assoc xs (codes " | ") cs ∙ sym (append_assoc xs bar (blank ∷ cs)) in
    let columns : after.0 + 1 + length (xs ++ bar) ≡ length xs + 3 + after.0 = omega (arith, length-append xs bar) in
    ap (λ all. (read_before false all (0, plain)).0) whole ∙ sym (ap (λ r. r.0) read) ∙ columns

pub under_place : StandUnderTheirPlace
under_place line front small =
    let columns = length (right_aligned line) in
    let width = str_width false (shown_front front) in
    str_width-barred (replicate columns blank) (replicate width blank) (printable-replicate columns blank refl)
    ∙ rw (length-replicate columns blank, str_width-printable false (replicate width blank) (printable-replicate width blank refl), length-replicate width blank) refl
    ∙ sym (str_width-barred (right_aligned line) (shown_front front) (printable-aligned line small))

pub as_wide : AreAsWideAsTheirPart
as_wide part =
    let count = max 1 (str_width false (shown_part part)) in
    str_width-printable false (replicate count caret) (printable-replicate count caret refl) ∙ length-replicate count caret
