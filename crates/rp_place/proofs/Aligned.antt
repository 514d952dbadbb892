-- The bytes of a number behind blanks, and of the second and the third line of a drawing.
use Rattle.std.proofs.Common.{◌≡◌, ◌<◌, ◌^◌, ◌-◌, ◌∙◌, ℕ, List, ◌++◌, length, replicate, take, codes, ap, sym, encode_utf8_all, append_assoc, max, false}
use Rattle.std.specs.Char.{encode_utf8}
use Rattle.std.specs.Fmt.{decimal}
use Rattle.std.proofs.lemmas.Fmt.{IsAscii-decimal}
use Rattle.std.proofs.lemmas.Str.{encodes-append, encodes-IsAscii}
use Rattle.unicode_width.specs.Width.{str_width}
use Rattle.rp_place.specs.Shown.{blank, caret, shown, shown_front, shown_part, shown_rest}
use Rattle.rp_place.specs.Drawn.{before_marks, before_place, marks, right_aligned}
use Rattle.rp_place.proofs.Seams.{take-append}

pub encodes-right_aligned : (number : ℕ) → number < 2 ^ 64
    → encode_utf8_all (right_aligned number) ≡ encode_utf8_all (replicate (4 - length (decimal number)) blank) ++ decimal number
encodes-right_aligned number small =
    encodes-append (replicate (4 - length (decimal number)) blank) (decimal number)
    ∙ ap (λ ds. encode_utf8_all (replicate (4 - length (decimal number)) blank) ++ ds) (encodes-IsAscii (decimal number) (IsAscii-decimal number small))

barred : (xs ys : List ℕ) → encode_utf8_all (xs ++ codes " | " ++ ys) ≡ encode_utf8_all xs ++ codes " | " ++ encode_utf8_all ys
unfolding encode_utf8
barred xs ys = encodes-append (xs ++ codes " | ") ys ∙ ap (λ bs. bs ++ encode_utf8_all ys) (encodes-append xs (codes " | "))

barred_before : (xs ys zs : List ℕ) → encode_utf8_all (xs ++ codes " | " ++ ys ++ zs) ≡ encode_utf8_all xs ++ codes " | " ++ encode_utf8_all ys ++ encode_utf8_all zs
barred_before xs ys zs = encodes-append (xs ++ codes " | " ++ ys) zs ∙ ap (λ bs. bs ++ encode_utf8_all zs) (barred xs ys)

pub encodes-place_line : (line : ℕ) (front part behind : List ℕ)
    → encode_utf8_all (before_place line front ++ shown_rest part behind)
    ≡ encode_utf8_all (right_aligned line) ++ codes " | " ++ encode_utf8_all (shown_front front)
    ++ encode_utf8_all (shown_part part) ++ encode_utf8_all (take (80 - length (shown part)) (shown behind))
encodes-place_line line front part behind =
    let start = encode_utf8_all (right_aligned line) ++ codes " | " ++ encode_utf8_all (shown_front front) in
    let more = take (80 - length (shown part)) (shown behind) in
    barred_before (right_aligned line) (shown_front front) (shown_rest part behind)
    ∙ ap (λ cs. start ++ encode_utf8_all cs) (take-append 80 (shown part) (shown behind))
    ∙ ap (λ bs. start ++ bs) (encodes-append (shown_part part) more)
    ∙ sym (append_assoc start (encode_utf8_all (shown_part part)) (encode_utf8_all more))

pub encodes-marks_line : (line : ℕ) (front part : List ℕ)
    → encode_utf8_all (before_marks line front ++ marks part)
    ≡ encode_utf8_all (replicate (length (right_aligned line)) blank) ++ codes " | "
    ++ encode_utf8_all (replicate (str_width false (shown_front front)) blank)
    ++ encode_utf8_all (replicate (max 1 (str_width false (shown_part part))) caret)
encodes-marks_line line front part =
    barred_before (replicate (length (right_aligned line)) blank) (replicate (str_width false (shown_front front)) blank) (marks part)
