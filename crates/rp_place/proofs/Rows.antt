-- The line feeds of a drawing.
use Rattle.std.proofs.Common.{◌≡◌, ◌≢◌, ◌<◌, ◌+◌, ◌-◌, ◌%◌, ◌^◌, ◌==◌, ◌∙◌, ℕ, zero, suc, Bool, true, false, cond, List, [], ◌∷◌, ◌++◌, length, map, take, drop, replicate, max, nat_lt, chars, codes, encode_utf8_all, refl, ap, arith}
use Rattle.std.specs.Char.{encode_utf8}
use Rattle.std.specs.Fmt.{decimal}
use Rattle.std.proofs.lemmas.Bool.Decides.{nat_tests}
use Rattle.std.proofs.lemmas.Fmt.{decimal_by_steps}
use Rattle.std.proofs.lemmas.List.{drop-map, take-map}
use Rattle.std.proofs.lemmas.List.Sums.{sum_by-append}
use Rattle.unicode_width.specs.Width.{str_width}
use Rattle.rp_place.specs.Lines.{column, is_line_feed, line_feeds}
use Rattle.rp_place.specs.Shown.{blank, caret, shown, shown_character, shown_front, shown_part}
use Rattle.rp_place.specs.Drawn.{HasThreeLines, heading, marks_line, place_line, right_aligned, said}
use Rattle.rp_place.specs.declared.place.Place.{Place}
use Rattle.rp_place.proofs.Aligned.{encodes-marks_line, encodes-place_line, encodes-right_aligned}

line_feeds-append : (xs ys : List ℕ) → line_feeds (xs ++ ys) ≡ line_feeds xs + line_feeds ys
line_feeds-append xs ys = sum_by-append (λ b. cond (is_line_feed b) 1 0) xs ys

both : (xs ys : List ℕ) → line_feeds xs ≡ 0 → line_feeds ys ≡ 0 → line_feeds (xs ++ ys) ≡ 0
both xs ys first second = omega (arith, line_feeds-append xs ys)

-- a line that ends
ended : (xs : List ℕ) → line_feeds xs ≡ 0 → line_feeds (xs ++ codes "\n") ≡ 1
ended xs none = line_feeds-append xs (codes "\n") ∙ rw none refl

-- a character other than the line feed has no such byte
encoded : (c : ℕ) → c ≢ 10 → line_feeds (encode_utf8 c) ≡ 0
unfolding encode_utf8
encoded c other = grind (arith, nat_tests)

shown_other : (c : ℕ) → shown_character c ≢ 10
shown_other c = grind (arith, nat_tests)

all_shown : (cs : List ℕ) → line_feeds (encode_utf8_all (map shown_character cs)) ≡ 0
all_shown [] = refl
all_shown (c ∷ cs) = both (encode_utf8 (shown_character c)) (encode_utf8_all (map shown_character cs)) (encoded (shown_character c) (shown_other c)) (all_shown cs)

repeated : (n c : ℕ) → c ≢ 10 → line_feeds (encode_utf8_all (replicate n c)) ≡ 0
repeated zero c other = refl
repeated (suc n) c other = both (encode_utf8 c) (encode_utf8_all (replicate n c)) (encoded c other) (repeated n c other)

digit : (d : ℕ) → d < 10 → line_feeds ((48 + d) ∷ []) ≡ 0
digit d small = grind (arith, nat_tests)

digits : (n : ℕ) → n < 2 ^ 64 → line_feeds (decimal n) ≡ 0
digits n small =
    decimal_by_steps (λ n ds. line_feeds ds ≡ 0) (λ n h. digit n h)
    (λ n ds high none. both ds ((48 + n % 10) ∷ []) none (digit (n % 10) (omega arith))) n small

aligned : (n : ℕ) → n < 2 ^ 64 → line_feeds (encode_utf8_all (right_aligned n)) ≡ 0
aligned n small =
    ap line_feeds (encodes-right_aligned n small)
    ∙ both (encode_utf8_all (replicate (4 - length (decimal n)) blank)) (decimal n) (repeated (4 - length (decimal n)) blank (omega arith)) (digits n small)

front_of : (front : List ℕ) (b : Bool) → line_feeds (encode_utf8_all (cond b (shown front) (codes ".." ++ drop (length (shown front) - 50) (shown front)))) ≡ 0
unfolding encode_utf8
front_of front true = all_shown (chars front)
front_of front false = rw (drop-map shown_character (length (shown front) - 50) (chars front)) (all_shown (drop (length (shown front) - 50) (chars front)))

some_shown : (n : ℕ) (text : List ℕ) → line_feeds (encode_utf8_all (take n (shown text))) ≡ 0
some_shown n text = rw (take-map shown_character n (chars text)) (all_shown (take n (chars text)))

said_of : (what : List ℕ) (b : Bool) → line_feeds what ≡ 0 → line_feeds (cond b [] (blank ∷ what)) ≡ 0
said_of what true none = refl
said_of what false none = none

first_line : (name : List ℕ) (place : Place) → place.line < 2 ^ 64 → column place.front.now < 2 ^ 64 → line_feeds name ≡ 0 → line_feeds (heading name place) ≡ 1
first_line name place small near none =
    let called = codes "  " ++ name in
    let numbered = called ++ codes ", line " ++ decimal place.line in
    ended (numbered ++ codes ", column " ++ decimal (column place.front.now))
    (both (numbered ++ codes ", column ") (decimal (column place.front.now))
    (both numbered (codes ", column ")
    (both (called ++ codes ", line ") (decimal place.line) (both called (codes ", line ") (both (codes "  ") name refl none) refl) (digits place.line small))
    refl)
    (digits (column place.front.now) near))

second_line : (place : Place) → place.line < 2 ^ 64 → line_feeds (place_line place) ≡ 1
second_line place small =
    let front = place.front.now in
    let part = place.part.now in
    let behind = place.behind.now in
    let bar = encode_utf8_all (right_aligned place.line) ++ codes " | " in
    let start = bar ++ encode_utf8_all (shown_front front) in
    let more = encode_utf8_all (take (80 - length (shown part)) (shown behind)) in
    let none = both (start ++ encode_utf8_all (shown_part part)) more
    (both start (encode_utf8_all (shown_part part))
    (both bar (encode_utf8_all (shown_front front)) (both (encode_utf8_all (right_aligned place.line)) (codes " | ") (aligned place.line small) refl)
    (front_of front (nat_lt (length (shown front)) 70)))
    (some_shown 80 part))
    (some_shown (80 - length (shown part)) behind) in
    rw (encodes-place_line place.line front part behind) (ended (start ++ encode_utf8_all (shown_part part) ++ more) none)

third_line : (place : Place) (what : List ℕ) → line_feeds what ≡ 0 → line_feeds (marks_line place what) ≡ 1
third_line place what none =
    let front = place.front.now in
    let part = place.part.now in
    let columns = length (right_aligned place.line) in
    let width = str_width false (shown_front front) in
    let count = max 1 (str_width false (shown_part part)) in
    let bar = encode_utf8_all (replicate columns blank) ++ codes " | " in
    let start = bar ++ encode_utf8_all (replicate width blank) in
    let row = start ++ encode_utf8_all (replicate count caret) in
    rw (encodes-marks_line place.line front part)
    (ended (row ++ said what)
    (both row (said what)
    (both start (encode_utf8_all (replicate count caret))
    (both bar (encode_utf8_all (replicate width blank)) (both (encode_utf8_all (replicate columns blank)) (codes " | ") (repeated columns blank (omega arith)) refl)
    (repeated width blank (omega arith)))
    (repeated count caret (omega arith)))
    (said_of what (length what == 0) none)))

pub three_lines : HasThreeLines
three_lines name place what small near no_name no_what =
    let first : line_feeds (heading name place) ≡ 1 = first_line name place small near no_name in
    let second : line_feeds (place_line place) ≡ 1 = second_line place small in
    let third : line_feeds (marks_line place what) ≡ 1 = third_line place what no_what in
    line_feeds-append (heading name place ++ place_line place) (marks_line place what)
    ∙ rw (line_feeds-append (heading name place) (place_line place), first, second, third) refl
