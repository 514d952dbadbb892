-- Where a text that was longer begins anew.
use Rattle.std.proofs.Common.{◌≡◌, ◌≤◌, ◌-◌, ◌∙◌, ℕ, List, ◌++◌, length, take, drop, sym, ap, arith, append_assoc, append-nil, chars, length-append, ⊎_elim, ◌<◌, ◌+◌, encode_utf8_all}
use Rattle.std.specs.Str.{IsCharBoundary, IsUtf8}
use Rattle.std.proofs.Math.Seq.{drop-append_seam, take-append_seam, take-append-add}
use Rattle.std.proofs.lemmas.Bool.{cases_lt}
use Rattle.std.proofs.lemmas.List.{take-append-le, take_all}
use Rattle.std.proofs.lemmas.Str.{IsCharBoundary-from_take, IsUtf8-drop, chars_from_encodes}

-- where characters were added to a text, it may be cut, and from there on it has these characters
pub cut_at_seam : (old new cs : List ℕ) (n : ℕ) → n ≡ length old → new ≡ old ++ encode_utf8_all cs → IsUtf8 old → IsUtf8 new → IsCharBoundary new n
cut_at_seam old new cs n size is old_text new_text =
    let front : take n new ≡ old = ap (λ m. take m new) size ∙ ap (λ bs. take (length old) bs) is ∙ take-append_seam old (encode_utf8_all cs) in
    IsCharBoundary-from_take new n new_text (omega (arith, size, ap length is, length-append old (encode_utf8_all cs))) (rw front old_text)

pub chars-seam : (old new cs : List ℕ) (n : ℕ) → n ≡ length old → new ≡ old ++ encode_utf8_all cs → IsUtf8 old → IsUtf8 new → chars (drop n new) ≡ cs
chars-seam old new cs n size is old_text new_text =
    let back : drop n new ≡ encode_utf8_all cs = ap (λ m. drop m new) size ∙ ap (λ bs. drop (length old) bs) is ∙ drop-append_seam old (encode_utf8_all cs) in
    sym (chars_from_encodes cs (drop n new) (IsUtf8-drop new n new_text (cut_at_seam old new cs n size is old_text new_text)) (sym back))

-- the first of two lists one behind the other
pub take-append : (n : ℕ) (xs ys : List ℕ) → take n (xs ++ ys) ≡ take n xs ++ take (n - length xs) ys
take-append n xs ys =
    ⊎_elim (λ (short : n < length xs). let within : n ≤ length xs = omega arith in let none : n - length xs ≡ 0 = omega arith in
    take-append-le n xs ys within ∙ sym (append-nil (take n xs)) ∙ ap (λ k. take n xs ++ take k ys) (sym none))
    (λ (long : length xs ≤ n). let sum : n ≡ length xs + (n - length xs) = omega arith in
    ap (λ k. take k (xs ++ ys)) sum ∙ take-append-add xs ys (n - length xs) ∙ ap (λ zs. zs ++ take (n - length xs) ys) (sym (take_all n xs long)))
    (cases_lt n (length xs))

-- what four calls added, one behind the other
pub joined : (old a b c d one two three new : List ℕ) → one ≡ old ++ a → two ≡ one ++ b → three ≡ two ++ c → new ≡ three ++ d
    → new ≡ old ++ (a ++ b ++ (c ++ d))
joined old a b c d one two three new first second third last =
    last ∙ ap (λ bs. bs ++ d) (third ∙ ap (λ bs. bs ++ c) (second ∙ ap (λ bs. bs ++ b) first)) ∙ simp append_assoc
