-- A row more at the end of those that lie one after another.
use Rattle.std.proofs.Common.{◌≡◌, ◌∙◌, ℕ, zero, suc, ◌+◌, ◌*◌, ◌≤◌, List, [], ◌∷◌, ◌++◌, length, take, drop, ap, sym, arith, add-one}
use Rattle.std.proofs.Math.Nat.{add-mul, one-mul, zero-mul}
use Rattle.std.proofs.Math.Seq.{take-length}
use Rattle.std.proofs.lemmas.List.{drop-drop, length-drop, take-append-le, drop-append-le}
use Rattle.rp_value.specs.Blocks.{cut_apart}

-- the cells of one row more
suc_times : (count width : ℕ) → suc count * width ≡ count * width + width
suc_times count width = ap (λ k. k * width) (sym (add-one count)) ∙ add-mul count 1 width ∙ ap (λ k. count * width + k) (one-mul width)

next_row : {A : Type 0} (width count : ℕ) (cells : List A) → cut_apart width (suc count) cells ≡ cut_apart width count cells ++ take width (drop (count * width) cells) ∷ []
unfolding cut_apart
next_row width zero cells = ap (λ from. take width (drop from cells) ∷ []) (sym (zero-mul width))
next_row width (suc count) cells =
    let from : width + count * width ≡ suc count * width = omega (arith, suc_times count width) in
    ap (λ rows. take width cells ∷ rows) (next_row width count (drop width cells))
    ∙ ap (λ rest. take width cells ∷ (cut_apart width count (drop width cells) ++ take width rest ∷ [])) (drop-drop (count * width) width cells)
    ∙ ap (λ k. take width cells ∷ (cut_apart width count (drop width cells) ++ take width (drop k cells) ∷ [])) from

-- the next of the lists that are cut off
pub one_row_more : {A : Type 0} (width count : ℕ) (cells : List A) → cut_apart width (count + 1) cells ≡ cut_apart width count cells ++ take width (drop (count * width) cells) ∷ []
one_row_more width count cells = ap (λ k. cut_apart width k cells) (add-one count) ∙ next_row width count cells

row_at_end : {A : Type 0} (width count : ℕ) (cells more : List A) → length cells ≡ count * width → length more ≡ width → cut_apart width (suc count) (cells ++ more) ≡ cut_apart width count cells ++ more ∷ []
unfolding cut_apart
row_at_end width zero [] more many wide = ap (λ row. row ∷ []) (ap (λ w. take w more) (sym wide) ∙ take-length more)
row_at_end width zero (cell ∷ cells) more many wide = absurd (omega (arith, many ∙ zero-mul width))
row_at_end width (suc count) cells more many wide =
    let all : length cells ≡ count * width + width = many ∙ suc_times count width in
    let there : width ≤ length cells = omega arith in
    let rest : length (drop width cells) ≡ count * width = length-drop width cells ∙ omega arith in
    ap (λ row. row ∷ cut_apart width (suc count) (drop width (cells ++ more))) (take-append-le width cells more there)
    ∙ ap (λ row. take width cells ∷ cut_apart width (suc count) row) (drop-append-le width cells more there)
    ∙ ap (λ rows. take width cells ∷ rows) (row_at_end width count (drop width cells) more rest wide)

-- cells that are added are a list more
pub row_added : {A : Type 0} (width count : ℕ) (cells more : List A) → length cells ≡ count * width → length more ≡ width → cut_apart width (count + 1) (cells ++ more) ≡ cut_apart width count cells ++ more ∷ []
row_added width count cells more many wide = ap (λ k. cut_apart width k (cells ++ more)) (add-one count) ∙ row_at_end width count cells more many wide
