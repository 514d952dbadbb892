-- Lines, cut from what is read piece by piece.
use Rattle.std.proofs.Common.{◌≡◌, ◌≢◌, ℕ, zero, suc, List, [], ◌∷◌, ◌++◌, length, take, Option, Some, None, refl, ap, ◌∙◌, sym, subst, append_assoc, append-nil, arith, eqb, Bool, true, false, MatchBool, Result, Ok, Err, OnErr}
use Rattle.std.specs.List.{AllByRecursion}
use Rattle.std.specs.Io.KnownBytes.{Consumes, IsAtEnd, prepend_known}
use Rattle.std.proofs.lemmas.List.Elements.{recursion_from_All, All-append}
use Rattle.std.proofs.lemmas.Bool.Decides.{nat_tests}
use Rattle.rp_io.specs.Lines.{lines_of, IsLfFree, TakesLast, TakesLine}

lines-front_by : (part later : List ℕ) → AllByRecursion (λ b. b ≢ 10) part → lines_of (part ++ 10 ∷ later) ≡ part ∷ lines_of later
lines-front_by [] later free = refl
lines-front_by (b ∷ part) later free =
    let no : eqb b 10 ≡ false = let other : b ≢ 10 = free.0 in grind (arith, nat_tests) in
    rw (no, lines-front_by part later free.1) refl

pub lines-front : (part later : List ℕ) → IsLfFree part → lines_of (part ++ 10 ∷ later) ≡ part ∷ lines_of later
lines-front part later free = lines-front_by part later (recursion_from_All (λ b. b ≢ 10) part free)

lines-last_by : (b : ℕ) (part : List ℕ) → AllByRecursion (λ c. c ≢ 10) (b ∷ part) → lines_of (b ∷ part) ≡ (b ∷ part) ∷ []
lines-last_by b [] free = let no : eqb b 10 ≡ false = let other : b ≢ 10 = free.0 in grind (arith, nat_tests) in rw no refl
lines-last_by b (c ∷ part) free =
    let no : eqb b 10 ≡ false = let other : b ≢ 10 = free.0 in grind (arith, nat_tests) in
    rw (no, lines-last_by c part free.1) refl

pub lines-last : (part : List ℕ) → IsLfFree part → length part ≢ 0 → lines_of part ≡ part ∷ []
lines-last [] free some = absurd (some refl)
lines-last (b ∷ part) free some = lines-last_by b part (recursion_from_All (λ c. c ≢ 10) (b ∷ part) free)

take-again : (n : ℕ) (xs ys : List ℕ) → take n (take n xs ++ ys) ≡ take n (xs ++ ys)
take-again zero xs ys = refl
take-again (suc n) [] ys = refl
take-again (suc n) (x ∷ xs) ys = ap (λ t. x ∷ t) (take-again n xs ys)

take-nothing : (n : ℕ) → take {A = ℕ} n [] ≡ []
take-nothing zero = refl
take-nothing (suc n) = refl

regrouped : (seen part later rest : List ℕ) → seen ++ ((part ++ 10 ∷ later) ++ rest) ≡ (seen ++ part) ++ 10 ∷ (later ++ rest)
regrouped seen part later rest = simp append_assoc

-- some bytes without a LF were read, and the first `kept` of them are kept
abbrev pub ReadFront : ℕ → Option (List ℕ) → Option (List ℕ) → List ℕ → Type 0
ReadFront kept None now line = Unit {0}
ReadFront kept (Some xs) None line = ⊥
ReadFront kept (Some xs) (Some ys) line = (seen : List ℕ) × IsLfFree seen × (xs ≡ seen ++ ys) × (line ≡ take kept seen)

pub ReadFront-start : (kept : ℕ) (old : Option (List ℕ)) → ReadFront kept old old []
ReadFront-start kept None = tt
ReadFront-start kept (Some xs) = ([], (λ k d lt. absurd (omega arith)), refl, sym (take-nothing kept))

pub cut-whole : (kept : ℕ) (old : Option (List ℕ)) (pending later part line line' : List ℕ) (remaining : Option (List ℕ))
    → ReadFront kept old (prepend_known pending remaining) line → IsLfFree part → pending ≡ part ++ 10 ∷ later → line' ≡ take kept (line ++ part)
    → TakesLine kept old (prepend_known later remaining) line'
cut-whole kept None pending later part line line' remaining read free cut is = tt
cut-whole kept (Some xs) pending later part line line' None read free cut is = absurd read
cut-whole kept (Some xs) pending later part line line' (Some rest) read free cut is = (
  read.0 ++ part,
  All-append (λ b. b ≢ 10) read.0 part read.1 free,
  read.2 ∙ ap (λ t. read.0 ++ (t ++ rest)) cut ∙ regrouped read.0 part later rest,
  is ∙ ap (λ t. take kept (t ++ part)) read.3 ∙ take-again kept read.0 part,
)

pub cut-part : (kept : ℕ) (old : Option (List ℕ)) (pending later line line' : List ℕ) (remaining : Option (List ℕ))
    → ReadFront kept old (prepend_known pending remaining) line → IsLfFree pending → later ≡ [] → line' ≡ take kept (line ++ pending)
    → ReadFront kept old (prepend_known later remaining) line'
cut-part kept None pending later line line' remaining read free none is = tt
cut-part kept (Some xs) pending later line line' None read free none is = absurd read
cut-part kept (Some xs) pending later line line' (Some rest) read free none is = (
  read.0 ++ pending,
  All-append (λ b. b ≢ 10) read.0 pending read.1 free,
  rw none (read.2 ∙ sym (append_assoc read.0 pending rest)),
  is ∙ ap (λ t. take kept (t ++ pending)) read.3 ∙ take-again kept read.0 pending,
)

pub fill-more : (kept : ℕ) (old : Option (List ℕ)) (pending later line : List ℕ) (before after : Option (List ℕ))
    → ReadFront kept old (prepend_known pending before) line → pending ≡ [] → Consumes before after later
    → ReadFront kept old (prepend_known later after) line
fill-more kept None pending later line before after read none takes = tt
fill-more kept (Some xs) pending later line None after read none takes = absurd read
fill-more kept (Some xs) pending later line (Some bs) None read none takes = absurd takes
fill-more kept (Some xs) pending later line (Some bs) (Some cs) read none takes =
    (read.0, read.1, read.2 ∙ ap (λ t. read.0 ++ (t ++ bs)) none ∙ ap (λ t. read.0 ++ t) takes, read.3)

-- at the end all that was read since the last LF is the last part
pub end-part : (kept : ℕ) (old : Option (List ℕ)) (pending line : List ℕ) (remaining : Option (List ℕ))
    → ReadFront kept old (prepend_known pending remaining) line → pending ≡ [] → IsAtEnd remaining → TakesLast kept old (prepend_known pending remaining) line
end-part kept None pending line remaining read none at_end = tt
end-part kept (Some xs) pending line None read none at_end = absurd read
end-part kept (Some xs) pending line (Some rest) read none at_end =
    let empty : pending ++ rest ≡ [] = rw (none, at_end) refl in
    let all : xs ≡ read.0 = read.2 ∙ ap (λ t. read.0 ++ t) empty ∙ append-nil read.0 in
    (subst IsLfFree (sym all) read.1, empty, read.3 ∙ ap (λ t. take kept t) (sym all))

pub when_true : (P Q : Type 0) (b : Bool) → b ≡ true → MatchBool b P Q → P
when_true P Q true is h = h
when_true P Q false is h = cc

pub when_false : (P Q : Type 0) (b : Bool) → b ≡ false → MatchBool b P Q → Q
when_false P Q true is h = cc
when_false P Q false is h = h

pub on_err_from : {T E P : Type 0} (r : Result T E) → P → OnErr r P
on_err_from (Ok x) p = tt
on_err_from (Err e) p = p

lf_in_by : (front rest : List ℕ) → AllByRecursion (λ b. b ≢ 10) (front ++ 10 ∷ rest) → ⊥
lf_in_by [] rest free = free.0 refl
lf_in_by (b ∷ front) rest free = lf_in_by front rest free.1

-- bytes with a LF among them aren't free of it
pub lf_in : (front rest bytes : List ℕ) → bytes ≡ front ++ 10 ∷ rest → IsLfFree bytes → ⊥
lf_in front rest bytes is free = lf_in_by front rest (recursion_from_All (λ b. b ≢ 10) (front ++ 10 ∷ rest) (subst IsLfFree is free))
