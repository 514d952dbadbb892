-- What is kept of no label beyond a depth isn't changed by a cut back to it.
use Rattle.std.proofs.Common.{◌≡◌, ℕ, zero, suc, ◌+◌, ◌-◌, ◌≤◌, Bool, true, false, List, [], ◌∷◌, ◌++◌, map, length, take, drop, get_or, refl, sym, ap, ◌∙◌, arith}
use Rattle.std.specs.Prelude.{nat_le}
use Rattle.std.specs.List.{suffix_len}
use Rattle.std.proofs.lemmas.Bool.{leb-false, lt-leb}
use Rattle.std.proofs.lemmas.List.{length-map, length-take, take-append-le, take_all}
use Rattle.std.proofs.lemmas.List.Sums.{suffix_len-take_yes, suffix_len-take_no}
use Rattle.rp_words.specs.declared.word.Label.{Label}
use Rattle.rp_query.specs.declared.plan.Total.{Total}
use Rattle.rp_eval.specs.Partition.{Rows}
use Rattle.rp_eval.specs.Kept.{Kept, kept_of, places_to, cut_back}
use Rattle.rp_eval.proofs.KeptSeries.{kept_uncut, partly, nothing}

-- where the last places at a depth or beyond are left out, none is left that is last and beyond
stops : (d e : ℕ) (xs : List ℕ) (m : ℕ) → e ≤ d → m ≤ length xs → suffix_len (nat_le d) (take (m - suffix_len (nat_le e) (take m xs)) xs) ≡ 0
stops d e xs zero le within = refl
stops d e xs (suc m) le within = go (nat_le e (get_or xs (suc m - 1) 0)) refl (stops d e xs m le (omega arith))
  where
    go : (b : Bool) → nat_le e (get_or xs (suc m - 1) 0) ≡ b → suffix_len (nat_le d) (take (m - suffix_len (nat_le e) (take m xs)) xs) ≡ 0 →
        suffix_len (nat_le d) (take (suc m - suffix_len (nat_le e) (take (suc m) xs)) xs) ≡ 0
    go true is before =
        let at : suc m - 1 ≡ m = omega arith in
        let one = suffix_len-take_yes (nat_le e) xs (suc m) 0 (omega arith) within is ∙ ap (λ k. 1 + suffix_len (nat_le e) (take k xs)) at in
        let left : suc m - suffix_len (nat_le e) (take (suc m) xs) ≡ m - suffix_len (nat_le e) (take m xs) = omega (arith, one) in
        ap (λ k. suffix_len (nat_le d) (take k xs)) left ∙ before
    go false is before =
        let none = suffix_len-take_no (nat_le e) xs (suc m) 0 (omega arith) within is in
        let left : suc m - suffix_len (nat_le e) (take (suc m) xs) ≡ suc m = omega (arith, none) in
        ap (λ k. suffix_len (nat_le d) (take k xs)) left
        ∙ suffix_len-take_no (nat_le d) xs (suc m) 0 (omega arith) within
        (lt-leb d (get_or xs (suc m - 1) 0) (omega (arith, leb-false e (get_or xs (suc m - 1) 0) is)))

places_twice : (d e : ℕ) (xs : List ℕ) → e ≤ d → places_to d (places_to e xs) ≡ places_to e xs
places_twice d e xs le =
    let all : take (length xs) xs ≡ xs = take_all (length xs) xs (omega arith) in
    let none : suffix_len (nat_le d) (places_to e xs) ≡ 0 =
    ap (λ z. suffix_len (nat_le d) (take (length xs - suffix_len (nat_le e) z) xs)) (sym all) ∙ stops d e xs (length xs) le (omega arith) in
    take_all (length (places_to e xs) - suffix_len (nat_le d) (places_to e xs)) (places_to e xs) (omega (arith, none))

cut_twice : (d e : ℕ) (k : Kept) → e ≤ d → cut_back d (cut_back e k) ≡ cut_back e k
cut_twice d e k le =
    let tallies = take_all d (take e k.tallies) (omega (arith, length-take e k.tallies)) in
    let places = places_twice d e k.places le in
    cc (tallies, places)

pub all_twice : (d e : ℕ) (ks : List Kept) → e ≤ d → map (cut_back d) (map (cut_back e) ks) ≡ map (cut_back e) ks
all_twice d e [] le = refl
all_twice d e (k ∷ ks) le = let one = cut_twice d e k le in let more = all_twice d e ks le in cc (one, more)

-- what is within a depth is within each further one
pub all_within : (d e : ℕ) (ks : List Kept) → e ≤ d → map (cut_back e) ks ≡ ks → map (cut_back d) ks ≡ ks
all_within d e ks le is = ap (map (cut_back d)) (sym is) ∙ all_twice d e ks le ∙ is

-- of labels that aren't more than the depth
kept_within : (p : Rows) (t : Total) (start d : ℕ) (ls : List Label) → length ls ≤ d → cut_back d (kept_of p start ls t) ≡ kept_of p start ls t
kept_within p t start d ls le =
    let all = kept_uncut p t start (length ls) ls refl in
    ap (cut_back d) (sym all) ∙ cut_twice d (length ls) (kept_of p start ls t) le ∙ all

pub partly_within : (p : Rows) (start d : ℕ) (before ls : List Label) (plan : List Total) (n : ℕ) → length before ≤ d → length ls ≤ d →
    map (cut_back d) (partly p start before ls plan n) ≡ partly p start before ls plan n
partly_within p start d before ls [] zero few le = refl
partly_within p start d before ls [] (suc n) few le = refl
partly_within p start d before ls (t ∷ plan) zero few le =
    let one = kept_within p t start d before few in let more = partly_within p start d before ls plan zero few le in cc (one, more)
partly_within p start d before ls (t ∷ plan) (suc n) few le =
    let one = kept_within p t start d ls le in let more = partly_within p start d before ls plan n few le in cc (one, more)

-- nothing is within no depth at all
pub none_within : (plan : List Total) → map (cut_back 0) (map (λ (t : Total). nothing) plan) ≡ map (λ (t : Total). nothing) plan
none_within [] = refl
none_within (t ∷ plan) = ap (λ z. nothing ∷ z) (none_within plan)

-- what is written through a slice of a whole list is the list
pub whole : {X : Type 0} (n : ℕ) (new old : List X) → n ≡ length old → length new ≡ length old → take n (new ++ drop (length new) old) ≡ new
whole {X} n new old at same = take-append-le n new (drop (length new) old) (omega arith) ∙ take_all n new (omega arith)

-- so all of it is cut back where each of the slice is
pub written : (n d : ℕ) (old slice new : List Kept) → n ≡ length old → slice ≡ old → new ≡ map (cut_back d) slice →
    take n (new ++ drop (length new) old) ≡ map (cut_back d) old
written n d old slice new at all each =
    let cut : new ≡ map (cut_back d) old = each ∙ ap (map (cut_back d)) all in
    whole n new old at (ap length cut ∙ length-map old (cut_back d)) ∙ cut
