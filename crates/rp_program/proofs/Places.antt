-- What places stand for, as more are put behind them.
use Rattle.std.proofs.Common.{◌≡◌, ℕ, ◌+◌, ◌<◌, ◌≤◌, List, [], ◌∷◌, ◌++◌, length, false, Option, Some, None, refl, sym, ap, ◌∙◌, arith, subst, length-append}
use Rattle.std.proofs.Math.Seq.{get_or-append_seam}
use Rattle.std.proofs.lemmas.List.{get_or_append_left}
use Rattle.rp_words.specs.declared.form.Form.TheVariants as form
use Rattle.rp_words.specs.declared.word.End.{End}
use Rattle.rp_words.specs.Turns.{WordsAndTurns}
use Rattle.rp_program.specs.declared.place.Place.{Place}
use Rattle.rp_program.specs.declared.place.Place.TheVariants.{Match, Row, Split, RowSplit, PartitionStart, PartitionEnd, Loop}
use Rattle.rp_program.specs.Parts.{form_part, joined, either, from_row, no_way, Replaces}
use Rattle.rp_program.specs.Places.{at, at_option, made, stands_for, parts_behind, parts}
use Rattle.rp_program.specs.Drafts.{IsOption, Names, place_at, Holds}

module _ (n : ℕ) (e : End) where
  behind-append : (ps : List WordsAndTurns) (xs ys : List Place) → parts_behind n e ps (xs ++ ys) ≡ parts_behind n e (parts_behind n e ps xs) ys
  behind-append ps [] ys = refl
  behind-append ps (x ∷ xs) ys = behind-append (ps ++ stands_for n e ps x ∷ []) xs ys

  length-behind : (ps : List WordsAndTurns) (xs : List Place) → length (parts_behind n e ps xs) ≡ length ps + length xs
  length-behind ps [] = omega arith
  length-behind ps (x ∷ xs) =
      let a = length-behind (ps ++ stands_for n e ps x ∷ []) xs in
      let b = length-append ps (stands_for n e ps x ∷ []) in
      omega (arith, a, b)

  at_behind : (ps : List WordsAndTurns) (xs : List Place) (q : ℕ) → q < length ps → at (parts_behind n e ps xs) q ≡ at ps q
  at_behind ps [] q h = refl
  at_behind ps (x ∷ xs) q h =
      at_behind (ps ++ stands_for n e ps x ∷ []) xs q (omega (arith, h, length-append ps (stands_for n e ps x ∷ [])))
      ∙ get_or_append_left ps (stands_for n e ps x ∷ []) no_way q h

  pub length-parts : (xs : List Place) → length (parts n e xs) ≡ length xs
  length-parts xs = omega (arith, length-behind [] xs)

  -- earlier places stand for what they stood for
  pub parts_stay : (xs ys : List Place) (q : ℕ) → q < length xs → at (parts n e (xs ++ ys)) q ≡ at (parts n e xs) q
  parts_stay xs ys q h = ap (λ z. at z q) (behind-append [] xs ys) ∙ at_behind (parts n e xs) ys q (omega (arith, h, length-parts xs))

  pub parts_seam : (xs : List Place) (x : Place) (ys : List Place) → at (parts n e (xs ++ x ∷ ys)) (length xs) ≡ stands_for n e (parts n e xs) x
  parts_seam xs x ys =
      let ps = parts n e xs in
      let s = stands_for n e ps x in
      ap (λ z. at z (length xs)) (behind-append [] xs (x ∷ ys))
      ∙ at_behind (ps ++ s ∷ []) ys (length xs) (omega (arith, length-parts xs, length-append ps (s ∷ [])))
      ∙ ap (at (ps ++ s ∷ [])) (sym (length-parts xs)) ∙ get_or-append_seam ps s [] no_way

  -- two places that stand for the same may stand in each other's place
  pub parts_swap : (xs : List Place) (x y : Place) (ys : List Place) → stands_for n e (parts n e xs) x ≡ stands_for n e (parts n e xs) y → parts n e (xs ++ x ∷ ys) ≡ parts n e (xs ++ y ∷ ys)
  parts_swap xs x y ys h =
      behind-append [] xs (x ∷ ys) ∙ ap (λ s. parts_behind n e (parts n e xs ++ s ∷ []) ys) h ∙ sym (behind-append [] xs (y ∷ ys))

  option_same : (k : ℕ) (ps qs : List WordsAndTurns) (place : Option ℕ) → ((q : ℕ) → q < k → at ps q ≡ at qs q) → IsOption k place → at_option ps place ≡ at_option qs place
  option_same k ps qs None h w = refl
  option_same k ps qs (Some q) h w = h q w

  -- what a place makes depends on what the places stand for that it names
  pub made_same : (k q : ℕ) (ps qs : List WordsAndTurns) (x : Place) → q ≤ k → ((q : ℕ) → q < k → at ps q ≡ at qs q) → Names k q x → made n e ps x ≡ made n e qs x
  made_same k q ps qs Match le h w = refl
  made_same k q ps qs (Row var excluded next) le h w = ap (joined (form_part n e (form.Variable var) excluded)) (h next (omega (arith, le, w)))
  made_same k q ps qs (Split preferred other) le h w = let a = h preferred (omega (arith, le, w.0)) in let b = h other (omega (arith, le, w.1)) in cc (a, b)
  made_same k q ps qs (RowSplit preferred other others) le h w = let a = h preferred (omega (arith, le, w.0)) in let b = h other (omega (arith, le, w.1)) in ap (λ z. from_row n e others z) (let both : either (at ps preferred) (at ps other) ≡ either (at qs preferred) (at qs other) = cc (a, b) in both)
  made_same k q ps qs (PartitionStart next) le h w = ap (joined (form_part n e form.PartitionStart false)) (h next (omega (arith, le, w)))
  made_same k q ps qs (PartitionEnd next) le h w = ap (joined (form_part n e form.PartitionEnd false)) (option_same q ps qs next (λ r lt. h r (omega (arith, le, lt))) w)
  made_same k q ps qs (Loop preferred other body excluded reluctant next) le h w = let a = h preferred w.0 in let b = h other w.1 in cc (a, b)

pub names_more : (k m q : ℕ) (x : Place) → k ≤ m → Names k q x → Names m q x
names_more k m q Match le w = w
names_more k m q (Row var excluded next) le w = w
names_more k m q (Split preferred other) le w = w
names_more k m q (RowSplit preferred other others) le w = w
names_more k m q (PartitionStart next) le w = w
names_more k m q (PartitionEnd next) le w = w
names_more k m q (Loop preferred other body excluded reluctant next) le w = (omega (arith, le, w.0), omega (arith, le, w.1), w.2)

pub place_stays : (xs ys : List Place) (q : ℕ) → q < length xs → place_at (xs ++ ys) q ≡ place_at xs q
place_stays xs ys q h = get_or_append_left xs ys Match q h

-- a place that holds, holds with further ones behind it
pub holds_more : (xs ys : List Place) (q : ℕ) → q < length xs → Holds xs q → Holds (xs ++ ys) q
holds_more xs ys q lt h =
    let long = length-append xs ys in
    let same = place_stays xs ys q lt in
    record {
      names = subst (Names (length (xs ++ ys)) q) (sym same) (names_more (length xs) (length (xs ++ ys)) q (place_at xs q) (omega (arith, long)) h.names);
      makes = λ n e i.
          let mine = made_same n e (length xs) q (parts n e (xs ++ ys)) (parts n e xs) (place_at xs q) (omega (arith, lt)) (λ r less. parts_stay n e xs ys r less) h.names in
          subst (λ z. Replaces i z (made n e (parts n e (xs ++ ys)) (place_at (xs ++ ys) q))) (sym (parts_stay n e xs ys q lt))
          (subst (λ z. Replaces i (at (parts n e xs) q) z) (sym (ap (made n e (parts n e (xs ++ ys))) same ∙ mine)) (h.makes n e i));
    }
