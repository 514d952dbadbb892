-- How many turns places take: each what is counted of the places that it names, and one more.
use Rattle.std.proofs.Common.{◌≡◌, ℕ, suc, ◌+◌, ◌<◌, List, [], ◌∷◌, ◌++◌, length, get_or, take, drop, Option, Some, None, refl, sym, ap, ◌∙◌, arith, length-append}
use Rattle.std.proofs.Math.Seq.{get_or-append_seam, drop-cons}
use Rattle.std.proofs.lemmas.List.{get_or_append_left, take-append-drop, length-take-le}
use Rattle.rp_program.specs.declared.place.Place.{Place}
use Rattle.rp_program.specs.declared.place.Place.TheVariants.{Match, Row, Split, RowSplit, PartitionStart, PartitionEnd, Loop}
use Rattle.rp_program.specs.declared.program.Program.{Program}
use Rattle.rp_program.specs.Drafts.{Names, place_at}
use Rattle.rp_program.specs.Programs.{row_next, next_place}
use Rattle.rp_program.specs.Costs.{next_turns, following_of, following_behind, following_in, sides_of, place_cost, place_weight, option_cost}
use Rattle.rp_program.proofs.Running.{names_from}

behind-append : (fs : List ℕ) (xs ys : List Place) → following_behind fs (xs ++ ys) ≡ following_behind (following_behind fs xs) ys
behind-append fs [] ys = refl
behind-append fs (x ∷ xs) ys = behind-append (fs ++ following_of fs x ∷ []) xs ys

length-behind : (fs : List ℕ) (xs : List Place) → length (following_behind fs xs) ≡ length fs + length xs
length-behind fs [] = omega arith
length-behind fs (x ∷ xs) =
    let a = length-behind (fs ++ following_of fs x ∷ []) xs in
    let b = length-append fs (following_of fs x ∷ []) in
    omega (arith, a, b)

at_behind : (fs : List ℕ) (xs : List Place) (q : ℕ) → q < length fs → get_or (following_behind fs xs) q 0 ≡ get_or fs q 0
at_behind fs [] q h = refl
at_behind fs (x ∷ xs) q h =
    at_behind (fs ++ following_of fs x ∷ []) xs q (omega (arith, h, length-append fs (following_of fs x ∷ [])))
    ∙ get_or_append_left fs (following_of fs x ∷ []) 0 q h

length-following : (xs : List Place) → length (following_in xs) ≡ length xs
length-following xs = omega (arith, length-behind [] xs)

following_stays : (xs ys : List Place) (q : ℕ) → q < length xs → get_or (following_in (xs ++ ys)) q 0 ≡ get_or (following_in xs) q 0
following_stays xs ys q h = ap (λ z. get_or z q 0) (behind-append [] xs ys) ∙ at_behind (following_in xs) ys q (omega (arith, h, length-following xs))

following_seam : (xs : List Place) (x : Place) (ys : List Place) → get_or (following_in (xs ++ x ∷ ys)) (length xs) 0 ≡ following_of (following_in xs) x
following_seam xs x ys =
    let fs = following_in xs in
    let f = following_of fs x in
    ap (λ z. get_or z (length xs) 0) (behind-append [] xs (x ∷ ys))
    ∙ at_behind (fs ++ f ∷ []) ys (length xs) (omega (arith, length-following xs, length-append fs (f ∷ [])))
    ∙ ap (λ k. get_or (fs ++ f ∷ []) k 0) (sym (length-following xs)) ∙ get_or-append_seam fs f [] 0

-- it depends on what follows the places that it names
following_same : (k q : ℕ) (fs gs : List ℕ) (x : Place) → ((r : ℕ) → r < q → get_or fs r 0 ≡ get_or gs r 0) → Names k q x → following_of fs x ≡ following_of gs x
following_same k q fs gs Match h w = refl
following_same k q fs gs (Row var excluded next) h w = ap suc (h next w)
following_same k q fs gs (Split preferred other) h w = refl
following_same k q fs gs (RowSplit preferred other others) h w = refl
following_same k q fs gs (PartitionStart next) h w = ap suc (h next w)
following_same k q fs gs (PartitionEnd None) h w = refl
following_same k q fs gs (PartitionEnd (Some next)) h w = ap suc (h next w)
following_same k q fs gs (Loop preferred other body excluded reluctant next) h w = refl

place_seam : (places : List Place) (q : ℕ) → q < length places → take q places ++ place_at places q ∷ drop (suc q) places ≡ places
place_seam places q lt = ap (λ z. take q places ++ z) (sym (drop-cons places q Match lt)) ∙ take-append-drop q places

following_at : (places : List Place) (q : ℕ) → q < length places → Names (length places) q (place_at places q) →
    get_or (following_in places) q 0 ≡ following_of (following_in places) (place_at places q)
following_at places q lt names =
    let before = take q places in
    let x = place_at places q in
    let after = drop (suc q) places in
    let whole = place_seam places q lt in
    let long : length before ≡ q = length-take-le q places (omega (arith, lt)) in
    let here : get_or (following_in (before ++ x ∷ after)) (length before) 0 ≡ following_of (following_in before) x = following_seam before x after in
    let same : following_of (following_in (before ++ x ∷ after)) x ≡ following_of (following_in before) x =
    following_same (length places) q (following_in (before ++ x ∷ after)) (following_in before) x (λ r less. following_stays before (x ∷ after) r (omega (arith, less, long))) names in
    ap (λ k. get_or (following_in places) k 0) (sym long) ∙ ap (λ z. get_or (following_in z) (length before) 0) (sym whole) ∙ here ∙ sym same ∙ ap (λ z. following_of (following_in z) x) whole

-- a turn at least
pub some_cost : (p : Program) (place : ℕ) → 0 < place_cost p place
unfolding place_cost
some_cost p place = omega arith

module _ (p : Program) (place : ℕ) (lt : place < length p.places.items) where
  names : Names (length p.places.items) place (place_at p.places.items place)
  names = names_from (length p.places.items) place (place_at p.places.items place) (p.named place lt)

  -- one turn, and those that follow
  pub cost_at : (x : Place) → place_at p.places.items place ≡ x → place_cost p place ≡ suc (following_of (following_in p.places.items) x)
  unfolding place_cost
  cost_at x is = ap suc (following_at p.places.items place lt names ∙ ap (following_of (following_in p.places.items)) is)

  pub weight_at : (x : Place) → place_at p.places.items place ≡ x → place_weight p place ≡ sides_of (following_in p.places.items) x
  unfolding place_weight
  weight_at x is = ap (sides_of (following_in p.places.items)) is

  pub start_takes : (next : ℕ) → place_at p.places.items place ≡ PartitionStart next → (place_weight p place ≡ 0) × (place_cost p next < place_cost p place)
  unfolding place_cost
  start_takes next is = (weight_at (PartitionStart next) is, omega (arith, cost_at (PartitionStart next) is))

  pub end_takes : (next : Option ℕ) → place_at p.places.items place ≡ PartitionEnd next → (place_weight p place ≡ 0) × (option_cost p next < place_cost p place)
  unfolding place_cost
  end_takes None is = (weight_at (PartitionEnd None) is, omega (arith, cost_at (PartitionEnd None) is))
  end_takes (Some q) is = (weight_at (PartitionEnd (Some q)) is, omega (arith, cost_at (PartitionEnd (Some q)) is))

  pub row_takes : (x : Place) → place_at p.places.items place ≡ x → option_cost p (row_next x) < place_cost p place
  unfolding place_cost
  row_takes Match is = omega (arith, cost_at Match is)
  row_takes (Row v x next) is = omega (arith, cost_at (Row v x next) is)
  row_takes (Split a b) is = omega (arith, cost_at (Split a b) is)
  row_takes (RowSplit a b others) is = omega (arith, cost_at (RowSplit a b others) is)
  row_takes (PartitionStart next) is = omega (arith, cost_at (PartitionStart next) is)
  row_takes (PartitionEnd next) is = omega (arith, cost_at (PartitionEnd next) is)
  row_takes (Loop a b body x r next) is = omega (arith, cost_at (Loop a b body x r next) is)

  pub after_takes : option_cost p (next_place p place) < place_cost p place
  unfolding next_place
  after_takes = row_takes (place_at p.places.items place) refl

  -- a split, or a loop
  pub split_takes : (a b : ℕ) (x : Place) → place_at p.places.items place ≡ x → ((fs : List ℕ) → sides_of fs x ≡ next_turns fs a + next_turns fs b) →
      place_weight p place ≡ place_cost p a + place_cost p b
  unfolding place_cost
  split_takes a b x is sides = weight_at x is ∙ sides (following_in p.places.items)
