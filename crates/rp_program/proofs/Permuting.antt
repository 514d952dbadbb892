-- The orders of a PERMUTE.
use Rattle.std.proofs.Common.{◌≡◌, ℕ, zero, suc, ◌+◌, ◌-◌, ◌<◌, ◌≤◌, List, [], ◌∷◌, map, length, drop, get_or, Bool, sym, ap, ◌∙◌, arith, subst}
use Rattle.std.specs.List.{range_with_len, AllByRecursion}
use Rattle.std.proofs.Math.Seq.{drop-cons}
use Rattle.std.proofs.lemmas.List.{length-map, drop_all, get_or-map}
use Rattle.std.specs.declared.vec.Vec.{Vec}
use Rattle.std.specs.declared.rc.Rc.{Rc}
use Rattle.std.specs.declared.alloc.Global.{Global}
use Rattle.rp_words.specs.declared.form.Form.{Form}
use Rattle.rp_words.specs.declared.form.Form.TheVariants as V
use Rattle.rp_words.specs.declared.word.End.{End}
use Rattle.rp_words.specs.Permutations.{upto, factorial}
use Rattle.rp_words.specs.Words.{nothing_mapped, orders, picks, led, arrangements, permuted, words, within_exclusion}
use Rattle.rp_words.specs.Turns.{WordsAndTurns, one_turn, turns, words_of, orders_from, within, permuted_turns}
use Rattle.rp_words.proofs.Lists.{All-map, All-flat_map, map-map}
use Rattle.rp_words.proofs.Algebra.{concatenation_nothing_first}
use Rattle.rp_words.proofs.FormEquations.{words_permute}
use Rattle.rp_words.proofs.TurnEquations.{whole_part, turns_permute}
use Rattle.rp_words.proofs.TurnsPermuted.{order_words, no_order_words, chain-append, order_taken, permuted_words, permuted_turns-le}
use Rattle.rp_words.proofs.OrdersAt.{length-orders, orders_at}
use Rattle.rp_program.specs.declared.place.Place.{Place}
use Rattle.rp_program.specs.declared.place.Next.{Next}
use Rattle.rp_program.specs.Parts.{form_part, form_parts, joined, either, no_way, chained, in_order, Replaces}
use Rattle.rp_program.specs.Drafts.{IsWithin, LeadsInto, LeadsInOrder, Chooses}
use Rattle.rp_program.proofs.Chains.{one_part}
use Rattle.rp_program.proofs.Parts.{replaces_self, replaces_then, first_replaced, either_replaced, no_second}
use Rattle.rp_program.proofs.Growth.{grows_then}
use Rattle.rp_program.proofs.Steps.{leads_weaker, leads_nothing, leads_either, leads_unmoved, leads_moved, before_unmoved, before_moved, within_grown, leads_more}

-- ---- numbers of an order

module _ {A : Type 0} (P : A → Type 0) where
  picks_keep : (xs : List A) → AllByRecursion P xs → AllByRecursion (λ p. P p.0 × AllByRecursion P p.1) (picks xs)
  picks_keep [] a = tt
  picks_keep (x ∷ xs) a = ((a.0, a.1), All-map (λ p. P p.0 × AllByRecursion P p.1) (λ p. P p.0 × AllByRecursion P p.1) (λ p. (p.0, x ∷ p.1)) (λ p h. (h.0, (a.0, h.1))) (picks xs) (picks_keep xs a.1))

  arrangements_keep : (k : ℕ) (xs : List A) → AllByRecursion P xs → AllByRecursion (AllByRecursion P) (arrangements k xs)
  arrangements_keep zero xs a = (tt, tt)
  arrangements_keep (suc k) xs a =
      All-flat_map (λ p. P p.0 × AllByRecursion P p.1) (AllByRecursion P) (led (arrangements k))
      (λ p h. All-map (AllByRecursion P) (AllByRecursion P) (λ order. p.0 ∷ order) (λ order b. (h.0, b)) (arrangements k p.1) (arrangements_keep k p.1 h.1))
      (picks xs) (picks_keep xs a)

drop_keep : {A : Type 0} (P : A → Type 0) (n : ℕ) (xs : List A) → AllByRecursion P xs → AllByRecursion P (drop n xs)
drop_keep P zero xs a = a
drop_keep P (suc n) [] a = tt
drop_keep P (suc n) (x ∷ xs) a = drop_keep P n xs a.1

range_below : (a n k : ℕ) → a + n ≤ k → AllByRecursion (λ x. x < k) (range_with_len a n)
range_below a zero k h = tt
range_below a (suc n) k h = (omega arith, range_below (a + 1) n k (omega arith))

-- an order of 0 to k - 1 has numbers below k
pub items_below : (k place : ℕ) (items : List ℕ) (rest : List (List ℕ)) → drop place (orders (upto k)) ≡ items ∷ rest → AllByRecursion (λ x. x < k) items
items_below k place items rest h =
    let all = arrangements_keep (λ x. x < k) (length (upto k)) (upto k) (range_below 0 k k (omega arith)) in
    let P : List (List ℕ) → Type 0 = AllByRecursion (AllByRecursion (λ x. x < k)) in
    let a = subst P h (drop_keep (AllByRecursion (λ x. x < k)) place (orders (upto k)) all) in
    a.0

-- ---- the parts in an order

pub leads_no_part : (ps : ℕ → End → List WordsAndTurns) (order : List ℕ) (next : Next) (old : List Place) → IsWithin (length old) next →
    LeadsInto (λ n e. chained (in_order (ps n e) (drop (length order - 0) order))) next old old next
leads_no_part ps order next old w =
    subst (λ z. LeadsInto (λ n e. chained (in_order (ps n e) z)) next old old next) (sym (drop_all (length order - 0) order (omega arith)))
    (leads_nothing (λ n e. chained []) next old w (λ n e i later. record {
      words = sym (concatenation_nothing_first later.0 i);
      turns = let at : i + 0 ≡ i = omega arith in omega (arith, ap later.1 at);
    }))

part_at : (n : ℕ) (e : End) (x : Bool) (forms : List (Rc Form Global)) (k : ℕ) (f : Rc Form Global) → k < length forms → f ≡ get_or forms k f → get_or (form_parts n e forms x) k (nothing_mapped, one_turn) ≡ form_part n e f.value x
part_at n e x forms k f lt is = get_or-map (λ p. form_part n e p.value x) forms k f (nothing_mapped, one_turn) lt ∙ ap (λ p. form_part n e p.value x) (sym is)

pub all_at : (P : ℕ → Type 0) (xs : List ℕ) (k d : ℕ) → AllByRecursion P xs → k < length xs → P (get_or xs k d)
all_at P [] k d a lt = absurd (omega (arith, lt))
all_at P (x ∷ xs) zero d a lt = a.0
all_at P (x ∷ xs) (suc k) d a lt = all_at P xs k d a.1 (omega (arith, lt))

-- one part more, from the last one on
pub leads_next : (x : Bool) (forms : List (Rc Form Global)) (order : List ℕ) (taken part : ℕ) (f : Rc Form Global) (next between r : Next) (old mid new : List Place) →
    AllByRecursion (λ k. k < length forms) order → taken < length order → part ≡ get_or order (length order - 1 - taken) 0 → f ≡ get_or forms part f →
    LeadsInto (λ n e. chained (in_order (form_parts n e forms x) (drop (length order - taken) order))) next old mid between → LeadsInto (λ n e. form_part n e f.value x) between mid new r →
    LeadsInto (λ n e. chained (in_order (form_parts n e forms x) (drop (length order - (taken + 1)) order))) next old new r
leads_next x forms order taken part f next between r old mid new within lt is_part is_f a b =
    let at : ℕ = length order - 1 - taken in
    let in_order_at : at < length order = omega (arith, lt) in
    let same : length order - (taken + 1) ≡ at = omega (arith, lt) in
    let later : suc at ≡ length order - taken = omega (arith, lt) in
    let opened : drop (length order - (taken + 1)) order ≡ part ∷ drop (length order - taken) order =
    ap (λ k. drop k order) same ∙ drop-cons order at 0 in_order_at ∙ ap (λ k. k ∷ drop (suc at) order) (sym is_part) ∙ ap (λ k. part ∷ drop k order) later in
    let below : part < length forms = subst (λ k. k < length forms) (sym is_part) (all_at (λ k. k < length forms) order at 0 within in_order_at) in
    leads_more (λ n e. form_part n e f.value x) (λ n e. chained (in_order (form_parts n e forms x) (drop (length order - taken) order)))
    (λ n e. chained (in_order (form_parts n e forms x) (drop (length order - (taken + 1)) order))) next between r old mid new
    (λ n e. ap (λ p. joined p (chained (in_order (form_parts n e forms x) (drop (length order - taken) order)))) (sym (part_at n e x forms part f below is_f))
    ∙ ap (λ z. chained (in_order (form_parts n e forms x) z)) (sym opened))
    a b

-- ---- one order or a later one

module _ (from : ℕ) (ps : List WordsAndTurns) (items : List ℕ) (is : drop from (orders (upto (length ps))) ≡ items ∷ drop (from + 1) (orders (upto (length ps)))) (i : ℕ) where
  abbrev order : List WordsAndTurns
  order = in_order ps items

  order_at : drop from (orders ps) ≡ in_order ps items ∷ drop (from + 1) (orders ps)
  order_at = orders_at (nothing_mapped, one_turn) ps from items is

  chain_splits : (ts : List WordsAndTurns) → Replaces i (joined (orders_from from ps) (chained ts)) (either (joined (chained order) (chained ts)) (joined (orders_from (from + 1) ps) (chained ts)))
  chain_splits ts = record {
    words = sym (order_words from ps order (chained ts).0 i order_at);
    turns = omega (arith, order_taken from ps order ts i order_at, chain-append order ts i);
  }

  pub order_splits : (later : WordsAndTurns) → Replaces i (joined (orders_from from ps) later) (either (joined (chained order) later) (joined (orders_from (from + 1) ps) later))
  order_splits later = subst (λ z. Replaces i (joined (orders_from from ps) z) (either (joined (chained order) z) (joined (orders_from (from + 1) ps) z))) (one_part later) (chain_splits (later ∷ []))

  -- behind the last order there is none
  pub last_order : (later : WordsAndTurns) → factorial (length ps) ≤ from + 1 → Replaces i (joined (orders_from from ps) later) (joined (chained order) later)
  last_order later last =
      let first = joined (chained order) later in
      let none : Replaces i (joined (orders_from (from + 1) ps) later) no_way = record {
        words = sym (no_order_words (from + 1) ps later.0 i (omega (arith, length-orders ps, last)));
        turns = omega arith;
      } in
      replaces_then i (joined (orders_from from ps) later) (either first (joined (orders_from (from + 1) ps) later)) first (order_splits later)
      (replaces_then i (either first (joined (orders_from (from + 1) ps) later)) (either first no_way) first
      (either_replaced first (joined (orders_from (from + 1) ps) later) first no_way i (replaces_self i first) none) (no_second first i))

module _ (x : Bool) (forms : List (Rc Form Global)) where
  long : (n : ℕ) (e : End) → length forms ≡ length (form_parts n e forms x)
  long n e = sym (length-map forms (λ f. form_part n e f.value x))

  pub leads_last : (from : ℕ) (next r : Next) (old new : List Place) → factorial (length forms) ≤ from + 1 → LeadsInOrder forms from x next old new r → LeadsInto (λ n e. orders_from from (form_parts n e forms x)) next old new r
  leads_last from next r old new last h =
      leads_weaker (λ n e. orders_from from (form_parts n e forms x)) (λ n e. chained (in_order (form_parts n e forms x) h.order)) next old new r
      (λ n e i later. last_order from (form_parts n e forms x) h.order (subst (λ k. drop from (orders (upto k)) ≡ h.order ∷ drop (from + 1) (orders (upto k))) (long n e) h.is_order) i later
      (omega (arith, last, ap factorial (long n e))))
      h.leads

  pub leads_orders : (from : ℕ) (next a b r : Next) (old m1 m2 new : List Place) → IsWithin (length old) next → LeadsInto (λ n e. orders_from (from + 1) (form_parts n e forms x)) next old m1 b → LeadsInOrder forms from x next m1 m2 a → Chooses a b m2 new r →
      LeadsInto (λ n e. orders_from from (form_parts n e forms x)) next old new r
  leads_orders from next a b r old m1 m2 new w later first choose =
      let p : ℕ → End → WordsAndTurns = λ n e. chained (in_order (form_parts n e forms x) first.order) in
      let q : ℕ → End → WordsAndTurns = λ n e. orders_from (from + 1) (form_parts n e forms x) in
      leads_either p q (λ n e. orders_from from (form_parts n e forms x))
      (λ n e i z. order_splits from (form_parts n e forms x) first.order (subst (λ k. drop from (orders (upto k)) ≡ first.order ∷ drop (from + 1) (orders (upto k))) (long n e) first.is_order) i z)
      next a b r old m2 new (grows_then old m1 m2 later.grows first.leads.grows) first.leads.within (within_grown m1 m2 b first.leads.grows later.within)
      (before_unmoved p next a old m1 m2 w later.grows first.leads) (before_moved p next a old m1 m2 w later.grows first.leads)
      (leads_unmoved q next b old m1 m2 later first.leads.grows) (leads_moved q next b old m1 m2 later first.leads.grows) choose

-- ---- the PERMUTE itself

module _ (n : ℕ) (e : End) (x : Bool) (ps : Vec (Rc Form Global) Global) (i : ℕ) where
  abbrev wholes : List WordsAndTurns
  wholes = map (λ p. whole_part n e p.value) ps.items

  same_parts : form_parts n e ps.items x ≡ map (within x) wholes
  same_parts = sym (map-map (within x) (λ p. whole_part n e p.value) ps.items)

  permute_replaced : Replaces i (form_part n e (V.Permute ps) x) (orders_from 0 (form_parts n e ps.items x))
  permute_replaced =
      let w : words n e (V.Permute ps) ≡ permuted (map words_of wholes) = words_permute n e ps ∙ ap permuted (sym (map-map words_of (λ p. whole_part n e p.value) ps.items)) in
      let t : turns n e (V.Permute ps) ≡ permuted_turns wholes = turns_permute n e ps in
      record {
        words = ap (λ z. (orders_from 0 z).0 i) same_parts ∙ sym (permuted_words x wholes i) ∙ ap (λ z. within_exclusion x z i) (sym w);
        turns = omega (arith, ap (λ z. (orders_from 0 z).1 i) same_parts, permuted_turns-le x wholes i, ap (λ z. z i) t);
      }

pub leads_permute : (x : Bool) (ps : Vec (Rc Form Global) Global) (next r : Next) (old new : List Place) → LeadsInto (λ n e. orders_from 0 (form_parts n e ps.items x)) next old new r → LeadsInto (λ n e. form_part n e (V.Permute ps) x) next old new r
leads_permute x ps next r old new h = leads_weaker (λ n e. form_part n e (V.Permute ps) x) (λ n e. orders_from 0 (form_parts n e ps.items x)) next old new r
    (λ n e i later. first_replaced (form_part n e (V.Permute ps) x) (orders_from 0 (form_parts n e ps.items x)) later i (permute_replaced n e x ps i)) h
