-- Taking up an order of a PERMUTE.
use Rattle.std.proofs.Common.{◌≡◌, ℕ, zero, suc, ◌+◌, ◌<◌, ◌≤◌, List, [], ◌∷◌, ◌++◌, map, length, get_or, drop, Bool, true, false, ◌&&◌, Option, None, Result, Ok, Err, IfOk, IsTrue, refl, sym, ap, ◌∙◌, arith, subst}
use Rattle.std.specs.List.{flat_map, range_with_len, AllByRecursion}
use Rattle.std.proofs.lemmas.List.{length-map, map-append, get_or-map}
use Rattle.std.specs.declared.vec.Vec.{Vec}
use Rattle.std.specs.declared.rc.Rc.{Rc}
use Rattle.std.specs.declared.alloc.Global.{Global}
use Rattle.rp_words.specs.declared.form.Form.{Form}
use Rattle.rp_words.specs.declared.form.Form.TheOpen as F
use Rattle.rp_words.specs.declared.form.Form.TheVariants as V
use Rattle.rp_words.specs.declared.form.Form.TheViews.{out-roll-Form}
use Rattle.rp_words.specs.declared.word.End.{End}
use Rattle.rp_pattern.specs.declared.machine.split.Split.{Split}
use Rattle.rp_pattern.specs.declared.machine.node.Node.{Node}
use Rattle.rp_pattern.specs.declared.machine.link.Link.{Link}
use Rattle.rp_pattern.specs.declared.machine.link.Part.TheVariants.{Whole}
use Rattle.rp_words.specs.Bounds.{is_allowed}
use Rattle.rp_words.specs.Variables.{all_true}
use Rattle.rp_words.specs.Permutations.{upto, factorial}
use Rattle.rp_pattern.specs.PermutedParts.{layer_parts, permuted_parts}
use Rattle.rp_words.specs.Words.{nothing_mapped, followed, concatenation, sequence, orders, picks, led, arrangements, permuted, words}
use Rattle.rp_words.specs.Turns.{WordsAndTurns, one_turn, turns, words_of, orders_from, within, permuted_turns}
use Rattle.rp_program.specs.Parts.{form_part, in_order}
use Rattle.rp_pattern.specs.Continuations.{chain_words, permuted_form_parts, IsNodeOf, tail_links, tail_parts, links_parts}
use Rattle.rp_pattern.specs.Splits.{StandsFor, SplitsAt}
use Rattle.rp_words.proofs.Lists.{All-map, All-flat_map, map-map}
use Rattle.rp_words.proofs.FormEquations.{words_permute}
use Rattle.rp_words.proofs.TurnEquations.{whole_part, turns_permute}
use Rattle.rp_words.proofs.OrdersAt.{length-orders, orders_at}
use Rattle.rp_words.proofs.TurnsPermuted.{sequence-append, order_words, no_order_words, permuted_words, order_taken, no_order_taken, permuted_taken}
use Rattle.rp_program.proofs.Expansions.{LeavesTwo}
use Rattle.rp_pattern.proofs.Steps.{node_as}

-- ---- positions of an order

module _ {A : Type 0} (P : A → Type 0) where
  picks_keep : (xs : List A) → AllByRecursion P xs → AllByRecursion (λ p. P p.0 × AllByRecursion P p.1) (picks xs)
  picks_keep [] a = tt
  picks_keep (x ∷ xs) a = ((a.0, a.1), All-map (λ p. P p.0 × AllByRecursion P p.1) (λ p. P p.0 × AllByRecursion P p.1) (λ p. (p.0, x ∷ p.1)) (λ p h. (h.0, (a.0, h.1))) (picks xs) (picks_keep xs a.1))

  arrangements_keep : (k : ℕ) (xs : List A) → AllByRecursion P xs → AllByRecursion (AllByRecursion P) (arrangements k xs)
  arrangements_keep zero xs a = (tt, tt)
  arrangements_keep (suc k) xs a =
      All-flat_map (λ p. P p.0 × AllByRecursion P p.1) (AllByRecursion P) (led (arrangements k))
      (λ p h. All-map (AllByRecursion P) (AllByRecursion P) (λ order. p.0 ∷ order) (λ order b. (h.0, b)) (arrangements k p.1) (arrangements_keep k p.1 h.1))
      (picks xs) (picks_keep xs a)

drop_keep : {A : Type 0} (P : A → Type 0) (n : ℕ) (xs : List A) → AllByRecursion P xs → AllByRecursion P (drop n xs)
drop_keep P zero xs a = a
drop_keep P (suc n) [] a = tt
drop_keep P (suc n) (x ∷ xs) a = drop_keep P n xs a.1

range_below : (a n k : ℕ) → a + n ≤ k → AllByRecursion (λ x. x < k) (range_with_len a n)
range_below a zero k h = tt
range_below a (suc n) k h = (omega arith, range_below (a + 1) n k (omega arith))

-- an order of 0 to k - 1 has numbers below k
pub items_below : (k place : ℕ) (items : List ℕ) (rest : List (List ℕ)) → drop place (orders (upto k)) ≡ items ∷ rest → AllByRecursion (λ x. x < k) items
items_below k place items rest h =
    let all = arrangements_keep (λ x. x < k) (length (upto k)) (upto k) (range_below 0 k k (omega arith)) in
    let P : List (List ℕ) → Type 0 = AllByRecursion (AllByRecursion (λ x. x < k)) in
    let a = subst P h (drop_keep (AllByRecursion (λ x. x < k)) place (orders (upto k)) all) in
    a.0

-- ---- the parts of a PERMUTE

pub permuted_permute : (ps : Vec (Rc Form Global) Global) → permuted_parts (V.Permute ps) ≡ map (λ p. p.value) ps.items
permuted_permute ps = ap permuted_parts (sym (V.rolls-Permute ps)) ∙ ap layer_parts (out-roll-Form (F.Permute ps))

pub and_last : (a b : Bool) → IsTrue (a && b) → IsTrue b
and_last true b h = h
and_last false b h = absurd cc

and_first : (a b : Bool) → IsTrue (a && b) → IsTrue a
and_first true b h = refl
and_first false b h = absurd cc

pub allowed_at : (ps : List (Rc Form Global)) (k : ℕ) (d : Rc Form Global) → IsTrue (all_true (map (λ p. is_allowed p.value) ps)) → k < length ps → IsTrue (is_allowed (get_or ps k d).value)
allowed_at [] k d h b = absurd (omega arith)
allowed_at (p ∷ ps) zero d h b = and_first (is_allowed p.value) (all_true (map (λ p. is_allowed p.value) ps)) h
allowed_at (p ∷ ps) (suc k) d h b = allowed_at ps k d (and_last (is_allowed p.value) (all_true (map (λ p. is_allowed p.value) ps)) h) (omega arith)

-- the part at a place
pub part_at : (n : ℕ) (e : End) (x : Bool) (fs : List Form) (ps : List (Rc Form Global)) (k : ℕ) (r : Rc Form Global) → map (λ p. p.value) ps ≡ fs → k < length ps → r ≡ get_or ps k r →
    get_or (map (λ f. form_part n e f x) fs) k (nothing_mapped, one_turn) ≡ form_part n e r.value x
part_at n e x fs ps k r h b is =
    ap (λ z. get_or (map (λ f. form_part n e f x) z) k (nothing_mapped, one_turn)) (sym h)
    ∙ ap (λ z. get_or z k (nothing_mapped, one_turn)) (map-map (λ f. form_part n e f x) (λ p. p.value) ps)
    ∙ get_or-map (λ p. form_part n e p.value x) ps k r (nothing_mapped, one_turn) b
    ∙ ap (λ p. form_part n e p.value x) (sym is)

-- ---- the orders from a number on

chain_append : (order ts : List WordsAndTurns) (i : ℕ) → chain_words (order ++ ts) i ≡ concatenation (sequence (map words_of order)) (chain_words ts) i
chain_append order ts i = ap (λ z. sequence z i) (map-append words_of order ts) ∙ sequence-append (map words_of order) (map words_of ts) i

pub order_leaves : (from : ℕ) (ps : List WordsAndTurns) (k : ℕ) (items : List ℕ) (ts : List WordsAndTurns) (i : ℕ) → k ≡ length ps → drop from (orders (upto k)) ≡ items ∷ drop (from + 1) (orders (upto k)) →
    LeavesTwo i (orders_from from ps ∷ ts) (in_order ps items ++ ts) (orders_from (from + 1) ps ∷ ts)
order_leaves from ps k items ts i long h =
    let at = orders_at (nothing_mapped, one_turn) ps from items (subst (λ k. drop from (orders (upto k)) ≡ items ∷ drop (from + 1) (orders (upto k))) long h) in
    record {
      words = ap (λ z. z ++ chain_words (orders_from (from + 1) ps ∷ ts) i) (chain_append (in_order ps items) ts i) ∙ sym (order_words from ps (in_order ps items) (chain_words ts) i at);
      turns = omega (arith, order_taken from ps (in_order ps items) ts i at);
    }

-- past the last order nothing stands
pub no_order : (n : ℕ) (e : End) (i from : ℕ) (ps ts : List WordsAndTurns) → factorial (length ps) ≤ from → StandsFor n e i (orders_from from ps ∷ ts) None
no_order n e i from ps ts h =
    let past : length (orders ps) ≤ from = omega (arith, length-orders ps) in
    record { words = sym (no_order_words from ps (chain_words ts) i past); turns = sym (no_order_taken from ps ts i past) }

-- what splits the orders of the parts splits the PERMUTE
pub permute_splits : (n : ℕ) (e : End) (i : ℕ) (x : Bool) (f : Form) (ps : Vec (Rc Form Global) Global) (ts : List WordsAndTurns) (s : Split) → f ≡ V.Permute ps →
    SplitsAt n e i (orders_from 0 (map (λ f. form_part n e f x) (permuted_parts f)) ∷ ts) s → SplitsAt n e i (form_part n e f x ∷ ts) s
permute_splits n e i x f ps ts s is h =
    let qs : List WordsAndTurns = map (λ p. whole_part n e p.value) ps.items in
    let same : map (λ f. form_part n e f x) (permuted_parts f) ≡ map (within x) qs =
    ap (λ f. map (λ f. form_part n e f x) (permuted_parts f)) is ∙ ap (map (λ f. form_part n e f x)) (permuted_permute ps)
    ∙ map-map (λ f. form_part n e f x) (λ p. p.value) ps.items ∙ sym (map-map (within x) (λ p. whole_part n e p.value) ps.items) in
    let k = subst (λ z. SplitsAt n e i (orders_from 0 z ∷ ts) s) same h in
    let w : words n e f ≡ permuted (map words_of qs) = ap (words n e) is ∙ words_permute n e ps ∙ ap permuted (sym (map-map words_of (λ p. whole_part n e p.value) ps.items)) in
    let t : turns n e f ≡ permuted_turns qs = ap (turns n e) is ∙ turns_permute n e ps in
    subst (λ z. SplitsAt n e i (within x (z, turns n e f) ∷ ts) s) (sym w)
    (subst (λ z. SplitsAt n e i (within x (permuted (map words_of qs), z) ∷ ts) s) (sym t)
    (record {
      words = k.words ∙ ap (flat_map (followed (chain_words ts) i)) (sym (permuted_words x qs i));
      turns = omega (arith, k.turns, permuted_taken x qs ts i);
    }))

pub IfOk-map : {T E : Type 0} (P Q : T → Type 0) → ((v : T) → P v → Q v) → (r : Result T E) → IfOk r P → IfOk r Q
IfOk-map P Q f (Ok v) h = f v h
IfOk-map P Q f (Err e) h = h

pub permuted_same : (n : ℕ) (e : End) (copy node : Node) → IsNodeOf node.form.value node.excluded copy → permuted_form_parts n e copy ≡ permuted_form_parts n e node
permuted_same n e copy node h =
    ap (λ f. map (λ g. form_part n e g copy.excluded) (permuted_parts f)) h.0 ∙ ap (λ x. map (λ g. form_part n e g x) (permuted_parts node.form.value)) h.1

-- the parts in an order, one before the others
pub next_linked : (n : ℕ) (e : End) (self node : Node) (ps : List (Rc Form Global)) (r : Rc Form Global) (k : ℕ) (ks all : List ℕ) (tail rest then : Option (Rc Link Global)) →
    map (λ p. p.value) ps ≡ permuted_parts self.form.value → AllByRecursion (λ k. k < length (permuted_parts self.form.value)) all → all ≡ k ∷ ks → r ≡ get_or ps k r → IsNodeOf r.value self.excluded node →
    tail_parts n e rest ≡ in_order (permuted_form_parts n e self) ks ++ tail_parts n e then → tail_links tail ≡ (None, Whole node) ∷ tail_links rest → tail_parts n e tail ≡ in_order (permuted_form_parts n e self) all ++ tail_parts n e then
next_linked n e self node ps r k ks all tail rest then same within is read made later linked =
    let P : List ℕ → Type 0 = AllByRecursion (λ k. k < length (permuted_parts self.form.value)) in
    let below = subst P is within in
    let room : k < length ps = omega (arith, below.0, ap length same, length-map ps (λ p. p.value)) in
    ap (links_parts n e) linked
    ∙ ap (λ p. p ∷ tail_parts n e rest) (node_as n e node r.value self.excluded made ∙ sym (part_at n e self.excluded (permuted_parts self.form.value) ps k r same room read))
    ∙ ap (λ z. get_or (permuted_form_parts n e self) k (nothing_mapped, one_turn) ∷ z) later
    ∙ ap (λ z. in_order (permuted_form_parts n e self) z ++ tail_parts n e then) (sym is)
