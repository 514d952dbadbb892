-- What an operation on the stack does to the words of its choices.
use Rattle.std.proofs.Common.{◌≡◌, ℕ, ◌+◌, ◌-◌, ◌<◌, ◌≤◌, suc, zero, List, [], ◌∷◌, ◌++◌, map, length, take, drop, reverse, Bool, true, false, cond, ◌&&◌, Option, Some, None, IsTrue, refl, sym, ap, ◌∙◌, arith, subst, append_assoc, length-append}
use Rattle.std.specs.Prelude.{nat_le}
use Rattle.rp_words.specs.declared.form.Form.{Form}
use Rattle.std.proofs.lemmas.Bool.Decides.{nat_tests}
use Rattle.std.proofs.lemmas.List.{take-append-drop, take-append-le, length-take-le, map-append, length-map, reverse-append}
use Rattle.rp_words.specs.declared.word.End.{End}
use Rattle.rp_words.specs.declared.word.Label.{Label}
use Rattle.rp_pattern.specs.declared.choices.Choices.{Choices}
use Rattle.rp_pattern.specs.declared.ways.Ways.{Ways}
use Rattle.rp_words.specs.Mapping.{Full, Open, preceded}
use Rattle.rp_words.specs.Words.{words}
use Rattle.rp_words.specs.Turns.{turns}
use Rattle.rp_words.specs.Later.{IsLater}
use Rattle.rp_pattern.specs.Rests.{Rest, Way, left_at, way_words, stack_words, stack_left, rises, pushed, option_words, option_turns, OfFirst, first_later, StandsFor, Splits, TakesRow, Waits}
use Rattle.rp_pattern.specs.declared.ways.Ways.TheVariants.{Linked, Compiled}
use Rattle.rp_pattern.specs.declared.machine.continuation.Choice.{Choice}
use Rattle.rp_pattern.specs.Linked.{linked_ways}
use Rattle.rp_pattern.specs.Ways.{Keeps, IsNumbered, kept_of, stack_of, origin, most_turns, kept_place_words}
use Rattle.rp_pattern.specs.Choices.{kept, start_of, entered, whole, whole_turns, whole_from, whole_turns_from, spared, remaining, turns_left, height, of_top, above, above_below, place_words, below, turns_left_below, after, turns_left_after, HasTop, AtRow, AreFirstOf, AreStrictlyFirstOf, IsSamePattern, IsSameWhole, IsSameRemaining, IsSplit, KeepsAbove, IsMappedRow, IsFullWord, IsOpenWord, IsNothing}
use Rattle.rp_words.proofs.Lists.{All-map, map-map}
use Rattle.rp_words.proofs.Algebra.{append_nil, map_same, preceded_twice, map_preceded_nothing}

-- ---- linked parts have no places

abbrev first_single : List Way → Bool
first_single [] = true
first_single (w ∷ ws) = w.rest.single

linked_single : (zs : List Choice) (t : Way) (ts : List Way) → linked_ways zs ≡ t ∷ ts → t.rest.single ≡ true
linked_single [] t ts on = cc
linked_single (z ∷ zs) t ts on = sym (ap first_single on)

single_first : (w : Ways) (t : Way) (ts : List Way) → stack_of w ≡ t ∷ ts → (IsNumbered (kept_of w) → ⊥) → t.rest.single ≡ true
single_first (Linked l) t ts on h = linked_single l.stack t ts on
single_first (Compiled c) t ts on h = absurd (h tt)

single_top : (c : Choices) (t : Way) (ts : List Way) → stack_of c.ways ≡ t ∷ ts → (IsNumbered (kept c) → ⊥) → t.rest.single ≡ true
unfolding kept
single_top c t ts on h = single_first c.ways t ts on h

-- ---- depths that rise

pub rises_first : (m : ℕ) (c : Way) (cs : List Way) → IsTrue (rises m (c ∷ cs)) → (c.depth ≤ m) × IsTrue (rises c.depth cs)
rises_first m c cs h = go (nat_le c.depth m) refl h
  where
    go : (b : Bool) → nat_le c.depth m ≡ b → IsTrue (b && rises c.depth cs) → (c.depth ≤ m) × IsTrue (rises c.depth cs)
    go true e h = (grind (arith, nat_tests), h)
    go false e h = absurd cc

pub rises_on : (m : ℕ) (c : Way) (cs : List Way) → c.depth ≤ m → IsTrue (rises c.depth cs) → IsTrue (rises m (c ∷ cs))
rises_on m c cs a h = go (nat_le c.depth m) refl
  where
    go : (b : Bool) → nat_le c.depth m ≡ b → IsTrue (b && rises c.depth cs)
    go true e = h
    go false e = absurd (grind (arith, nat_tests))

pub rises_more : (m k : ℕ) (cs : List Way) → m ≤ k → IsTrue (rises m cs) → IsTrue (rises k cs)
rises_more m k [] a h = refl
rises_more m k (c ∷ cs) a h = let f = rises_first m c cs h in rises_on k c cs (omega (arith, f.0)) f.1

pub rises_pushed : (m d : ℕ) (r : Option Rest) (cs : List Way) → d ≤ m → IsTrue (rises d cs) → IsTrue (rises m (pushed d r cs))
rises_pushed m d None cs a h = rises_more d m cs a h
rises_pushed m d (Some r) cs a h = rises_on m (record { depth = d; rest = r }) cs a h

-- ---- labels that are cut

pub take_take : (a b : ℕ) (ls : List Label) → a ≤ b → b ≤ length ls → take a (take b ls) ≡ take a ls
take_take a b ls h k =
    let long = length-take-le b ls k in
    sym (take-append-le a (take b ls) (drop b ls) (omega (arith, long))) ∙ ap (take a) (take-append-drop b ls)

-- the top of a stack, and the choices below it
-- choices see only the labels before them
pub same_labels : (n : ℕ) (e : End) (s d : ℕ) (ls ls' : List Label) (cs : List Way) → d ≤ length ls → d ≤ length ls' → take d ls ≡ take d ls' → IsTrue (rises d cs) → stack_words n e s ls cs ≡ stack_words n e s ls' cs
same_labels n e s d ls ls' [] a b h r = refl
same_labels n e s d ls ls' (c ∷ cs) a b h r =
    let f = rises_first d c cs r in
    let here : take c.depth ls ≡ take c.depth ls' = sym (take_take c.depth d ls f.0 a) ∙ ap (take c.depth) h ∙ take_take c.depth d ls' f.0 b in
    let later = same_labels n e s c.depth ls ls' cs (omega (arith, f.0)) (omega (arith, f.0)) here f.1 in
    ap (λ z. map (preceded z) ((c.rest.left n e).0 (s + c.depth)) ++ stack_words n e s ls cs) here
    ∙ ap (λ z. way_words n e s ls' c ++ z) later

-- ---- what is pushed

pub pushed_words : (n : ℕ) (e : End) (s d : ℕ) (ls : List Label) (r : Option Rest) (cs : List Way) → stack_words n e s ls (pushed d r cs) ≡ map (preceded (take d ls)) (option_words n e r (s + d)) ++ stack_words n e s ls cs
pushed_words n e s d ls None cs = refl
pushed_words n e s d ls (Some r) cs = refl

pub pushed_left : (n : ℕ) (e : End) (s d : ℕ) (r : Option Rest) (cs : List Way) → stack_left n e s (pushed d r cs) ≡ option_turns n e r (s + d) + length (option_words n e r (s + d)) + stack_left n e s cs
pushed_left n e s d None cs = omega arith
pushed_left n e s d (Some r) cs = refl

-- ---- the parts of a value

-- It has begun, from this start row, with these labels and these choices, the preferred one first.
pub record Stack (c : Choices) (s : ℕ) (ls : List Label) (cs : List Way) : Type 0 where
  pub begun : c.begun ≡ true
  pub start : c.start ≡ s
  pub labels : c.labels.items ≡ ls
  pub choices : (stack_of c.ways) ≡ cs

module _ (c : Choices) (s : ℕ) (ls : List Label) (cs : List Way) (k : Stack c s ls cs) where
  pub entered_is : entered c ≡ ls
  unfolding entered
  entered_is = k.labels

  pub start_is : start_of c ≡ s
  unfolding start_of
  start_is = k.start

  same_words : (n : ℕ) (e : End) → stack_words n e c.start c.labels.items (stack_of c.ways) ≡ stack_words n e s ls cs
  same_words n e =
      ap (λ z. stack_words n e z c.labels.items (stack_of c.ways)) k.start
      ∙ ap (λ z. stack_words n e s z (stack_of c.ways)) k.labels
      ∙ ap (stack_words n e s ls) k.choices

  pub remaining_is : (n : ℕ) (e : End) → remaining c n e ≡ stack_words n e s ls cs
  unfolding remaining
  remaining_is n e = ap (λ b. cond b (stack_words n e c.start c.labels.items (stack_of c.ways)) ((origin (kept_of c.ways) n e).0 c.start)) k.begun ∙ same_words n e

  pub left_is : (n : ℕ) (e : End) → turns_left c n e ≡ spared c n e + stack_left n e s cs
  unfolding turns_left
  left_is n e =
      ap (λ b. cond b (spared c n e + stack_left n e c.start (stack_of c.ways)) (most_turns (kept_of c.ways) n e c.start + length ((origin (kept_of c.ways) n e).0 c.start))) k.begun
      ∙ ap (λ z. spared c n e + stack_left n e z (stack_of c.ways)) k.start ∙ ap (λ z. spared c n e + stack_left n e s z) k.choices

  pub below_is : (n : ℕ) (e : End) → below c n e ≡ stack_words n e s ls (drop 1 cs)
  unfolding below
  below_is n e =
      ap (λ z. stack_words n e z c.labels.items (drop 1 (stack_of c.ways))) k.start
      ∙ ap (λ z. stack_words n e s z (drop 1 (stack_of c.ways))) k.labels
      ∙ ap (λ z. stack_words n e s ls (drop 1 z)) k.choices

  pub below_left_is : (n : ℕ) (e : End) → turns_left_below c n e ≡ spared c n e + stack_left n e s (drop 1 cs)
  unfolding turns_left_below
  below_left_is n e = ap (λ z. spared c n e + stack_left n e z (drop 1 (stack_of c.ways))) k.start ∙ ap (λ z. spared c n e + stack_left n e s (drop 1 z)) k.choices

  pub after_is : (n : ℕ) (e : End) → after c n e ≡ (first_later cs n e).0 (s + length ls)
  unfolding after
  after_is n e =
      ap (λ z. (first_later (stack_of c.ways) n e).0 (z + length c.labels.items)) k.start
      ∙ ap (λ z. (first_later (stack_of c.ways) n e).0 (s + length z)) k.labels
      ∙ ap (λ z. (first_later z n e).0 (s + length ls)) k.choices

  pub after_left_is : (n : ℕ) (e : End) → turns_left_after c n e ≡ left_at (first_later cs n e) (s + length ls)
  unfolding turns_left_after
  after_left_is n e =
      ap (λ z. left_at (first_later (stack_of c.ways) n e) (z + length c.labels.items)) k.start
      ∙ ap (λ z. left_at (first_later (stack_of c.ways) n e) (s + length z)) k.labels
      ∙ ap (λ z. left_at (first_later z n e) (s + length ls)) k.choices

pub has_top : (c : Choices) (s : ℕ) (ls : List Label) (t : Way) (cs : List Way) → Stack c s ls (t ∷ cs) → HasTop c
unfolding HasTop
has_top c s ls t cs k = (k.begun, subst (OfFirst (λ t. Unit {0})) (sym k.choices) tt)

pub at_row : (c : Choices) (s : ℕ) (ls : List Label) (t : Way) (cs : List Way) → Stack c s ls (t ∷ cs) → t.depth + 1 ≡ length ls → AtRow c
unfolding AtRow
at_row c s ls t cs k h = (k.begun, subst (OfFirst (λ t. t.depth + 1 ≡ length c.labels.items)) (sym k.choices) (h ∙ sym (ap length k.labels)))

-- ---- what the preferred choice came to

pub height_is : (c : Choices) (s : ℕ) (ls : List Label) (ds : List Way) → Stack c s ls ds → height c ≡ length ds
unfolding height
height_is c s ls ds q = ap (λ b. cond b (length (stack_of c.ways)) 0) q.begun ∙ ap length q.choices

-- the words of the choices above some height
above_is : (c : Choices) (s : ℕ) (ls : List Label) (ds : List Way) → Stack c s ls ds → (h n : ℕ) (e : End) → above c h n e ≡ stack_words n e s ls (take (length ds - h) ds)
unfolding above
above_is c s ls ds q h n e =
    ap (λ z. stack_words n e z c.labels.items (take (height c - h) (stack_of c.ways))) q.start
    ∙ ap (λ z. stack_words n e s z (take (height c - h) (stack_of c.ways))) q.labels
    ∙ ap (λ z. stack_words n e s ls (take (height c - h) z)) q.choices
    ∙ ap (λ z. stack_words n e s ls (take (z - h) ds)) (height_is c s ls ds q)

above_below_is : (c : Choices) (s : ℕ) (ls : List Label) (ds : List Way) → Stack c s ls ds → (h n : ℕ) (e : End) → above_below c h n e ≡ stack_words n e s ls (take (length (drop 1 ds) - h) (drop 1 ds))
unfolding above_below
above_below_is c s ls ds q h n e =
    ap (λ z. stack_words n e z c.labels.items (take (length (drop 1 (stack_of c.ways)) - h) (drop 1 (stack_of c.ways)))) q.start
    ∙ ap (λ z. stack_words n e s z (take (length (drop 1 (stack_of c.ways)) - h) (drop 1 (stack_of c.ways)))) q.labels
    ∙ ap (λ z. stack_words n e s ls (take (length (drop 1 z) - h) (drop 1 z))) q.choices

rises_take : (d i : ℕ) (ds : List Way) → IsTrue (rises d ds) → IsTrue (rises d (take i ds))
rises_take d zero ds r = refl
rises_take d (suc i) [] r = refl
rises_take d (suc i) (c ∷ ds) r = let f = rises_first d c ds r in rises_on d c (take i ds) f.0 (rises_take c.depth i ds f.1)

pushed_take : (d h : ℕ) (r : Option Rest) (cs : List Way) → h ≤ length cs → take (length (pushed d r cs) - h) (pushed d r cs) ≡ pushed d r (take (length cs - h) cs)
pushed_take d h None cs le = refl
pushed_take d h (Some r) cs le =
    let x : Way = record { depth = d; rest = r } in
    let i : length (x ∷ cs) - h ≡ suc (length cs - h) = omega (arith, le) in
    ap (λ z. take z (x ∷ cs)) i

pushed_long : (d : ℕ) (r : Option Rest) (cs : List Way) → length cs ≤ length (pushed d r cs)
pushed_long d None cs = omega arith
pushed_long d (Some r) cs = omega arith

module _ (old new : Choices) (s : ℕ) (ls : List Label) (t : Way) (cs : List Way) (n : ℕ) (e : End) (k : Stack old s ls (t ∷ cs)) (r : IsTrue (rises (length ls) (t ∷ cs)))
    (q : (n : ℕ) (e : End) → spared new n e ≡ spared old n e) where
  deep : t.depth ≤ length ls
  deep = (rises_first (length ls) t cs r).0

  lower : IsTrue (rises t.depth cs)
  lower = (rises_first (length ls) t cs r).1

  cut : List Label
  cut = take t.depth ls

  cut_long : length (take t.depth ls) ≡ t.depth
  cut_long = length-take-le t.depth ls deep

  cut_same : take t.depth ls ≡ take t.depth (take t.depth ls)
  cut_same = sym (take_take t.depth t.depth ls (omega arith) deep)

  -- the choices below keep their words
  below_cut : (n' : ℕ) (e' : End) → stack_words n' e' s ls cs ≡ stack_words n' e' s (take t.depth ls) cs
  below_cut n' e' = same_labels n' e' s t.depth ls (take t.depth ls) cs deep (omega (arith, cut_long)) cut_same lower

  all_cut : (n' : ℕ) (e' : End) → stack_words n' e' s ls (t ∷ cs) ≡ stack_words n' e' s (take t.depth ls) (t ∷ cs)
  all_cut n' e' = same_labels n' e' s t.depth ls (take t.depth ls) (t ∷ cs) deep (omega (arith, cut_long)) cut_same (rises_on t.depth t cs (omega arith) lower)

  -- the choice stays on top, with the labels cut to those before it
  same_cut : Stack new s (take t.depth ls) (t ∷ cs) → IsSameRemaining old new n e
  same_cut m = record {
    words = λ n' e' later. remaining_is new s (take t.depth ls) (t ∷ cs) m n' e' ∙ sym (all_cut n' e') ∙ sym (remaining_is old s ls (t ∷ cs) k n' e');
    turns = λ n' e' later. omega (arith, left_is new s (take t.depth ls) (t ∷ cs) m n' e', left_is old s ls (t ∷ cs) k n' e', q n' e');
  }

  keeps_cut : Stack new s (take t.depth ls) (t ∷ cs) → KeepsAbove old new n e
  keeps_cut m h lt =
      let le : h ≤ length cs = omega (arith, lt, height_is old s ls (t ∷ cs) k) in
      let i : length (t ∷ cs) - h ≡ suc (length cs - h) = omega (arith, le) in
      let part : List Way = take (length cs - h) cs in
      let on : IsTrue (rises t.depth (t ∷ part)) = rises_on t.depth t part (omega arith) (rises_take t.depth (length cs - h) cs lower) in (
        omega (arith, le, height_is new s (take t.depth ls) (t ∷ cs) m),
        λ n' e' later.
            above_is new s (take t.depth ls) (t ∷ cs) m h n' e'
            ∙ ap (λ z. stack_words n' e' s (take t.depth ls) (take z (t ∷ cs))) i
            ∙ sym (same_labels n' e' s t.depth ls (take t.depth ls) (t ∷ part) deep (omega (arith, cut_long)) cut_same on)
            ∙ ap (λ z. stack_words n' e' s ls (take z (t ∷ cs))) (sym i)
            ∙ sym (above_is old s ls (t ∷ cs) k h n' e'),
      )

  pub is_full : Stack new s (take t.depth ls) (t ∷ cs) → ((n' : ℕ) (e' : End) → (t.rest.left n' e').0 (s + t.depth) ≡ Full [] ∷ []) → IsFullWord old new n e
  is_full m w =
      let front : entered new ≡ take t.depth ls = entered_is new s (take t.depth ls) (t ∷ cs) m in
      let word : take t.depth ls ++ [] ≡ entered new = append_nil (take t.depth ls) ∙ sym front in
      let now : (n' : ℕ) (e' : End) → stack_words n' e' s ls (t ∷ cs) ≡ Full (entered new) ∷ below new n' e' = λ n' e'.
      ap (λ z. map (preceded (take t.depth ls)) z ++ stack_words n' e' s ls cs) (w n' e')
      ∙ ap (λ z. Full z ∷ stack_words n' e' s ls cs) word
      ∙ ap (λ z. Full (entered new) ∷ z) (below_cut n' e' ∙ sym (below_is new s (take t.depth ls) (t ∷ cs) m n' e')) in
      record {
        cut = (t.depth, front ∙ ap (take t.depth) (sym (entered_is old s ls (t ∷ cs) k)));
        has_top = has_top new s (take t.depth ls) t cs m;
        keeps = keeps_cut m;
        same = same_cut m;
        first = λ n' e' later. remaining_is new s (take t.depth ls) (t ∷ cs) m n' e' ∙ sym (all_cut n' e') ∙ now n' e';
        less_below = λ n' e' later. omega (arith, left_is new s (take t.depth ls) (t ∷ cs) m n' e', below_left_is new s (take t.depth ls) (t ∷ cs) m n' e', ap length (w n' e'));
      }

  pub is_open : Stack new s (take t.depth ls) (t ∷ cs) → Waits n e (s + t.depth) t.rest → IsOpenWord old new n e
  is_open m w =
      let front : entered new ≡ take t.depth ls = entered_is new s (take t.depth ls) (t ∷ cs) m in
      let word : take t.depth ls ++ [] ≡ entered new = append_nil (take t.depth ls) ∙ sym front in
      record {
        end = w.end;
        cut = (t.depth, front ∙ ap (take t.depth) (sym (entered_is old s ls (t ∷ cs) k)));
        has_top = has_top new s (take t.depth ls) t cs m;
        keeps = keeps_cut m;
        same = same_cut m;
        more = map (preceded (take t.depth ls)) w.more;
        alone = λ unnumbered. ap (map (preceded (take t.depth ls))) (w.alone (single_top new t cs m.choices unnumbered));
        alike = All-map (λ x. x ≡ Open []) (λ x. x ≡ Open (entered new)) (preceded (take t.depth ls)) (λ x e. ap (preceded (take t.depth ls)) e ∙ ap Open word) w.more w.alike;
        first = remaining_is new s (take t.depth ls) (t ∷ cs) m n e ∙ sym (all_cut n e)
            ∙ ap (λ z. map (preceded (take t.depth ls)) z ++ stack_words n e s ls cs) w.words
            ∙ ap (λ z. Open z ∷ map (preceded (take t.depth ls)) w.more ++ stack_words n e s ls cs) word
            ∙ ap (λ z. Open (entered new) ∷ map (preceded (take t.depth ls)) w.more ++ z) (below_cut n e ∙ sym (below_is new s (take t.depth ls) (t ∷ cs) m n e));
        less_below = λ n' e' later. omega (arith, left_is new s (take t.depth ls) (t ∷ cs) m n' e', below_left_is new s (take t.depth ls) (t ∷ cs) m n' e', w.turns n' e');
      }

  -- what a choice gives way to has its words, over any choices
  gives_way : (x y : Option Rest) (ls' : List Label) (ds : List Way) → Splits n e (s + t.depth) t.rest x y → (n' : ℕ) (e' : End) → IsLater n e n' e' →
      stack_words n' e' s ls' (pushed t.depth x (pushed t.depth y ds)) ≡ stack_words n' e' s ls' (t ∷ ds)
  gives_way x y l ds w n' e' later =
      let d = t.depth in
      let i : ℕ = s + t.depth in
      pushed_words n' e' s d l x (pushed d y ds)
      ∙ ap (λ z. map (preceded (take d l)) (option_words n' e' x i) ++ z) (pushed_words n' e' s d l y ds)
      ∙ sym (append_assoc (map (preceded (take d l)) (option_words n' e' x i)) (map (preceded (take d l)) (option_words n' e' y i)) (stack_words n' e' s l ds))
      ∙ ap (λ z. z ++ stack_words n' e' s l ds) (sym (map-append (preceded (take d l)) (option_words n' e' x i) (option_words n' e' y i)))
      ∙ ap (λ z. map (preceded (take d l)) z ++ stack_words n' e' s l ds) (w.words n' e' later)

  keeps_above : (x y : Option Rest) → Stack new s (take t.depth ls) (pushed t.depth x (pushed t.depth y cs)) → Splits n e (s + t.depth) t.rest x y →
      (h : ℕ) → h ≤ length cs → (n' : ℕ) (e' : End) → IsLater n e n' e' → above new h n' e' ≡ above old h n' e'
  keeps_above x y m w h le n' e' later =
      let d = t.depth in
      let l : List Label = take t.depth ls in
      let ds : List Way = pushed t.depth y cs in
      let i : length (t ∷ cs) - h ≡ suc (length cs - h) = omega (arith, le) in
      let part : List Way = take (length cs - h) cs in
      let on : IsTrue (rises t.depth (t ∷ part)) = rises_on t.depth t part (omega arith) (rises_take t.depth (length cs - h) cs lower) in
      above_is new s l (pushed d x ds) m h n' e'
      ∙ ap (stack_words n' e' s l) (pushed_take d h x ds (omega (arith, le, pushed_long d y cs)) ∙ ap (pushed d x) (pushed_take d h y cs le))
      ∙ gives_way x y l part w n' e' later
      ∙ sym (same_labels n' e' s t.depth ls l (t ∷ part) deep (omega (arith, cut_long)) cut_same on)
      ∙ ap (λ z. stack_words n' e' s ls (take z (t ∷ cs))) (sym i)
      ∙ sym (above_is old s ls (t ∷ cs) k h n' e')

  pub is_split : (x y : Option Rest) → Stack new s (take t.depth ls) (pushed t.depth x (pushed t.depth y cs)) → Splits n e (s + t.depth) t.rest x y → IsSplit old new n e
  is_split x y m w =
      let d = t.depth in
      let i : ℕ = s + t.depth in
      let l : List Label = take t.depth ls in
      let ds : List Way = pushed t.depth y cs in
      let words = gives_way x y l cs w in
      record {
        cut = (t.depth, entered_is new s l (pushed t.depth x ds) m ∙ ap (take t.depth) (sym (entered_is old s ls (t ∷ cs) k)));
        same = λ n' e' later. remaining_is new s l (pushed t.depth x ds) m n' e' ∙ words n' e' later ∙ sym (all_cut n' e') ∙ sym (remaining_is old s ls (t ∷ cs) k n' e');
        less = λ n' e' later.
            let long = ap length (w.words n' e' later) in
            let both = length-append (option_words n' e' x i) (option_words n' e' y i) in
            omega (arith, left_is new s l (pushed t.depth x ds) m n' e', left_is old s ls (t ∷ cs) k n' e', pushed_left n' e' s d x ds, pushed_left n' e' s d y cs, w.turns n' e' later, long, both, q n' e');
        keeps = λ h lt.
            let le : h ≤ length cs = omega (arith, lt, height_is old s ls (t ∷ cs) k) in
            (omega (arith, le, height_is new s l (pushed t.depth x ds) m, pushed_long t.depth x ds, pushed_long t.depth y cs), keeps_above x y m w h le);
      }

  -- the words of the choice and of others below it, where it maps a row
  divides_over : (l : Label) → Stack new s (take t.depth ls ++ l ∷ []) (t ∷ cs) → TakesRow n e (s + t.depth) t.rest l → (ds : List Way) → IsTrue (rises t.depth ds) →
      (n' : ℕ) (e' : End) → IsLater n e n' e' →
      (stack_words n' e' s ls (t ∷ ds) ≡ stack_words n' e' s (take t.depth ls ++ l ∷ []) (t ∷ ds))
      × (stack_words n' e' s ls (t ∷ ds) ≡ map (preceded (entered new)) (after new n' e') ++ stack_words n' e' s (take t.depth ls ++ l ∷ []) ds)
  divides_over l m w ds under n' e' more =
      let d = t.depth in
      let i : ℕ = s + t.depth in
      let ms : List Label = take t.depth ls ++ l ∷ [] in
      let long : length ms ≡ t.depth + 1 = omega (arith, cut_long, length-append (take t.depth ls) (l ∷ [])) in
      let at : (s + t.depth) + 1 ≡ s + length ms = omega (arith, long) in
      let front : take t.depth ls ≡ take t.depth ms = sym (take-append-le t.depth (take t.depth ls) (l ∷ []) (omega (arith, cut_long)) ∙ sym cut_same) in
      let later : (t.rest.later n' e').0 (i + 1) ≡ after new n' e' =
      ap ((t.rest.later n' e').0) at ∙ sym (after_is new s ms (t ∷ cs) m n' e') in (
        same_labels n' e' s d ls ms (t ∷ ds) deep (omega (arith, long)) front (rises_on t.depth t ds (omega arith) under),
        ap (λ z. map (preceded (take d ls)) z ++ stack_words n' e' s ls ds) (w.words n' e' more.0)
            ∙ ap (λ z. z ++ stack_words n' e' s ls ds)
            (map-map (preceded (take d ls)) (preceded (l ∷ [])) ((t.rest.later n' e').0 (i + 1))
            ∙ map_same (λ v. preceded (take d ls) (preceded (l ∷ []) v)) (preceded ms) (preceded_twice (take d ls) (l ∷ [])) ((t.rest.later n' e').0 (i + 1))
            ∙ ap (map (preceded ms)) later
            ∙ ap (λ z. map (preceded z) (after new n' e')) (sym (entered_is new s ms (t ∷ cs) m)))
            ∙ ap (λ z. map (preceded (entered new)) (after new n' e') ++ z) (same_labels n' e' s d ls ms ds deep (omega (arith, long)) front under),
      )

  keeps_row : (l : Label) → Stack new s (take t.depth ls ++ l ∷ []) (t ∷ cs) → TakesRow n e (s + t.depth) t.rest l → (h : ℕ) → h ≤ length cs → (n' : ℕ) (e' : End) → IsLater n e n' e' →
      (above new h n' e' ≡ above old h n' e') × (above new h n' e' ≡ map (preceded (entered new)) (after new n' e') ++ above_below new h n' e')
  keeps_row l m w h le n' e' more =
      let ms : List Label = take t.depth ls ++ l ∷ [] in
      let i : length (t ∷ cs) - h ≡ suc (length cs - h) = omega (arith, le) in
      let part : List Way = take (length cs - h) cs in
      let over = divides_over l m w part (rises_take t.depth (length cs - h) cs lower) n' e' more in
      let here : above new h n' e' ≡ stack_words n' e' s ms (t ∷ part) = above_is new s ms (t ∷ cs) m h n' e' ∙ ap (λ z. stack_words n' e' s ms (take z (t ∷ cs))) i in
      let before : above old h n' e' ≡ stack_words n' e' s ls (t ∷ part) = above_is old s ls (t ∷ cs) k h n' e' ∙ ap (λ z. stack_words n' e' s ls (take z (t ∷ cs))) i in (
        here ∙ sym over.0 ∙ sym before,
        here ∙ sym over.0 ∙ over.1 ∙ ap (λ z. map (preceded (entered new)) (after new n' e') ++ z) (sym (above_below_is new s ms (t ∷ cs) m h n' e')),
      )

  pub maps_row : (l : Label) → Stack new s (take t.depth ls ++ l ∷ []) (t ∷ cs) → TakesRow n e (s + t.depth) t.rest l → IsMappedRow old new n e
  maps_row l m w =
      let d = t.depth in
      let i : ℕ = s + t.depth in
      let ms : List Label = take t.depth ls ++ l ∷ [] in
      let long : length ms ≡ t.depth + 1 = omega (arith, cut_long, length-append (take t.depth ls) (l ∷ [])) in
      let at : (s + t.depth) + 1 ≡ s + length ms = omega (arith, long) in
      let front : take t.depth ls ≡ take t.depth ms = sym (take-append-le t.depth (take t.depth ls) (l ∷ []) (omega (arith, cut_long)) ∙ sym cut_same) in
      let lower_same : (n' : ℕ) (e' : End) → stack_words n' e' s ls cs ≡ stack_words n' e' s ms cs = λ n' e'. same_labels n' e' s d ls ms cs deep (omega (arith, long)) front lower in
      let all_same : (n' : ℕ) (e' : End) → stack_words n' e' s ls (t ∷ cs) ≡ stack_words n' e' s ms (t ∷ cs) = λ n' e'. same_labels n' e' s d ls ms (t ∷ cs) deep (omega (arith, long)) front (rises_on t.depth t cs (omega arith) lower) in
      let later : (n' : ℕ) (e' : End) → (t.rest.later n' e').0 (i + 1) ≡ after new n' e' = λ n' e'.
      ap ((t.rest.later n' e').0) at ∙ sym (after_is new s ms (t ∷ cs) m n' e') in
      let words : (n' : ℕ) (e' : End) → IsLater n e n' e' → stack_words n' e' s ls (t ∷ cs) ≡ map (preceded (entered new)) (after new n' e') ++ below new n' e' = λ n' e' more.
      ap (λ z. map (preceded (take d ls)) z ++ stack_words n' e' s ls cs) (w.words n' e' more.0)
      ∙ ap (λ z. z ++ stack_words n' e' s ls cs)
      (map-map (preceded (take d ls)) (preceded (l ∷ [])) ((t.rest.later n' e').0 (i + 1))
      ∙ map_same (λ v. preceded (take d ls) (preceded (l ∷ []) v)) (preceded ms) (preceded_twice (take d ls) (l ∷ [])) ((t.rest.later n' e').0 (i + 1))
      ∙ ap (map (preceded ms)) (later n' e')
      ∙ ap (λ z. map (preceded z) (after new n' e')) (sym (entered_is new s ms (t ∷ cs) m)))
      ∙ ap (λ z. map (preceded (entered new)) (after new n' e') ++ z) (lower_same n' e' ∙ sym (below_is new s ms (t ∷ cs) m n' e')) in
      let count : (n' : ℕ) (e' : End) → IsLater n e n' e' → length ((t.rest.left n' e').0 i) ≡ length ((t.rest.later n' e').0 (s + length ms)) = λ n' e' more.
      ap length (w.words n' e' more.0) ∙ length-map ((t.rest.later n' e').0 (i + 1)) (preceded (l ∷ []))
      ∙ ap (λ j. length ((t.rest.later n' e').0 j)) at in
      let turns : (n' : ℕ) (e' : End) → IsLater n e n' e' → (t.rest.left n' e').1 i ≡ 1 + (t.rest.later n' e').1 (s + length ms) = λ n' e' more.
      w.turns n' e' more.0 ∙ ap (λ j. 1 + (t.rest.later n' e').1 j) at in
      record {
        enters = record { depth = t.depth; label = l; is = entered_is new s ms (t ∷ cs) m ∙ ap (λ z. take t.depth z ++ l ∷ []) (sym (entered_is old s ls (t ∷ cs) k)) };
        known = omega (arith, start_is new s ms (t ∷ cs) m, ap length (entered_is new s ms (t ∷ cs) m), long, w.known);
        at_row = at_row new s ms t cs m (sym long);
        has_top = has_top new s ms t cs m;
        same = record {
          words = λ n' e' more. remaining_is new s ms (t ∷ cs) m n' e' ∙ sym (all_same n' e') ∙ sym (remaining_is old s ls (t ∷ cs) k n' e');
          turns = λ n' e' more. omega (arith, left_is new s ms (t ∷ cs) m n' e', left_is old s ls (t ∷ cs) k n' e', q n' e');
        };
        divides = record {
          words = λ n' e' more. remaining_is new s ms (t ∷ cs) m n' e' ∙ sym (all_same n' e') ∙ words n' e' more;
          over = λ h lt n' e' more. (keeps_row l m w h (omega (arith, lt, height_is new s ms (t ∷ cs) m)) n' e' more).1;
          turns = λ n' e' more. omega (arith, left_is new s ms (t ∷ cs) m n' e', after_left_is new s ms (t ∷ cs) m n' e', below_left_is new s ms (t ∷ cs) m n' e', count n' e' more, turns n' e' more);
        };
        keeps = λ h lt.
            let le : h ≤ length cs = omega (arith, lt, height_is old s ls (t ∷ cs) k) in
            (omega (arith, le, height_is new s ms (t ∷ cs) m), λ n' e' more. (keeps_row l m w h le n' e' more).0);
      }

pub take-all : (ls : List Label) → take (length ls) ls ≡ ls
take-all [] = refl
take-all (l ∷ ls) = ap (λ z. l ∷ z) (take-all ls)

pub is_nothing : (old new : Choices) (s : ℕ) (ls : List Label) (n : ℕ) (e : End) → Stack old s ls [] → Stack new s ls [] → ((n : ℕ) (e : End) → spared new n e ≡ spared old n e) → IsNothing old new n e
is_nothing old new s ls n e k m q = record {
  keeps = λ h lt. absurd (omega (arith, lt, height_is old s ls [] k));
  cut = (length ls, entered_is new s ls [] m ∙ sym (take-all ls) ∙ ap (take (length ls)) (sym (entered_is old s ls [] k)));
  same = record {
    words = λ n' e' later. remaining_is new s ls [] m n' e' ∙ sym (remaining_is old s ls [] k n' e');
    turns = λ n' e' later. omega (arith, left_is new s ls [] m n' e', left_is old s ls [] k n' e', q n' e');
  };
  none = λ n' e' later. remaining_is new s ls [] m n' e';
}

pub same_pattern : (old new : Choices) → kept_of new.ways ≡ kept_of old.ways → IsSamePattern old new
unfolding whole_from whole_turns_from place_words
same_pattern old new o = record {
  places = λ place n e row. ap (λ k. kept_place_words k place n e row) o;
  words = λ n e row. ap (λ k. (origin k n e).0 row) o;
  left = λ n e row. ap (λ k. most_turns k n e row + length ((origin k n e).0 row)) o;
}

pub same_whole : (old new : Choices) → new.start ≡ old.start → kept_of new.ways ≡ kept_of old.ways → IsSameWhole old new
unfolding start_of whole whole_turns
same_whole old new s o = record {
  pattern = same_pattern old new o;
  start = s;
  words = λ n e. ap (λ k. (origin k n e).0 new.start) o ∙ ap ((origin (kept_of old.ways) n e).0) s;
  left = λ n e. ap (λ k. most_turns k n e new.start + length ((origin k n e).0 new.start)) o
      ∙ ap (λ z. most_turns (kept_of old.ways) n e z + length ((origin (kept_of old.ways) n e).0 z)) s;
}

pub same_spared : (old new : Choices) → new.start ≡ old.start → kept_of new.ways ≡ kept_of old.ways → (n : ℕ) (e : End) → spared new n e ≡ spared old n e
unfolding spared
same_spared old new s o n e =
    ap (λ k. most_turns k n e new.start - (origin k n e).1 new.start) o
    ∙ ap (λ z. most_turns (kept_of old.ways) n e z - (origin (kept_of old.ways) n e).1 z) s

-- the first choice is the last of the list
pub on_top : (xs ys : List Way) (x : Way) → xs ≡ ys ++ x ∷ [] → reverse xs ≡ x ∷ reverse ys
on_top xs ys x h = ap reverse h ∙ reverse-append ys (x ∷ [])

pub rises_below : (m : ℕ) (cs : List Way) → IsTrue (rises m cs) → IsTrue (rises m (drop 1 cs))
rises_below m [] h = refl
rises_below m (c ∷ cs) h = let f = rises_first m c cs h in rises_more c.depth m cs f.0 f.1

pub top_begun : (c : Choices) → HasTop c → c.begun ≡ true
unfolding HasTop
top_begun c h = h.0

pub no_top : (c : Choices) → (stack_of c.ways) ≡ [] → HasTop c → ⊥
unfolding HasTop
no_top c h t = subst (OfFirst (λ c. Unit {0})) h t.1

pub row_begun : (c : Choices) → AtRow c → c.begun ≡ true
unfolding AtRow
row_begun c h = h.0

pub row_top : (c : Choices) → (stack_of c.ways) ≡ [] → AtRow c → ⊥
unfolding AtRow
row_top c h r = subst (OfFirst (λ t. t.depth + 1 ≡ length c.labels.items)) h r.1

pub row_some : (c : Choices) → AtRow c → 0 < length (stack_of c.ways)
unfolding AtRow
row_some c r = go (stack_of c.ways) r.1
  where
    go : (ws : List Way) → OfFirst (λ w. w.depth + 1 ≡ length c.labels.items) ws → 0 < length ws
    go [] h = absurd h
    go (w ∷ ws) h = omega arith

-- the whole is put on the stack as one choice, or as none
module _ (old new : Choices) (r : Option Rest) (n : ℕ) (e : End) (not : old.begun ≡ false) (m : Stack new old.start [] (pushed 0 r [])) (h : StandsFor n e old.start (origin (kept_of old.ways) n e) r)
    (q : (n : ℕ) (e : End) → spared new n e ≡ spared old n e) where
  at_start : old.start + 0 ≡ old.start
  at_start = omega arith

  pub begun_remaining : remaining new n e ≡ remaining old n e
  unfolding remaining
  begun_remaining =
      remaining_is new old.start [] (pushed 0 r []) m n e
      ∙ pushed_words n e old.start 0 [] r []
      ∙ append_nil (map (preceded []) (option_words n e r (old.start + 0)))
      ∙ map_preceded_nothing (option_words n e r (old.start + 0))
      ∙ ap (option_words n e r) at_start ∙ h.words
      ∙ sym (ap (λ b. cond b (stack_words n e old.start old.labels.items (stack_of old.ways)) ((origin (kept_of old.ways) n e).0 old.start)) not)

  pub begun_left : (fewer : (origin (kept_of old.ways) n e).1 old.start ≤ most_turns (kept_of old.ways) n e old.start) → turns_left new n e ≡ turns_left old n e
  unfolding turns_left spared
  begun_left fewer =
      let now = left_is new old.start [] (pushed 0 r []) m n e ∙ ap (λ z. spared new n e + z) (pushed_left n e old.start 0 r []) in
      let at = ap (λ j. option_turns n e r j + length (option_words n e r j) + 0) at_start in
      let before = ap (λ b. cond b (spared old n e + stack_left n e old.start (stack_of old.ways)) (most_turns (kept_of old.ways) n e old.start + length ((origin (kept_of old.ways) n e).0 old.start))) not in
      now ∙ omega (arith, q n e, at, h.turns, ap length h.words, fewer) ∙ sym before

-- it stands for the pattern, which is kept
pub stands_as : (old : Choices) (ways : Ways) (r : Option Rest) (n : ℕ) (e : End) → kept_of ways ≡ kept_of old.ways → StandsFor n e old.start (origin (kept_of ways) n e) r →
    StandsFor n e old.start (origin (kept_of old.ways) n e) r
stands_as old ways r n e same h = subst (λ k. StandsFor n e old.start (origin k n e) r) same h

pub no_height : (c : Choices) → c.begun ≡ false → (h : ℕ) → h < height c → ⊥
unfolding height
no_height c not h lt = omega (arith, lt, ap (λ b. cond b (length (stack_of c.ways)) 0) not)

-- the first choice is given up, and the labels are cut to those before it
module _ (old new : Choices) (t : Way) (cs : List Way) (n : ℕ) (e : End) (k : Stack old old.start old.labels.items (t ∷ cs)) (m : Stack new old.start (take t.depth old.labels.items) cs)
    (q : (n : ℕ) (e : End) → spared new n e ≡ spared old n e) where
  pub given_up_remaining : remaining new n e ≡ below old n e
  given_up_remaining =
      let r : IsTrue (rises (length old.labels.items) (t ∷ cs)) = subst (λ z. IsTrue (rises (length old.labels.items) z)) k.choices old.rises in
      remaining_is new old.start (take t.depth old.labels.items) cs m n e
      ∙ sym (below_cut old new old.start old.labels.items t cs n e k r q n e)
      ∙ sym (below_is old old.start old.labels.items (t ∷ cs) k n e)

  pub given_up_left : turns_left new n e ≡ turns_left_below old n e
  given_up_left = omega (arith, left_is new old.start (take t.depth old.labels.items) cs m n e, below_left_is old old.start old.labels.items (t ∷ cs) k n e, q n e)

-- the words of the choices above some height
module _ (old new : Choices) (t : Way) (cs : List Way) (k : Stack old old.start old.labels.items (t ∷ cs)) (m : Stack new old.start (take t.depth old.labels.items) cs)
    (q : (n : ℕ) (e : End) → spared new n e ≡ spared old n e) where
  of_top_is : (n : ℕ) (e : End) → of_top old n e ≡ way_words n e old.start old.labels.items t ++ []
  unfolding of_top
  of_top_is n e = ap (λ z. stack_words n e old.start old.labels.items (take 1 z)) k.choices

  pub given_up_passed : (n : ℕ) (e : End) → remaining old n e ≡ of_top old n e ++ remaining new n e
  given_up_passed n e =
      remaining_is old old.start old.labels.items (t ∷ cs) k n e
      ∙ ap (λ z. z ++ stack_words n e old.start old.labels.items cs) (sym (append_nil (way_words n e old.start old.labels.items t)))
      ∙ ap (λ z. z ++ stack_words n e old.start old.labels.items cs) (sym (of_top_is n e))
      ∙ ap (λ z. of_top old n e ++ z) (sym (given_up_remaining old new t cs n e k m q ∙ below_is old old.start old.labels.items (t ∷ cs) k n e))

  pub given_up_height : height new + 1 ≡ height old
  given_up_height = omega (arith, height_is old old.start old.labels.items (t ∷ cs) k, height_is new old.start (take t.depth old.labels.items) cs m)

  pub given_up_above : (h n : ℕ) (e : End) → h < height old → above old h n e ≡ of_top old n e ++ above new h n e
  given_up_above h n e lt =
      let r : IsTrue (rises (length old.labels.items) (t ∷ cs)) = subst (λ z. IsTrue (rises (length old.labels.items) z)) k.choices old.rises in
      let f = rises_first (length old.labels.items) t cs r in
      let d : t.depth ≤ length (take t.depth old.labels.items) = omega (arith, length-take-le t.depth old.labels.items f.0) in
      let i : length (t ∷ cs) - h ≡ suc (length cs - h) = omega (arith, height_is old old.start old.labels.items (t ∷ cs) k, lt) in
      above_is old old.start old.labels.items (t ∷ cs) k h n e
      ∙ ap (λ z. stack_words n e old.start old.labels.items (take z (t ∷ cs))) i
      ∙ ap (λ z. way_words n e old.start old.labels.items t ++ z)
      (same_labels n e old.start t.depth old.labels.items (take t.depth old.labels.items) (take (length cs - h) cs) f.0 d
      (sym (take_take t.depth t.depth old.labels.items (omega arith) f.0)) (rises_take t.depth (length cs - h) cs f.1))
      ∙ ap (λ z. z ++ stack_words n e old.start (take t.depth old.labels.items) (take (length cs - h) cs)) (sym (append_nil (way_words n e old.start old.labels.items t)))
      ∙ ap (λ z. (way_words n e old.start old.labels.items t ++ []) ++ z) (sym (above_is new old.start (take t.depth old.labels.items) cs m h n e))
      ∙ ap (λ z. z ++ above new h n e) (sym (of_top_is n e))

  pub given_up_rest : (h n : ℕ) (e : End) → above_below old h n e ≡ above new h n e
  given_up_rest h n e =
      let r : IsTrue (rises (length old.labels.items) (t ∷ cs)) = subst (λ z. IsTrue (rises (length old.labels.items) z)) k.choices old.rises in
      let f = rises_first (length old.labels.items) t cs r in
      let d : t.depth ≤ length (take t.depth old.labels.items) = omega (arith, length-take-le t.depth old.labels.items f.0) in
      above_below_is old old.start old.labels.items (t ∷ cs) k h n e
      ∙ same_labels n e old.start t.depth old.labels.items (take t.depth old.labels.items) (take (length cs - h) cs) f.0 d
      (sym (take_take t.depth t.depth old.labels.items (omega arith) f.0)) (rises_take t.depth (length cs - h) cs f.1)
      ∙ sym (above_is new old.start (take t.depth old.labels.items) cs m h n e)

pub cut_front : (old new : Choices) (depth : ℕ) → new.labels.items ≡ take depth old.labels.items → AreFirstOf (entered new) (entered old)
unfolding entered
cut_front old new depth h = (depth, h)

pub cut_off : (old new : Choices) (t : Way) (cs : List Way) → (stack_of old.ways) ≡ t ∷ cs → new.labels.items ≡ take t.depth old.labels.items → AtRow old → AreStrictlyFirstOf (entered new) (entered old)
unfolding entered AtRow
cut_off old new t cs k h r =
    let row : t.depth + 1 ≡ length old.labels.items = subst (OfFirst (λ c. c.depth + 1 ≡ length old.labels.items)) k r.1 in
    (t.depth, omega (arith, row), h)

-- the row is admitted: what comes after it takes the choice's place
module _ (old new : Choices) (r : Option Rest) (n : ℕ) (e : End) (k : Stack old old.start old.labels.items (stack_of old.ways))
    (m : Stack new old.start old.labels.items (pushed (length old.labels.items) r (drop 1 (stack_of old.ways))))
    (stands : StandsFor n e (old.start + length old.labels.items) (first_later (stack_of old.ways) n e) r)
    (q : (n : ℕ) (e : End) → spared new n e ≡ spared old n e) where
  pub admitted_remaining : remaining new n e ≡ map (preceded (entered old)) (after old n e) ++ below old n e
  admitted_remaining =
      remaining_is new old.start old.labels.items (pushed (length old.labels.items) r (drop 1 (stack_of old.ways))) m n e
      ∙ pushed_words n e old.start (length old.labels.items) old.labels.items r (drop 1 (stack_of old.ways))
      ∙ ap (λ z. map (preceded z) (option_words n e r (old.start + length old.labels.items)) ++ stack_words n e old.start old.labels.items (drop 1 (stack_of old.ways))) (take-all old.labels.items ∙ sym (entered_is old old.start old.labels.items (stack_of old.ways) k))
      ∙ ap (λ z. map (preceded (entered old)) z ++ stack_words n e old.start old.labels.items (drop 1 (stack_of old.ways))) (stands.words ∙ sym (after_is old old.start old.labels.items (stack_of old.ways) k n e))
      ∙ ap (λ z. map (preceded (entered old)) (after old n e) ++ z) (sym (below_is old old.start old.labels.items (stack_of old.ways) k n e))

  pub admitted_above : (h : ℕ) → h < height old → above new h n e ≡ map (preceded (entered old)) (after old n e) ++ above_below old h n e
  admitted_above h lt =
      let d : ℕ = length old.labels.items in
      let cs : List Way = drop 1 (stack_of old.ways) in
      let le : h ≤ length cs = under (stack_of old.ways) (omega (arith, lt, height_is old old.start old.labels.items (stack_of old.ways) k)) in
      above_is new old.start old.labels.items (pushed d r cs) m h n e
      ∙ ap (stack_words n e old.start old.labels.items) (pushed_take d h r cs le)
      ∙ pushed_words n e old.start d old.labels.items r (take (length cs - h) cs)
      ∙ ap (λ z. map (preceded z) (option_words n e r (old.start + d)) ++ stack_words n e old.start old.labels.items (take (length cs - h) cs)) (take-all old.labels.items ∙ sym (entered_is old old.start old.labels.items (stack_of old.ways) k))
      ∙ ap (λ z. map (preceded (entered old)) z ++ stack_words n e old.start old.labels.items (take (length cs - h) cs)) (h_words)
      ∙ ap (λ z. map (preceded (entered old)) (after old n e) ++ z) (sym (above_below_is old old.start old.labels.items (stack_of old.ways) k h n e))
    where
      under : (xs : List Way) → h < length xs → h ≤ length (drop 1 xs)
      under [] lt = absurd (omega (arith, lt))
      under (x ∷ xs) lt = omega (arith, lt)

      h_words : option_words n e r (old.start + length old.labels.items) ≡ after old n e
      h_words = stands.words ∙ sym (after_is old old.start old.labels.items (stack_of old.ways) k n e)

  pub admitted_left : turns_left new n e ≡ turns_left_after old n e + turns_left_below old n e
  admitted_left =
      let a = left_is new old.start old.labels.items (pushed (length old.labels.items) r (drop 1 (stack_of old.ways))) m n e in
      let b = pushed_left n e old.start (length old.labels.items) r (drop 1 (stack_of old.ways)) in
      let c = after_left_is old old.start old.labels.items (stack_of old.ways) k n e in
      let d = below_left_is old old.start old.labels.items (stack_of old.ways) k n e in
      omega (arith, a, b, c, d, stands.turns, ap length stands.words, q n e)

pub admitted_height : (old new : Choices) (r : Option Rest) → Stack old old.start old.labels.items (stack_of old.ways) → Stack new old.start old.labels.items (pushed (length old.labels.items) r (drop 1 (stack_of old.ways))) → height old ≤ height new + 1
admitted_height old new r k m =
    omega (arith, height_is old old.start old.labels.items (stack_of old.ways) k, height_is new old.start old.labels.items (pushed (length old.labels.items) r (drop 1 (stack_of old.ways))) m, pushed_long (length old.labels.items) r (drop 1 (stack_of old.ways)), one_less (stack_of old.ways))
  where
    one_less : (xs : List Way) → length xs ≤ length (drop 1 xs) + 1
    one_less [] = omega arith
    one_less (x ∷ xs) = omega arith

-- ---- values that have not begun

module _ (c : Choices) (not : c.begun ≡ false) (n : ℕ) (e : End) where
  pub fresh_remaining : remaining c n e ≡ whole c n e
  unfolding remaining whole
  fresh_remaining = ap (λ b. cond b (stack_words n e c.start c.labels.items (stack_of c.ways)) ((origin (kept_of c.ways) n e).0 c.start)) not

  pub fresh_left : turns_left c n e ≡ whole_turns c n e
  unfolding turns_left whole_turns
  fresh_left = ap (λ b. cond b (spared c n e + stack_left n e c.start (stack_of c.ways)) (most_turns (kept_of c.ways) n e c.start + length ((origin (kept_of c.ways) n e).0 c.start))) not

-- what follows a row, at that row
module _ (c : Choices) (r : Option Rest) (n : ℕ) (e : End) (row : ℕ) (at : row ≡ c.start + length c.labels.items) (h : StandsFor n e row (first_later (stack_of c.ways) n e) r) where
  pub followed_words : length (option_words n e r row) ≡ length (after c n e)
  unfolding after
  followed_words = ap length (h.words ∙ ap ((first_later (stack_of c.ways) n e).0) at)

  pub followed_left : option_turns n e r row + length (option_words n e r row) ≡ turns_left_after c n e
  unfolding turns_left_after
  followed_left = omega (arith, h.turns, ap length h.words) ∙ ap (left_at (first_later (stack_of c.ways) n e)) at

pub no_choices : (xs : List Way) → length xs ≡ 0 → reverse xs ≡ []
no_choices [] h = refl
no_choices (x ∷ xs) h = absurd (omega arith)

pub all_front : (ls : List Label) → AreFirstOf ls ls
all_front ls = (length ls, sym (take-all ls))

pub none_front : (ls of : List Label) → ls ≡ [] → AreFirstOf ls of
none_front ls of h = (0, h)

pub rises_subst : (m : ℕ) (cs ds : List Way) → cs ≡ ds → IsTrue (rises m ds) → IsTrue (rises m cs)
rises_subst m cs ds h r = subst (λ z. IsTrue (rises m z)) (sym h) r

-- the pattern, as it is kept
module _ (c : Choices) (f : Form) (h : Keeps f (kept_of c.ways)) (n : ℕ) (e : End) where
  pub new_from : (row : ℕ) → whole_from c n e row ≡ words n e f row
  unfolding whole_from
  new_from row = h.words n e row

  pub new_left_from : (row : ℕ) → whole_turns_from c n e row ≡ turns n e f row + length (words n e f row)
  unfolding whole_turns_from
  new_left_from row = omega (arith, h.turns n e row, ap length (h.words n e row))

  pub new_whole : whole c n e ≡ words n e f c.start
  unfolding whole
  new_whole = h.words n e c.start

  pub new_left : whole_turns c n e ≡ turns n e f c.start + length (words n e f c.start)
  unfolding whole_turns
  new_left = omega (arith, h.turns n e c.start, ap length (h.words n e c.start))
