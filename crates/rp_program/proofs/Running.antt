-- What the instructions of a program say of its places.
use Rattle.std.proofs.Common.{◌≡◌, ℕ, zero, suc, ◌+◌, ◌<◌, ◌≤◌, List, [], ◌∷◌, ◌++◌, map, length, take, drop, get_or, Bool, true, false, cond, ◌&&◌, IsTrue, Option, Some, None, refl, sym, ap, ◌∙◌, arith, subst}
use Rattle.std.specs.Prelude.{sum_by, nat_le, nat_lt}
use Rattle.std.specs.List.{AllByRecursion, flat_map}
use Rattle.std.proofs.Math.Seq.{drop-cons}
use Rattle.std.proofs.lemmas.List.{take-append-drop, length-take-le, get_or_default}
use Rattle.std.proofs.lemmas.Bool.Decides.{nat_tests}
use Rattle.rp_words.specs.declared.form.Form.{Form}
use Rattle.rp_words.specs.declared.word.End.{End}
use Rattle.rp_words.specs.declared.word.End.TheVariants.{Open as OpenEnd, Closed as ClosedEnd}
use Rattle.rp_words.specs.declared.word.Label.{Label}
use Rattle.rp_words.specs.Mapping.{Open, preceded}
use Rattle.rp_words.specs.Words.{followed}
use Rattle.rp_words.specs.Turns.{WordsAndTurns, turns_after}
use Rattle.rp_words.proofs.Algebra.{append_nil, concatenation_nothing_first}
use Rattle.rp_program.specs.declared.place.Place.{Place}
use Rattle.rp_program.specs.declared.place.Place.TheVariants.{Match, Row, Split, RowSplit, PartitionStart, PartitionEnd, Loop}
use Rattle.rp_program.specs.declared.place.Next.{Next}
use Rattle.rp_program.specs.declared.program.Program.{Program}
use Rattle.rp_program.specs.Parts.{form_part, nothing_left, joined, either, open_words, may_begin, Replaces}
use Rattle.rp_program.specs.Places.{at, at_option, made, parts}
use Rattle.rp_program.specs.Drafts.{IsOption, Names, names_hold, place_at, Grows, Pushes, LeadsInto, Begins}
use Rattle.rp_program.specs.Programs.{place_count, IsPlace, row_next, next_place, place_words, place_turns, IsMatch, IsRow, IsSplit, IsRowSplit, IsStart, IsEnd, IsPlaceOption, option_words, option_turns}
use Rattle.rp_program.proofs.Chains.{one_part}
use Rattle.rp_program.proofs.Expansions.{variable_row, variable_open, variable_closed, variable_turns, start_words, start_none, start_turns, end_words, end_open, end_none, end_turns}
use Rattle.rp_program.proofs.Places.{parts_stay, parts_seam, made_same}
use Rattle.rp_program.proofs.Growth.{IsPlain, grows_then, pushed_at, pushed_grows}

-- ---- names

and_both : (a b : Bool) → IsTrue (a && b) → IsTrue a × IsTrue b
and_both true b h = (refl, h)
and_both false b h = absurd cc

lt_of : (a b : ℕ) → IsTrue (nat_lt a b) → a < b
lt_of a b h = grind (arith, nat_tests)

lt_is : (a b : ℕ) → a < b → IsTrue (nat_lt a b)
lt_is a b h = grind (arith, nat_tests)

both_is : (a b : Bool) → IsTrue a → IsTrue b → IsTrue (a && b)
both_is true b h k = k
both_is false b h k = absurd cc

pub names_from : (k q : ℕ) (x : Place) → IsTrue (names_hold k q x) → Names k q x
names_from k q Match h = tt
names_from k q (Row var excluded next) h = lt_of next q h
names_from k q (Split preferred other) h = let b = and_both (nat_lt preferred q) (nat_lt other q) h in (lt_of preferred q b.0, lt_of other q b.1)
names_from k q (RowSplit preferred other others) h = let b = and_both (nat_lt preferred q) (nat_lt other q) h in (lt_of preferred q b.0, lt_of other q b.1)
names_from k q (PartitionStart next) h = lt_of next q h
names_from k q (PartitionEnd None) h = tt
names_from k q (PartitionEnd (Some next)) h = lt_of next q h
names_from k q (Loop preferred other body excluded reluctant next) h =
    let b = and_both (nat_lt preferred k && nat_lt other k) (nat_lt next q) h in
    let c = and_both (nat_lt preferred k) (nat_lt other k) b.0 in
    (lt_of preferred k c.0, lt_of other k c.1, lt_of next q b.1)

pub names_to : (k q : ℕ) (x : Place) → Names k q x → IsTrue (names_hold k q x)
names_to k q Match h = refl
names_to k q (Row var excluded next) h = lt_is next q h
names_to k q (Split preferred other) h = both_is (nat_lt preferred q) (nat_lt other q) (lt_is preferred q h.0) (lt_is other q h.1)
names_to k q (RowSplit preferred other others) h = both_is (nat_lt preferred q) (nat_lt other q) (lt_is preferred q h.0) (lt_is other q h.1)
names_to k q (PartitionStart next) h = lt_is next q h
names_to k q (PartitionEnd None) h = refl
names_to k q (PartitionEnd (Some next)) h = lt_is next q h
names_to k q (Loop preferred other body excluded reluctant next) h =
    both_is (nat_lt preferred k && nat_lt other k) (nat_lt next q) (both_is (nat_lt preferred k) (nat_lt other k) (lt_is preferred k h.0) (lt_is other k h.1)) (lt_is next q h.2)

-- ---- a place that is no loop stands for what it makes of others

place_seam : (places : List Place) (q : ℕ) → q < length places → take q places ++ place_at places q ∷ drop (suc q) places ≡ places
place_seam places q lt = ap (λ z. take q places ++ z) (sym (drop-cons places q Match lt)) ∙ take-append-drop q places

pub plain_at : (n : ℕ) (e : End) (places : List Place) (q : ℕ) → q < length places → Names (length places) q (place_at places q) → ((k : ℕ) → Names (length places) q (place_at places q) → Names k q (place_at places q)) → IsPlain (place_at places q) →
    at (parts n e places) q ≡ made n e (parts n e places) (place_at places q)
plain_at n e places q lt names any plain =
    let before = take q places in
    let x = place_at places q in
    let after = drop (suc q) places in
    let whole = place_seam places q lt in
    let long : length before ≡ q = length-take-le q places (omega (arith, lt)) in
    let here : at (parts n e (before ++ x ∷ after)) (length before) ≡ made n e (parts n e before) x = parts_seam n e before x after ∙ plain n e (parts n e before) in
    let same : made n e (parts n e (before ++ x ∷ after)) x ≡ made n e (parts n e before) x =
    made_same n e (length before) (length before) (parts n e (before ++ x ∷ after)) (parts n e before) x (omega arith) (λ r less. parts_stay n e before (x ∷ after) r less) (subst (λ k. Names (length before) k x) (sym long) (any (length before) names)) in
    ap (at (parts n e places)) (sym long) ∙ ap (λ z. at (parts n e z) (length before)) (sym whole) ∙ here ∙ sym same ∙ ap (λ z. made n e (parts n e z) x) whole

-- ---- the instructions

some_turn : (n row t mine : ℕ) → mine ≡ cond (nat_le row n) t 1 → 0 < t → 0 < mine
some_turn n row t mine is some = subst (λ z. 0 < z) (sym is) (go (nat_le row n))
  where
    go : (b : Bool) → 0 < cond b t 1
    go true = some
    go false = omega arith

module _ (p : Program) (place : ℕ) (lt : place < length p.places.items) where
  abbrev items : List Place
  items = p.places.items

  abbrev part : ℕ → End → ℕ → WordsAndTurns
  part n e q = at (parts n e items) q

  names : (x : Place) → place_at items place ≡ x → Names (length items) place x
  names x is = names_from (length items) place x (subst (λ z. IsTrue (names_hold (length items) place z)) is (p.named place lt))

  plain : (x : Place) → place_at items place ≡ x → IsPlain x → ((k : ℕ) → Names (length items) place x → Names k place x) → (n : ℕ) (e : End) → part n e place ≡ made n e (parts n e items) x
  plain x is h any n e =
      plain_at n e items place lt (subst (Names (length items) place) (sym is) (names x is)) (λ k w. subst (Names k place) (sym is) (any k (subst (Names (length items) place) is w))) (subst IsPlain (sym is) h)
      ∙ ap (made n e (parts n e items)) is

  below : (q : ℕ) → q < place → IsPlace p q
  unfolding place_count place_words place_turns next_place
  below q h = omega (arith, h, lt)

  pub match_stands : place_at items place ≡ Match → IsMatch p place
  unfolding place_count place_words place_turns next_place
  match_stands is n e row = ap (λ z. z.0 row) (plain Match is (λ n e ps. refl) (λ k w. tt) n e)

  pub row_stands : (v : ℕ) (x : Bool) (next : ℕ) → place_at items place ≡ Row v x next → IsRow p place (record { var = v; excluded = x }) next
  unfolding place_count place_words place_turns next_place
  row_stands v x next is =
      let here = plain (Row v x next) is (λ n e ps. refl) (λ k w. w) in
      record {
        there = below next (names (Row v x next) is);
        follows = ap row_next is;
        words = λ n e row le.
            let l : Label = record { var = v; excluded = x } in
            ap (λ z. z.0 row) (here n e) ∙ ap (flat_map (followed (part n e next).0 row)) (variable_row n e x v row le) ∙ append_nil (map (preceded (l ∷ [])) ((part n e next).0 (row + 1)));
        turns = λ n e row le.
            let w = ap (sum_by (turns_after (part n e next).1 row)) (variable_row n e x v row le) in
            ap (λ z. z.1 row) (here n e) ∙ omega (arith, w, variable_turns n e x v row);
        waits = λ n row past. ap (λ z. z.0 row) (here n OpenEnd) ∙ ap (flat_map (followed (part n OpenEnd next).0 row)) (variable_open n OpenEnd x v row past refl);
        closed = λ n row past. ap (λ z. z.0 row) (here n ClosedEnd) ∙ ap (flat_map (followed (part n ClosedEnd next).0 row)) (variable_closed n ClosedEnd x v row past refl);
        some = λ n e row. let t = ap (λ z. z.1 row) (here n e) in omega (arith, t, variable_turns n e x v row);
      }

  pub split_stands : (a b : ℕ) → place_at items place ≡ Split a b → IsSplit p place a b
  unfolding place_count place_words place_turns next_place
  split_stands a b is =
      let here = plain (Split a b) is (λ n e ps. refl) (λ k w. w) in
      let there = names (Split a b) is in
      record {
        there = below a there.0;
        other_there = below b there.1;
        words = λ n e row. ap (λ z. z.0 row) (here n e);
        turns = λ n e row. let t = ap (λ z. z.1 row) (here n e) in omega (arith, t);
      }

  from_known : {A : Type 0} (n row : ℕ) (x y : A) (b : Bool) → row ≤ n → nat_le row n ≡ b → cond b x y ≡ x
  from_known n row x y true le k = refl
  from_known n row x y false le k = absurd (grind (arith, nat_tests))

  from_unknown : {A : Type 0} (n row : ℕ) (x y : A) (b : Bool) → n < row → nat_le row n ≡ b → cond b x y ≡ y
  from_unknown n row x y true past k = absurd (grind (arith, nat_tests))
  from_unknown n row x y false past k = refl

  all_open : (k : ℕ) → AllByRecursion (λ w. w ≡ Open []) (open_words k)
  all_open zero = tt
  all_open (suc k) = (refl, all_open k)

  pub row_split_stands : (a b others : ℕ) → place_at items place ≡ RowSplit a b others → IsRowSplit p place a b
  unfolding place_count place_words place_turns next_place
  row_split_stands a b others is =
      let here = plain (RowSplit a b others) is (λ n e ps. refl) (λ k w. w) in
      let there = names (RowSplit a b others) is in
      record {
        there = below a there.0;
        other_there = below b there.1;
        words = λ n e row le. ap (λ z. z.0 row) (here n e) ∙ from_known n row ((either (part n e a) (part n e b)).0 row) (may_begin e others) (nat_le row n) le refl;
        turns = λ n e row le.
            let t = ap (λ z. z.1 row) (here n e) ∙ from_known n row ((either (part n e a) (part n e b)).1 row) 1 (nat_le row n) le refl in
            omega (arith, t);
        more = open_words others;
        alike = all_open others;
        waits = λ n row past. ap (λ z. z.0 row) (here n OpenEnd) ∙ from_unknown n row ((either (part n OpenEnd a) (part n OpenEnd b)).0 row) (may_begin OpenEnd others) (nat_le row n) past refl;
        closed = λ n row past. ap (λ z. z.0 row) (here n ClosedEnd) ∙ from_unknown n row ((either (part n ClosedEnd a) (part n ClosedEnd b)).0 row) (may_begin ClosedEnd others) (nat_le row n) past refl;
        some = λ n e row. some_turn n row ((either (part n e a) (part n e b)).1 row) ((part n e place).1 row) (ap (λ z. z.1 row) (here n e)) (omega arith);
      }

  pub loop_stands : (a b : ℕ) (x : Place) → place_at items place ≡ x → ((n : ℕ) (e : End) (ps : List WordsAndTurns) → made n e ps x ≡ either (at ps a) (at ps b)) → a < length items → b < length items → IsSplit p place a b
  unfolding place_count place_words place_turns next_place
  loop_stands a b x is makes la lb = record {
    there = la;
    other_there = lb;
    words = λ n e row. sym (p.words n e place row lt) ∙ ap (λ z. (made n e (parts n e items) z).0 row) is ∙ ap (λ z. z.0 row) (makes n e (parts n e items));
    turns = λ n e row.
        let t = ap (λ z. (made n e (parts n e items) z).1 row) is ∙ ap (λ z. z.1 row) (makes n e (parts n e items)) in
        omega (arith, p.turns n e place row lt, t);
  }

  pub start_stands : (next : ℕ) → place_at items place ≡ PartitionStart next → IsStart p place next
  unfolding place_count place_words place_turns next_place
  start_stands next is =
      let here = plain (PartitionStart next) is (λ n e ps. refl) (λ k w. w) in
      record {
        there = below next (names (PartitionStart next) is);
        words = λ n e. ap (λ z. z.0 1) (here n e) ∙ ap (flat_map (followed (part n e next).0 1)) (start_words n e false 1 refl) ∙ concatenation_nothing_first (part n e next).0 1;
        turns = λ n e.
            let t = ap (λ z. z.1 1) (here n e) in
            let w = ap (sum_by (turns_after (part n e next).1 1)) (start_words n e false 1 refl) in
            omega (arith, t, w, start_turns n e false 1);
        none = λ n e row h. ap (λ z. z.0 row) (here n e) ∙ ap (flat_map (followed (part n e next).0 row)) (start_none n e false row h);
        some = λ n e row. let t = ap (λ z. z.1 row) (here n e) in omega (arith, t, start_turns n e false row);
      }

  option_part : (n : ℕ) (e : End) (next : Option ℕ) (row : ℕ) → ((at_option (parts n e items) next).0 row ≡ option_words p n e next row) × ((at_option (parts n e items) next).1 row ≡ option_turns p n e next row)
  unfolding place_count place_words place_turns next_place
  option_part n e None row = (refl, refl)
  option_part n e (Some q) row = (refl, refl)

  option_there : (next : Option ℕ) → IsOption place next → IsPlaceOption p next
  unfolding place_count place_words place_turns next_place
  option_there None w = tt
  option_there (Some q) w = below q w

  pub end_stands : (next : Option ℕ) → place_at items place ≡ PartitionEnd next → IsEnd p place next
  unfolding place_count place_words place_turns next_place
  end_stands next is =
      let here = plain (PartitionEnd next) is (λ n e ps. refl) (λ k w. w) in
      record {
        there = option_there next (names (PartitionEnd next) is);
        words = λ n row past.
            let later = at_option (parts n ClosedEnd items) next in
            ap (λ z. z.0 row) (here n ClosedEnd) ∙ ap (flat_map (followed later.0 row)) (end_words n ClosedEnd false row past refl) ∙ concatenation_nothing_first later.0 row ∙ (option_part n ClosedEnd next row).0;
        turns = λ n row past.
            let later = at_option (parts n ClosedEnd items) next in
            let t = ap (λ z. z.1 row) (here n ClosedEnd) in
            let w = ap (sum_by (turns_after later.1 row)) (end_words n ClosedEnd false row past refl) in
            let same : row + 0 ≡ row = omega arith in
            omega (arith, t, w, end_turns n ClosedEnd false row, ap later.1 same, (option_part n ClosedEnd next row).1);
        waits = λ n row past. ap (λ z. z.0 row) (here n OpenEnd) ∙ ap (flat_map (followed (at_option (parts n OpenEnd items) next).0 row)) (end_open n OpenEnd false row past refl);
        none = λ n e row le. ap (λ z. z.0 row) (here n e) ∙ ap (flat_map (followed (at_option (parts n e items) next).0 row)) (end_none n e false row le);
        some = λ n e row. let t = ap (λ z. z.1 row) (here n e) in omega (arith, t, end_turns n e false row);
      }

-- ---- the whole

pub begins : (f : Form) (old mid new : List Place) (end : ℕ) (next first : Next) → old ≡ [] → Pushes Match old mid end → next ≡ record { unmoved = Some end; moved = end } → LeadsInto (λ n e. form_part n e f false) next mid new first → Begins f new first.moved
begins f old mid new end next first empty pushes is h =
    let grows : Grows old new = grows_then old mid new (pushed_grows old mid Match pushes.is (λ n e ps. refl) tt) h.grows in
    record {
      holds = λ q lt. grows.holds q (omega (arith, ap length empty)) lt;
      within = h.within.moved;
      replaces = λ n e i.
          let nothing : at (parts n e mid) next.moved ≡ nothing_left = ap (λ z. at (parts n e mid) z.moved) is ∙ ap (at (parts n e mid)) pushes.number ∙ pushed_at old mid Match pushes.is n e in
          let whole : joined (form_part n e f false) (at (parts n e mid) next.moved) ≡ form_part n e f false = ap (joined (form_part n e f false)) nothing ∙ one_part (form_part n e f false) in
          subst (λ z. Replaces i z (at (parts n e new) first.moved)) whole (h.moved n e i);
    }

-- what was read at a number stands there
pub read_at : (items : List Place) (q : ℕ) (d x : Place) → q < length items → d ≡ get_or items q d → d ≡ x → place_at items q ≡ x
read_at items q d x lt read is = get_or_default items q Match d lt ∙ sym read ∙ is

-- the same, where it is the number of a place of the program
pub place_read : (p : Program) (q : ℕ) (d x : Place) → IsPlace p q → d ≡ get_or p.places.items q d → d ≡ x → place_at p.places.items q ≡ x
unfolding place_count
place_read p q d x there read is = read_at p.places.items q d x there read is

pub is_below : (p : Program) (q : ℕ) → IsPlace p q → q < length p.places.items
unfolding place_count
is_below p q there = there
