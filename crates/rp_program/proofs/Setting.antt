-- The places of a PERMUTE of variables.
use Rattle.std.proofs.Common.{◌≡◌, ℕ, zero, suc, ◌+◌, ◌-◌, ◌<◌, ◌≤◌, List, [], ◌∷◌, ◌++◌, map, length, get_or, Bool, true, false, cond, Option, Some, None, refl, sym, ap, ◌∙◌, arith, subst, length-append}
use Rattle.std.specs.Prelude.{nat_le, nat_lt, drop}
use Rattle.std.specs.List.{flat_map, AllByRecursion}
use Rattle.std.proofs.Math.Seq.{get_or-append_seam}
use Rattle.std.proofs.lemmas.List.{get_or_append_left}
use Rattle.std.proofs.lemmas.Bool.Decides.{nat_tests}
use Rattle.std.specs.declared.rc.Rc.{Rc}
use Rattle.std.specs.declared.alloc.Global.{Global}
use Rattle.rp_words.specs.declared.form.Form.{Form}
use Rattle.rp_words.specs.declared.form.Form.TheVariants as V
use Rattle.rp_words.specs.declared.word.End.{End}
use Rattle.rp_words.specs.declared.word.Label.{Label}
use Rattle.rp_words.specs.Mapping.{Mapping, Full, Open, preceded}
use Rattle.rp_words.specs.Permutations.{factorial}
use Rattle.rp_words.specs.Words.{Mappings, followed, orders, picks, sequence}
use Rattle.rp_words.specs.Turns.{WordsAndTurns, words_of, orders_from}
use Rattle.rp_words.proofs.Arrangements.{orders-map}
use Rattle.rp_words.proofs.Lists.{All-append, All-weaker, map-map}
use Rattle.rp_program.specs.declared.place.Place.{Place}
use Rattle.rp_program.specs.declared.place.Place.TheVariants.{Row, RowSplit}
use Rattle.rp_program.specs.declared.place.Next.{Next}
use Rattle.rp_program.specs.Parts.{form_part, form_parts, joined, either, from_row, may_begin, Replaces}
use Rattle.rp_program.specs.Places.{at, at_option, parts}
use Rattle.rp_program.specs.Drafts.{IsOption, Grows, Pushes, Puts, LeadsInto}
use Rattle.rp_program.specs.Sets.{sets, in_set, ways, variable_parts, one_way, any_way, way_or, IsThere, PutsWays, other_orders}
use Rattle.rp_program.proofs.Parts.{replaces_self, replaces_as, replaces_same, either_replaced, fork_past}
use Rattle.rp_program.proofs.Growth.{grows_self, grows_then, grows_length, grown_at}
use Rattle.rp_program.proofs.Making.{puts_weaker, puts_behind, puts_nothing, pushed_puts, puts_same}
use Rattle.rp_program.proofs.Rows.{Moves, moved_joined, variable_moves}
use Rattle.rp_program.proofs.Steps.{leads_weaker}
use Rattle.rp_program.proofs.Permuting.{all_at}
use Rattle.rp_program.proofs.Picking.{sets_positive, ways_with, empty_set, whole_set, Picked, ways_pick, Begins, orders_begin}
use Rattle.rp_program.proofs.Ways.{StandsFor, LeadsTo, none_stands, set_replaces, ways_stand}

-- ---- a row, or else a place

pub row_alone : (old new : List Place) (var : ℕ) (x : Bool) (others next : ℕ) (other : Option ℕ) (number : ℕ) → other ≡ None → next < length old → Pushes (Row var x next) old new number →
    Puts (λ n e i. way_or n e (parts n e old) x others (var, next) other) old new (Some number)
row_alone old new var x others next other number is w h =
    subst (λ z. Puts (λ n e i. way_or n e (parts n e old) x others (var, next) z) old new (Some number)) (sym is)
    (pushed_puts _ old new (Row var x next) number h (λ n e ps. refl) w (λ n e i. replaces_self i (one_way n e (parts n e old) x (var, next))))

from_replaced : (n : ℕ) (e : End) (others : ℕ) (p q : WordsAndTurns) (i : ℕ) → Replaces i p q → Replaces i (from_row n e others p) (from_row n e others q)
from_replaced n e others p q i h = record { words = words (nat_le i n); turns = turns (nat_le i n) }
  where
    words : (b : Bool) → cond b (q.0 i) (may_begin e others) ≡ cond b (p.0 i) (may_begin e others)
    words true = h.words
    words false = refl

    turns : (b : Bool) → cond b (q.1 i) 1 ≤ cond b (p.1 i) 1
    turns true = h.turns
    turns false = omega arith

pub row_or_place : (old mid new : List Place) (var : ℕ) (x : Bool) (others next : ℕ) (other : Option ℕ) (place q number : ℕ) → other ≡ Some q → next < length old → IsOption (length old) other →
    Pushes (Row var x next) old mid place → Pushes (RowSplit place q others) mid new number → Puts (λ n e i. way_or n e (parts n e old) x others (var, next) other) old new (Some number)
row_or_place old mid new var x others next other place q number is w wo h k =
    let first : Puts (λ n e i. one_way n e (parts n e old) x (var, next)) old mid (Some place) =
    pushed_puts _ old mid (Row var x next) place h (λ n e ps. refl) w (λ n e i. replaces_self i (one_way n e (parts n e old) x (var, next))) in
    let wq : q < length old = subst (IsOption (length old)) is wo in
    let long = grows_length old mid first.grows in
    subst (λ z. Puts (λ n e i. way_or n e (parts n e old) x others (var, next) z) old new (Some number)) (sym is)
    (puts_behind _ old mid new (Some number) first.grows
    (pushed_puts _ mid new (RowSplit place q others) number k (λ n e ps. refl) (first.within, omega (arith, wq, long))
    (λ n e i. from_replaced n e others (either (one_way n e (parts n e old) x (var, next)) (at (parts n e old) q)) (either (at (parts n e mid) place) (at (parts n e mid) q)) i
    (either_replaced (one_way n e (parts n e old) x (var, next)) (at (parts n e old) q) (at (parts n e mid) place) (at (parts n e mid) q) i (first.stands n e i)
    (replaces_as i (at (parts n e old) q) (at (parts n e old) q) (at (parts n e mid) q) (sym (grown_at old mid first.grows n e q wq)) (replaces_self i (at (parts n e old) q)))))))

-- ---- the ways of a set

pub no_ways : (x : Bool) (others : ℕ) (old : List Place) → PutsWays [] x others old old None
no_ways x others old = record { puts = puts_nothing _ old None tt (λ n e i. replaces_same i _ _ refl refl); there = tt }

module _ (x : Bool) (others : ℕ) (old mid new : List Place) (way : ℕ × ℕ) (w : way.1 < length old) where
  way_grown : Grows old mid → (n : ℕ) (e : End) → one_way n e (parts n e mid) x way ≡ one_way n e (parts n e old) x way
  way_grown grows n e = ap (joined (form_part n e (V.Variable way.0) x)) (grown_at old mid grows n e way.1 w)

  way_stays : Grows old mid → (n : ℕ) (e : End) (i : ℕ) → Replaces i (one_way n e (parts n e old) x way) (one_way n e (parts n e mid) x way)
  way_stays grows n e i = replaces_as i (one_way n e (parts n e old) x way) (one_way n e (parts n e old) x way) (one_way n e (parts n e mid) x way) (sym (way_grown grows n e)) (replaces_self i (one_way n e (parts n e old) x way))

  -- one way more, before the others
  pub one_way_more : (ways : List (ℕ × ℕ)) (other : Option ℕ) (place : ℕ) → PutsWays ways x others old mid other → Puts (λ n e i. way_or n e (parts n e mid) x others way other) mid new (Some place) →
      PutsWays (way ∷ ways) x others old new (Some place)
  one_way_more [] None place h k = record {
    puts = puts_behind _ old mid new (Some place) h.puts.grows (puts_weaker _ _ mid new (Some place) (λ n e i. way_stays h.puts.grows n e i) k);
    there = tt;
  }
  one_way_more [] (Some q) place h k = absurd h.there
  one_way_more (v ∷ ways) None place h k = absurd h.there
  one_way_more (v ∷ ways) (Some q) place h k = record {
    puts = puts_behind _ old mid new (Some place) h.puts.grows
        (puts_weaker _ _ mid new (Some place)
        (λ n e i. from_replaced n e others (either (one_way n e (parts n e old) x way) (any_way n e (parts n e old) x others (v ∷ ways))) (either (one_way n e (parts n e mid) x way) (at (parts n e mid) q)) i
        (either_replaced (one_way n e (parts n e old) x way) (any_way n e (parts n e old) x others (v ∷ ways)) (one_way n e (parts n e mid) x way) (at (parts n e mid) q) i
        (way_stays h.puts.grows n e i) (h.puts.stands n e i))) k);
    there = tt;
  }

-- the ways of a set that has its first variable
pub any_way_more : (x : Bool) (others : ℕ) (vars : List ℕ) (v : ℕ) (vs table back : List ℕ) (without next : ℕ) (old mid new : List Place) (other : Option ℕ) (place : ℕ) →
    vars ≡ v ∷ vs → without ≡ sets (length vs) → without ≤ length table → back ≡ drop without table → next ≡ get_or table (length table - without) 0 → AllByRecursion (λ q. q < length old) table →
    PutsWays (ways vs back) x others old mid other → Puts (λ n e i. way_or n e (parts n e mid) x others (v, next) other) mid new (Some place) → PutsWays (ways vars table) x others old new (Some place)
any_way_more x others vars v vs table back without next old mid new other place is size le is_back is_next within h k =
    let some = sets_positive (length vs) in
    let half : sets (length vs) ≤ length table = omega (arith, size, le) in
    let next_is : next ≡ get_or table (length table - sets (length vs)) 0 = is_next ∙ ap (λ z. get_or table (length table - z) 0) size in
    let back_is : back ≡ drop (sets (length vs)) table = is_back ∙ ap (λ z. drop z table) size in
    let w : next < length old = subst (λ q. q < length old) (sym next_is) (all_at (λ q. q < length old) table (length table - sets (length vs)) 0 within (omega (arith, some, half))) in
    let more : PutsWays ((v, next) ∷ ways vs back) x others old new (Some place) = one_way_more x others old mid new (v, next) w (ways vs back) other place h k in
    let whole : (v, next) ∷ ways vs back ≡ ways vars table =
    ap (λ z. (v, z) ∷ ways vs back) next_is ∙ ap (λ z. (v, get_or table (length table - sets (length vs)) 0) ∷ ways vs z) back_is ∙ sym (ways_with v vs table half) ∙ ap (λ z. ways z table) (sym is) in
    subst (λ z. PutsWays z x others old new (Some place)) whole more

pub next_within : (old : List Place) (table : List ℕ) (vs : List ℕ) (without : ℕ) → without ≡ sets (length vs) → without ≤ length table → AllByRecursion (λ q. q < length old) table → get_or table (length table - without) 0 < length old
next_within old table vs without size le within = all_at (λ q. q < length old) table (length table - without) 0 within (omega (arith, size, le, sets_positive (length vs)))

-- ---- the places of all sets

ways_of : (n : ℕ) (e : End) (x : Bool) (later : WordsAndTurns) (ps : List WordsAndTurns) (ws : List (ℕ × ℕ)) (ys : List ℕ) (others q : ℕ) → others ≡ factorial (length ys) - 1 → IsThere ws (Some q) →
    Picked (LeadsTo n e x later ps) ws (picks ys) → (i : ℕ) → StandsFor n e x later (any_way n e ps x others ws) ys i
ways_of n e x later ps [] ys others q is there h i = absurd there
ways_of n e x later ps (w ∷ ws) [] others q is there h i = absurd h
ways_of n e x later ps (w ∷ ws) (y ∷ ys) others q is there h i =
    subst (λ k. StandsFor n e x later (any_way n e ps x k (w ∷ ws)) (y ∷ ys) i) (sym is) (ways_stand n e x later ps w ws y ys h i)

-- Places have been put for the first sets, and the table has their numbers.
pub record SetsPut (vars : List ℕ) (x : Bool) (next : ℕ) (old new : List Place) (table : List ℕ) (place number : ℕ) : Type 0 where
  pub long : length table ≡ number
  pub last : place ≡ get_or table (number - 1) 0
  pub grows : Grows old new
  pub within : AllByRecursion (λ q. q < length new) table
  pub stands : (j : ℕ) → j < length table → (n : ℕ) (e : End) (i : ℕ) → StandsFor n e x (at (parts n e old) next) (at (parts n e new) (get_or table j 0)) (in_set vars j) i

pub sets_begin : (vars : List ℕ) (x : Bool) (next : ℕ) (old : List Place) → next < length old → SetsPut vars x next old old (next ∷ []) next 1
sets_begin vars x next old w = record { long = refl; last = refl; grows = grows_self old; within = (w, tt); stands = go }
  where
    go : (j : ℕ) → j < 1 → (n : ℕ) (e : End) (i : ℕ) → StandsFor n e x (at (parts n e old) next) (at (parts n e old) (get_or (next ∷ []) j 0)) (in_set vars j) i
    go zero lt n e i = subst (λ ys. StandsFor n e x (at (parts n e old) next) (at (parts n e old) next) ys i) (sym (empty_set vars)) (none_stands n e x (at (parts n e old) next) i)
    go (suc j) lt n e i = absurd (omega (arith, lt))

module _ (vars : List ℕ) (x : Bool) (next : ℕ) (old mid new : List Place) (table : List ℕ) (place number q : ℕ) (few : number < sets (length vars)) (now : SetsPut vars x next old mid table place number)
    (put : PutsWays (ways vars table) x (other_orders vars (length table)) mid new (Some q)) where
  next_stands : (n : ℕ) (e : End) (i : ℕ) → StandsFor n e x (at (parts n e old) next) (at (parts n e new) q) (in_set vars (length table)) i
  next_stands n e i =
      let later = at (parts n e old) next in
      let picked : Picked (LeadsTo n e x later (parts n e mid)) (ways vars table) (picks (in_set vars (length table))) =
      ways_pick (LeadsTo n e x later (parts n e mid)) vars table (omega (arith, few, now.long)) (λ j less i. now.stands j less n e i) in
      let any : StandsFor n e x later (any_way n e (parts n e mid) x (other_orders vars (length table)) (ways vars table)) (in_set vars (length table)) i =
      ways_of n e x later (parts n e mid) (ways vars table) (in_set vars (length table)) (other_orders vars (length table)) q refl put.there picked i in
      let r = put.puts.stands n e i in
      record { words = r.words ∙ any.words; turns = omega (arith, r.turns, any.turns) }

  stands_more : (j : ℕ) → j < length (table ++ q ∷ []) → (n : ℕ) (e : End) (i : ℕ) → StandsFor n e x (at (parts n e old) next) (at (parts n e new) (get_or (table ++ q ∷ []) j 0)) (in_set vars j) i
  stands_more j lt n e i = go (nat_lt j (length table)) refl
    where
      go : (b : Bool) → nat_lt j (length table) ≡ b → StandsFor n e x (at (parts n e old) next) (at (parts n e new) (get_or (table ++ q ∷ []) j 0)) (in_set vars j) i
      go true is =
          let less : j < length table = grind (arith, nat_tests) in
          let there : get_or table j 0 < length mid = all_at (λ q. q < length mid) table j 0 now.within less in
          let same : at (parts n e mid) (get_or table j 0) ≡ at (parts n e new) (get_or (table ++ q ∷ []) j 0) =
          sym (grown_at mid new put.puts.grows n e (get_or table j 0) there) ∙ ap (at (parts n e new)) (sym (get_or_append_left table (q ∷ []) 0 j less)) in
          subst (λ z. StandsFor n e x (at (parts n e old) next) z (in_set vars j) i) same (now.stands j less n e i)
      go false is =
          let here : length table ≡ j = grind (arith, nat_tests, length-append table (q ∷ [])) in
          let same : q ≡ get_or (table ++ q ∷ []) j 0 = sym (get_or-append_seam table q [] 0) ∙ ap (λ k. get_or (table ++ q ∷ []) k 0) here in
          subst (λ k. StandsFor n e x (at (parts n e old) next) (at (parts n e new) k) (in_set vars j) i) same
          (subst (λ k. StandsFor n e x (at (parts n e old) next) (at (parts n e new) q) (in_set vars k) i) here (next_stands n e i))

  pub sets_more : SetsPut vars x next old new (table ++ q ∷ []) q (number + 1)
  sets_more = record {
    long = omega (arith, length-append table (q ∷ []), now.long);
    last = let here : length table ≡ (number + 1) - 1 = omega (arith, now.long) in sym (get_or-append_seam table q [] 0) ∙ ap (λ k. get_or (table ++ q ∷ []) k 0) here;
    grows = grows_then old mid new now.grows put.puts.grows;
    within =
        let more = grows_length mid new put.puts.grows in
        All-append (λ q. q < length new) table (q ∷ []) (All-weaker (λ q. q < length mid) (λ q. q < length new) (λ q lt. omega (arith, lt, more)) table now.within) (put.puts.within, tt);
    stands = stands_more;
  }

-- ---- a PERMUTE of variables takes a row

module _ (i : ℕ) where
  preceded_move : (l : Label) (ls : List Label) (ws : List Mapping) → AllByRecursion Moves (map (preceded (l ∷ ls)) ws)
  preceded_move l ls [] = tt
  preceded_move l ls (Full ms ∷ ws) = (tt, preceded_move l ls ws)
  preceded_move l ls (Open ms ∷ ws) = (tt, preceded_move l ls ws)

  followed_move : (later : Mappings) (ws : List Mapping) → AllByRecursion Moves ws → AllByRecursion Moves (flat_map (followed later i) ws)
  followed_move later [] a = tt
  followed_move later (Full [] ∷ ws) a = absurd a.0
  followed_move later (Full (l ∷ ls) ∷ ws) a =
      All-append Moves (map (preceded (l ∷ ls)) (later (i + length (l ∷ ls)))) (flat_map (followed later i) ws) (preceded_move l ls (later (i + length (l ∷ ls)))) (followed_move later ws a.1)
  followed_move later (Open ls ∷ ws) a = (tt, followed_move later ws a.1)

module _ (n : ℕ) (e : End) (x : Bool) (i : ℕ) where
  each_moves : (os : List (List ℕ)) → AllByRecursion Begins os → AllByRecursion Moves (flat_map (λ o. sequence (map words_of o) i) (map (λ o. variable_parts n e o x) os))
  each_moves [] a = tt
  each_moves ([] ∷ os) a = absurd a.0
  each_moves ((v ∷ o) ∷ os) a =
      All-append Moves (sequence (map words_of (variable_parts n e (v ∷ o) x)) i) (flat_map (λ o. sequence (map words_of o) i) (map (λ o. variable_parts n e o x) os))
      (followed_move i (sequence (map words_of (variable_parts n e o x))) ((form_part n e (V.Variable v) x).0 i) (variable_moves n e x i v)) (each_moves os a.1)

  orders_move : (vars : List ℕ) → 0 < length vars → AllByRecursion Moves ((orders_from 0 (variable_parts n e vars x)).0 i)
  orders_move [] lt = absurd (omega (arith, lt))
  orders_move (v ∷ vs) lt =
      subst (λ z. AllByRecursion Moves (flat_map (λ o. sequence (map words_of o) i) z)) (sym (orders-map (λ v. form_part n e (V.Variable v) x) (v ∷ vs))) (each_moves (orders (v ∷ vs)) (orders_begin v vs))

pub sets_end : (vars : List ℕ) (x : Bool) (next : Next) (old new : List Place) (table : List ℕ) (place number : ℕ) (r : Next) → 0 < length vars → number ≡ sets (length vars) → r ≡ record { unmoved = Some place; moved = place } →
    SetsPut vars x next.moved old new table place number → LeadsInto (λ n e. orders_from 0 (variable_parts n e vars x)) next old new r
sets_end vars x next old new table place number r some is r_is now =
    let all : ℕ → End → WordsAndTurns = λ n e. orders_from 0 (variable_parts n e vars x) in
    let last : ℕ = number - 1 in
    let positive = sets_positive (length vars) in
    let less : last < length table = omega (arith, now.long, is, positive) in
    let whole : in_set vars last ≡ vars = whole_set vars last (omega (arith, is, positive)) in
    let puts : Puts (λ n e i. joined (all n e) (at (parts n e old) next.moved)) old new (Some place) = record {
      grows = now.grows;
      within = subst (λ q. q < length new) (sym now.last) (all_at (λ q. q < length new) table last 0 now.within less);
      stands = λ n e i.
          let later = at (parts n e old) next.moved in
          set_replaces n e x later (at (parts n e new) place) vars i
          (subst (λ q. StandsFor n e x later (at (parts n e new) q) vars i) (sym now.last)
          (subst (λ ys. StandsFor n e x later (at (parts n e new) (get_or table last 0)) ys i) whole (now.stands last less n e i)));
    } in
    puts_same _ _ old (λ n e i. joined (all n e) (at (parts n e old) next.moved)) new place r r_is puts
    (λ n e i. let g = at_option (parts n e old) next.unmoved in let u = at (parts n e old) next.moved in moved_joined _ u i (λ j lt. fork_past i g u j lt) (all n e) (orders_move n e x i vars some))
    (λ n e i. replaces_self i (joined (all n e) (at (parts n e old) next.moved)))

-- the parts of a PERMUTE, where each is a variable
pub leads_variables : (x : Bool) (vars : List ℕ) (forms : List (Rc Form Global)) (next r : Next) (old new : List Place) → map V.Variable vars ≡ map (λ f. f.value) forms →
    LeadsInto (λ n e. orders_from 0 (variable_parts n e vars x)) next old new r → LeadsInto (λ n e. orders_from 0 (form_parts n e forms x)) next old new r
leads_variables x vars forms next r old new is h =
    leads_weaker (λ n e. orders_from 0 (form_parts n e forms x)) (λ n e. orders_from 0 (variable_parts n e vars x)) next old new r
    (λ n e i later. subst (λ z. Replaces i (joined (orders_from 0 z) later) (joined (orders_from 0 (variable_parts n e vars x)) later)) (same n e) (replaces_self i (joined (orders_from 0 (variable_parts n e vars x)) later))) h
  where
    same : (n : ℕ) (e : End) → variable_parts n e vars x ≡ form_parts n e forms x
    same n e = sym (map-map (λ f. form_part n e f x) V.Variable vars) ∙ ap (map (λ f. form_part n e f x)) is ∙ map-map (λ f. form_part n e f x) (λ f. f.value) forms
