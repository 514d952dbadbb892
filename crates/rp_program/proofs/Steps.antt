-- What each form makes of its parts, and each step of a repetition.
use Rattle.std.proofs.Common.{◌≡◌, ℕ, suc, ◌<◌, List, [], ◌∷◌, length, Bool, true, false, Option, Some, None, sym, ap, arith, subst}
use Rattle.std.specs.declared.rc.Rc.{Rc}
use Rattle.std.specs.declared.alloc.Global.{Global}
use Rattle.rp_words.specs.declared.form.Form.{Form}
use Rattle.rp_words.specs.declared.form.Form.TheVariants as V
use Rattle.rp_words.specs.declared.word.End.{End}
use Rattle.rp_words.specs.Words.{further}
use Rattle.rp_words.specs.Turns.{WordsAndTurns, iterations}
use Rattle.rp_words.proofs.Algebra.{concatenation_assoc}
use Rattle.rp_words.proofs.TurnLaws.{concatenation_taken}
use Rattle.rp_program.specs.declared.place.Place.{Place}
use Rattle.rp_program.specs.declared.place.Next.{Next}
use Rattle.rp_program.specs.Parts.{form_part, joined, either, forked, no_way, chained, Replaces}
use Rattle.rp_program.specs.Places.{at, at_option, parts}
use Rattle.rp_program.specs.Drafts.{IsOption, IsWithin, Grows, Puts, LeadsInto, Chooses, Stops, StopsOr, choice, Opens, LeadsBack}
use Rattle.rp_program.proofs.Chains.{one_part}
use Rattle.rp_program.proofs.Expansions.{passed, empty_words, empty_turns, concatenation_leaves, alternation_leaves, exclusion_leaves, quantified_words, quantified_turns, required_leaves, none_left_leaves, greedy_leaves, lazy_leaves}
use Rattle.rp_program.proofs.Forms.{leaves_later, leaves_one, leaves_two, leaves_either}
use Rattle.rp_program.proofs.Parts.{replaces_self, replaces_then, replaces_same, replaces_as, later_replaced, first_replaced, either_replaced, fork_here, fork_past, fork_from, same_fork}
use Rattle.rp_program.proofs.Growth.{grows_then, grows_length, grown_at, grown_option, option_more, makes_weaker, makes_behind, makes_nothing, leads_then, pushed_length}
use Rattle.rp_program.proofs.Loops.{greedy_fork, lazy_fork}
use Rattle.rp_program.proofs.Making.{puts_weaker, puts_behind, puts_nothing, choice_replaced}

-- a part that replaces another leads into what the other leads into
pub leads_weaker : (p q : ℕ → End → WordsAndTurns) (next : Next) (old new : List Place) (r : Next) → ((n : ℕ) (e : End) (i : ℕ) (later : WordsAndTurns) → Replaces i (joined (p n e) later) (joined (q n e) later)) →
    LeadsInto q next old new r → LeadsInto p next old new r
leads_weaker p q next old new r h k = makes_weaker _ _ _ _ old new r
    (λ n e i. h n e i (forked i (at_option (parts n e old) next.unmoved) (at (parts n e old) next.moved)))
    (λ n e i. h n e i (at (parts n e old) next.moved)) k

-- a part that takes a turn and maps no row
pub leads_nothing : (p : ℕ → End → WordsAndTurns) (next : Next) (old : List Place) → IsWithin (length old) next → ((n : ℕ) (e : End) (i : ℕ) (later : WordsAndTurns) → Replaces i (joined (p n e) later) later) → LeadsInto p next old old next
leads_nothing p next old w h = makes_nothing _ _ old next w
    (λ n e i. let f = forked i (at_option (parts n e old) next.unmoved) (at (parts n e old) next.moved) in
    replaces_then i (joined (p n e) f) f (at_option (parts n e old) next.unmoved) (h n e i f) (fork_here i (at_option (parts n e old) next.unmoved) (at (parts n e old) next.moved)))
    (λ n e i. h n e i (at (parts n e old) next.moved))

-- ---- the forms

pub leads_empty : (x : Bool) (next : Next) (old : List Place) → IsWithin (length old) next → LeadsInto (λ n e. form_part n e V.Empty x) next old old next
leads_empty x next old w = leads_nothing (λ n e. form_part n e V.Empty x) next old w
    (λ n e i later. leaves_later i later (form_part n e V.Empty x) (passed (form_part n e V.Empty x) (later ∷ []) i (empty_words n e x i) (empty_turns n e x i)))

pub leads_concatenation : (x : Bool) (p q : Rc Form Global) (next between r : Next) (old mid new : List Place) → LeadsInto (λ n e. form_part n e q.value x) next old mid between →
    LeadsInto (λ n e. form_part n e p.value x) between mid new r → LeadsInto (λ n e. form_part n e (V.Concatenation p q) x) next old new r
leads_concatenation x p q next between r old mid new h k = makes_weaker _ _ _ _ old new r
    (λ n e i. let f = forked i (at_option (parts n e old) next.unmoved) (at (parts n e old) next.moved) in
    leaves_two i f (form_part n e (V.Concatenation p q) x) (form_part n e p.value x) (form_part n e q.value x) (concatenation_leaves n e x (f ∷ []) i p q))
    (λ n e i. let u = at (parts n e old) next.moved in
    leaves_two i u (form_part n e (V.Concatenation p q) x) (form_part n e p.value x) (form_part n e q.value x) (concatenation_leaves n e x (u ∷ []) i p q))
    (leads_then (λ n e. form_part n e p.value x) (λ n e. form_part n e q.value x) old mid new next between r h k)

pub leads_exclusion : (x : Bool) (p : Rc Form Global) (next r : Next) (old new : List Place) → LeadsInto (λ n e. form_part n e p.value true) next old new r → LeadsInto (λ n e. form_part n e (V.Exclusion p) x) next old new r
leads_exclusion x p next r old new h = leads_weaker (λ n e. form_part n e (V.Exclusion p) x) (λ n e. form_part n e p.value true) next old new r
    (λ n e i later. leaves_one i later (form_part n e (V.Exclusion p) x) (form_part n e p.value true) (exclusion_leaves n e x (later ∷ []) i p)) h

pub leads_quantified : (x : Bool) (p : Rc Form Global) (lower : ℕ) (upper : Option ℕ) (reluctant : Bool) (next r : Next) (old new : List Place) →
    LeadsInto (λ n e. iterations lower (further n lower upper) reluctant (form_part n e p.value x)) next old new r → LeadsInto (λ n e. form_part n e (V.Quantified p lower upper reluctant) x) next old new r
leads_quantified x p lower upper reluctant next r old new h =
    leads_weaker (λ n e. form_part n e (V.Quantified p lower upper reluctant) x) (λ n e. iterations lower (further n lower upper) reluctant (form_part n e p.value x)) next old new r
    (λ n e i later. first_replaced (form_part n e (V.Quantified p lower upper reluctant) x) (iterations lower (further n lower upper) reluctant (form_part n e p.value x)) later i
    (replaces_same i (form_part n e (V.Quantified p lower upper reluctant) x) (iterations lower (further n lower upper) reluctant (form_part n e p.value x))
    (quantified_words n e x p lower upper reluctant i) (quantified_turns n e x p lower upper reluctant i))) h

-- ---- either of two parts

module _ (p q whole : ℕ → End → WordsAndTurns) (splits : (n : ℕ) (e : End) (i : ℕ) (later : WordsAndTurns) → Replaces i (joined (whole n e) later) (either (joined (p n e) later) (joined (q n e) later))) where
  -- the second place was made before the first, or after it: what each leads into is meant where both are there
  pub leads_either : (next a b r : Next) (old mid new : List Place) → Grows old mid → IsWithin (length mid) a → IsWithin (length mid) b →
      ((n : ℕ) (e : End) (i : ℕ) → Replaces i (joined (p n e) (forked i (at_option (parts n e old) next.unmoved) (at (parts n e old) next.moved))) (at_option (parts n e mid) a.unmoved)) →
      ((n : ℕ) (e : End) (i : ℕ) → Replaces i (joined (p n e) (at (parts n e old) next.moved)) (at (parts n e mid) a.moved)) →
      ((n : ℕ) (e : End) (i : ℕ) → Replaces i (joined (q n e) (forked i (at_option (parts n e old) next.unmoved) (at (parts n e old) next.moved))) (at_option (parts n e mid) b.unmoved)) →
      ((n : ℕ) (e : End) (i : ℕ) → Replaces i (joined (q n e) (at (parts n e old) next.moved)) (at (parts n e mid) b.moved)) →
      Chooses a b mid new r → LeadsInto whole next old new r
  leads_either next a b r old mid new grows wa wb au am bu bm h = makes_behind _ _ old mid new r grows
      (makes_weaker _ _ _ _ mid new r
      (λ n e i. let f = forked i (at_option (parts n e old) next.unmoved) (at (parts n e old) next.moved) in
      replaces_then i (joined (whole n e) f) (either (joined (p n e) f) (joined (q n e) f)) (either (at_option (parts n e mid) a.unmoved) (at_option (parts n e mid) b.unmoved)) (splits n e i f)
      (either_replaced (joined (p n e) f) (joined (q n e) f) (at_option (parts n e mid) a.unmoved) (at_option (parts n e mid) b.unmoved) i (au n e i) (bu n e i)))
      (λ n e i. let u = at (parts n e old) next.moved in
      replaces_then i (joined (whole n e) u) (either (joined (p n e) u) (joined (q n e) u)) (either (at (parts n e mid) a.moved) (at (parts n e mid) b.moved)) (splits n e i u)
      (either_replaced (joined (p n e) u) (joined (q n e) u) (at (parts n e mid) a.moved) (at (parts n e mid) b.moved) i (am n e i) (bm n e i)))
      h)

-- what was made stays when more is made
pub leads_unmoved : (p : ℕ → End → WordsAndTurns) (next r : Next) (old mid new : List Place) → LeadsInto p next old mid r → Grows mid new → (n : ℕ) (e : End) (i : ℕ) →
    Replaces i (joined (p n e) (forked i (at_option (parts n e old) next.unmoved) (at (parts n e old) next.moved))) (at_option (parts n e new) r.unmoved)
leads_unmoved p next r old mid new h grows n e i = replaces_as i _ (at_option (parts n e mid) r.unmoved) (at_option (parts n e new) r.unmoved) (sym (grown_option mid new grows n e r.unmoved h.within.unmoved)) (h.unmoved n e i)

pub leads_moved : (p : ℕ → End → WordsAndTurns) (next r : Next) (old mid new : List Place) → LeadsInto p next old mid r → Grows mid new → (n : ℕ) (e : End) (i : ℕ) →
    Replaces i (joined (p n e) (at (parts n e old) next.moved)) (at (parts n e new) r.moved)
leads_moved p next r old mid new h grows n e i = replaces_as i _ (at (parts n e mid) r.moved) (at (parts n e new) r.moved) (sym (grown_at mid new grows n e r.moved h.within.moved)) (h.moved n e i)

-- what is made before the same that comes next, when more has been made
module _ (p : ℕ → End → WordsAndTurns) (next r : Next) (old mid new : List Place) (w : IsWithin (length old) next) (grows : Grows old mid) (h : LeadsInto p next mid new r) where
  pub before_unmoved : (n : ℕ) (e : End) (i : ℕ) → Replaces i (joined (p n e) (forked i (at_option (parts n e old) next.unmoved) (at (parts n e old) next.moved))) (at_option (parts n e new) r.unmoved)
  before_unmoved n e i =
      subst (λ g. Replaces i (joined (p n e) (forked i g (at (parts n e old) next.moved))) (at_option (parts n e new) r.unmoved)) (grown_option old mid grows n e next.unmoved w.unmoved)
      (subst (λ u. Replaces i (joined (p n e) (forked i (at_option (parts n e mid) next.unmoved) u)) (at_option (parts n e new) r.unmoved)) (grown_at old mid grows n e next.moved w.moved) (h.unmoved n e i))

  pub before_moved : (n : ℕ) (e : End) (i : ℕ) → Replaces i (joined (p n e) (at (parts n e old) next.moved)) (at (parts n e new) r.moved)
  before_moved n e i = subst (λ u. Replaces i (joined (p n e) u) (at (parts n e new) r.moved)) (grown_at old mid grows n e next.moved w.moved) (h.moved n e i)

pub within_grown : (old new : List Place) (r : Next) → Grows old new → IsWithin (length old) r → IsWithin (length new) r
within_grown old new r grows w =
    let long = grows_length old new grows in
    record { unmoved = option_more (length old) (length new) r.unmoved long w.unmoved; moved = omega (arith, long, w.moved) }

pub leads_alternation : (x : Bool) (p q : Rc Form Global) (next a b r : Next) (old m1 m2 new : List Place) → IsWithin (length old) next → LeadsInto (λ n e. form_part n e p.value x) next old m1 a →
    LeadsInto (λ n e. form_part n e q.value x) next m1 m2 b → Chooses a b m2 new r → LeadsInto (λ n e. form_part n e (V.Alternation p q) x) next old new r
leads_alternation x p q next a b r old m1 m2 new w h k choose =
    let fp : ℕ → End → WordsAndTurns = λ n e. form_part n e p.value x in
    let fq : ℕ → End → WordsAndTurns = λ n e. form_part n e q.value x in
    leads_either fp fq (λ n e. form_part n e (V.Alternation p q) x)
    (λ n e i later. leaves_either i later (form_part n e (V.Alternation p q) x) (fp n e) (fq n e) (alternation_leaves n e x (later ∷ []) i p q))
    next a b r old m2 new (grows_then old m1 m2 h.grows k.grows) (within_grown m1 m2 a k.grows h.within) k.within
    (leads_unmoved fp next a old m1 m2 h k.grows) (leads_moved fp next a old m1 m2 h k.grows) (before_unmoved fq next b old m1 m2 w h.grows k) (before_moved fq next b old m1 m2 w h.grows k) choose

-- ---- required iterations

pub leads_required : (p : ℕ → End → WordsAndTurns) (k : ℕ) (h : ℕ → ℕ) (reluctant : Bool) (next between r : Next) (old mid new : List Place) →
    LeadsInto (λ n e. iterations k (h n) reluctant (p n e)) next old mid between → LeadsInto p between mid new r → LeadsInto (λ n e. iterations (suc k) (h n) reluctant (p n e)) next old new r
leads_required p k h reluctant next between r old mid new a b = makes_weaker _ _ _ _ old new r
    (λ n e i. let f = forked i (at_option (parts n e old) next.unmoved) (at (parts n e old) next.moved) in
    leaves_two i f (iterations (suc k) (h n) reluctant (p n e)) (p n e) (iterations k (h n) reluctant (p n e)) (required_leaves k (h n) reluctant (p n e) (f ∷ []) i))
    (λ n e i. let u = at (parts n e old) next.moved in
    leaves_two i u (iterations (suc k) (h n) reluctant (p n e)) (p n e) (iterations k (h n) reluctant (p n e)) (required_leaves k (h n) reluctant (p n e) (u ∷ []) i))
    (leads_then p (λ n e. iterations k (h n) reluctant (p n e)) old mid new next between r a b)

-- ---- so many iterations

pub leads_none : (p : ℕ → End → WordsAndTurns) (count : ℕ) (reluctant : Bool) (next : Next) (old : List Place) → count ≡ 0 → IsWithin (length old) next → LeadsInto (λ n e. iterations 0 count reluctant (p n e)) next old old next
leads_none p count reluctant next old is w =
    subst (λ k. LeadsInto (λ n e. iterations 0 k reluctant (p n e)) next old old next) (sym is)
    (leads_nothing (λ n e. iterations 0 0 reluctant (p n e)) next old w (λ n e i later. leaves_later i later (iterations 0 0 reluctant (p n e)) (none_left_leaves reluctant (p n e) (later ∷ []) i)))

module _ (p : WordsAndTurns) (h : ℕ) (r : Bool) (g u : WordsAndTurns) (i : ℕ) where
  abbrev fewer : WordsAndTurns
  fewer = joined (iterations 0 h r p) u

  pub count_fork : Replaces i (joined (iterations 0 (suc h) r p) (forked i g u)) (choice r (joined p (forked i no_way (joined (iterations 0 h r p) u))) g)
  count_fork = go r
    where
      go : (r : Bool) → Replaces i (joined (iterations 0 (suc h) r p) (forked i g u)) (choice r (joined p (forked i no_way (joined (iterations 0 h r p) u))) g)
      go false = greedy_fork p (iterations 0 h false p) g u i (iterations 0 (suc h) false p) (greedy_leaves h p (forked i g u ∷ []) i)
      go true = lazy_fork p (iterations 0 h true p) g u i (iterations 0 (suc h) true p) (lazy_leaves h p (forked i g u ∷ []) i)

pub count_same : (p : WordsAndTurns) (h : ℕ) (r : Bool) (u : WordsAndTurns) (i : ℕ) → Replaces i (joined (iterations 0 (suc h) r p) u) (choice r (joined p (forked i no_way (joined (iterations 0 h r p) u))) u)
count_same p h r u i =
    replaces_then i (joined (iterations 0 (suc h) r p) u) (joined (iterations 0 (suc h) r p) (forked i u u)) (choice r (joined p (forked i no_way (joined (iterations 0 h r p) u))) u)
    (later_replaced (iterations 0 (suc h) r p) u (forked i u u) i (λ j le. same_fork i j u)) (count_fork p h r u u i)

-- an iteration before fewer others, which a place replaces
another_replaced : (p q fewer a : WordsAndTurns) (i : ℕ) → ((j : ℕ) → Replaces j fewer q) → Replaces i (joined p (forked i no_way q)) a → Replaces i (joined p (forked i no_way fewer)) a
another_replaced p q fewer a i h k =
    replaces_then i (joined p (forked i no_way fewer)) (joined p (forked i no_way q)) a
    (later_replaced p (forked i no_way fewer) (forked i no_way q) i
    (fork_from i no_way q (forked i no_way fewer) (fork_here i no_way fewer) (λ j lt. replaces_then j (forked i no_way fewer) fewer q (fork_past i no_way fewer j lt) (h j)))) k

module _ (p : ℕ → End → WordsAndTurns) (h : ℕ) (r : Bool) (stop place : ℕ) (inner : Next) (old m0 m1 : List Place) (w : stop < length old)
    (less : Puts (λ n e i. joined (iterations 0 h r (p n e)) (at (parts n e old) stop)) old m0 (Some place))
    (another : LeadsInto p (record { unmoved = None; moved = place }) m0 m1 inner) where
  count_grows : Grows old m1
  count_grows = grows_then old m0 m1 less.grows another.grows

  another_at : (n : ℕ) (e : End) (i : ℕ) → Replaces i (joined (p n e) (forked i no_way (joined (iterations 0 h r (p n e)) (at (parts n e old) stop)))) (at_option (parts n e m1) inner.unmoved)
  another_at n e i =
      another_replaced (p n e) (at (parts n e m0) place) (joined (iterations 0 h r (p n e)) (at (parts n e old) stop)) (at_option (parts n e m1) inner.unmoved) i (λ j. less.stands n e j) (another.unmoved n e i)

  stop_at : (n : ℕ) (e : End) (i : ℕ) → Replaces i (at (parts n e old) stop) (at (parts n e m1) stop)
  stop_at n e i = replaces_as i (at (parts n e old) stop) (at (parts n e old) stop) (at (parts n e m1) stop) (sym (grown_at old m1 count_grows n e stop w)) (replaces_self i (at (parts n e old) stop))

  pub count_puts : (new : List Place) (place' : ℕ) → StopsOr r inner.unmoved (Some stop) m1 new (Some place') → Puts (λ n e i. joined (iterations 0 (suc h) r (p n e)) (at (parts n e old) stop)) old new (Some place')
  count_puts new place' k = puts_behind _ old m1 new (Some place') count_grows
      (puts_weaker _ _ m1 new (Some place')
      (λ n e i. let u = at (parts n e old) stop in
      replaces_then i (joined (iterations 0 (suc h) r (p n e)) u) (choice r (joined (p n e) (forked i no_way (joined (iterations 0 h r (p n e)) u))) u) (choice r (at_option (parts n e m1) inner.unmoved) (at (parts n e m1) stop))
      (count_same (p n e) h r u i) (choice_replaced r (joined (p n e) (forked i no_way (joined (iterations 0 h r (p n e)) u))) u (at_option (parts n e m1) inner.unmoved) (at (parts n e m1) stop) i (another_at n e i) (stop_at n e i)))
      k)

  pub count_leads : (next q : Next) (new : List Place) → next.moved ≡ stop → IsOption (length old) next.unmoved → Stops r inner.unmoved next m1 new q → LeadsInto (λ n e. iterations 0 (suc h) r (p n e)) next old new q
  count_leads next q new is wu k =
      let here : (n : ℕ) (e : End) → at (parts n e old) stop ≡ at (parts n e old) next.moved = λ n e. ap (at (parts n e old)) (sym is) in
      let later : (n : ℕ) (e : End) → at (parts n e m1) stop ≡ at (parts n e m1) next.moved = λ n e. ap (at (parts n e m1)) (sym is) in
      makes_behind _ _ old m1 new q count_grows
      (makes_weaker _ _ _ _ m1 new q
      (λ n e i. let g = at_option (parts n e old) next.unmoved in
      subst (λ u. Replaces i (joined (iterations 0 (suc h) r (p n e)) (forked i g u)) (choice r (at_option (parts n e m1) inner.unmoved) (at_option (parts n e m1) next.unmoved))) (here n e)
      (let u = at (parts n e old) stop in
      replaces_then i (joined (iterations 0 (suc h) r (p n e)) (forked i g u)) (choice r (joined (p n e) (forked i no_way (joined (iterations 0 h r (p n e)) u))) g) (choice r (at_option (parts n e m1) inner.unmoved) (at_option (parts n e m1) next.unmoved))
      (count_fork (p n e) h r g u i)
      (choice_replaced r (joined (p n e) (forked i no_way (joined (iterations 0 h r (p n e)) u))) g (at_option (parts n e m1) inner.unmoved) (at_option (parts n e m1) next.unmoved) i (another_at n e i)
      (replaces_as i g g (at_option (parts n e m1) next.unmoved) (sym (grown_option old m1 count_grows n e next.unmoved wu)) (replaces_self i g)))))
      (λ n e i. subst (λ u. Replaces i (joined (iterations 0 (suc h) r (p n e)) u) (choice r (at_option (parts n e m1) inner.unmoved) (at (parts n e m1) next.moved))) (here n e)
      (subst (λ z. Replaces i (joined (iterations 0 (suc h) r (p n e)) (at (parts n e old) stop)) (choice r (at_option (parts n e m1) inner.unmoved) z)) (later n e)
      (let u = at (parts n e old) stop in
      replaces_then i (joined (iterations 0 (suc h) r (p n e)) u) (choice r (joined (p n e) (forked i no_way (joined (iterations 0 h r (p n e)) u))) u) (choice r (at_option (parts n e m1) inner.unmoved) (at (parts n e m1) stop))
      (count_same (p n e) h r u i) (choice_replaced r (joined (p n e) (forked i no_way (joined (iterations 0 h r (p n e)) u))) u (at_option (parts n e m1) inner.unmoved) (at (parts n e m1) stop) i (another_at n e i) (stop_at n e i)))))
      k)

-- no iteration is left
pub count_none : (p : ℕ → End → WordsAndTurns) (r : Bool) (stop : ℕ) (old : List Place) → stop < length old → Puts (λ n e i. joined (iterations 0 0 r (p n e)) (at (parts n e old) stop)) old old (Some stop)
count_none p r stop old w = puts_nothing _ old (Some stop) w (λ n e i. leaves_later i (at (parts n e old) stop) (iterations 0 0 r (p n e)) (none_left_leaves r (p n e) (at (parts n e old) stop ∷ []) i))

-- ---- any number of iterations

-- the iteration of an opened loop leads back to it
pub leads_back : (body : Form) (x r : Bool) (next : Next) (loop : ℕ) (inner : Next) (old opened new : List Place) → IsWithin (length old) next → Opens body x r next.moved old opened loop →
    LeadsInto (λ n e. form_part n e body x) (record { unmoved = None; moved = loop }) opened new inner → LeadsBack body x r next loop inner.unmoved old new
leads_back body x r next loop inner old opened new w opens h =
    let there : loop < length opened = omega (arith, opens.pushes.number, opened_long) in
    record {
      open_loop = opens.open_loop;
      number = opens.pushes.number;
      loops = opens.loops;
      grows = subst (λ z. Grows z new) opens.pushes.is h.grows;
      next_within = w;
      another_within = h.within.unmoved;
      leads = λ n e i. subst (λ z. Replaces i (joined (form_part n e body x) (forked i no_way z)) (at_option (parts n e new) inner.unmoved)) (sym (grown_at opened new h.grows n e loop there)) (h.unmoved n e i);
    }
  where
    opened_long : length opened ≡ suc (length old)
    opened_long = pushed_length old opened opens.open_loop opens.pushes.is

-- ---- one part more in an order

pub joined_assoc : (p q later : WordsAndTurns) (i : ℕ) → Replaces i (joined (joined p q) later) (joined p (joined q later))
joined_assoc p q later i = subst (λ z. Replaces i (joined (joined p q) z) (joined p (joined q z))) (one_part later)
    (record {
      words = sym (concatenation_assoc p.0 q.0 (chained (later ∷ [])).0 i);
      turns = omega (arith, concatenation_taken p q (later ∷ []) i);
    })

pub leads_more : (p q whole : ℕ → End → WordsAndTurns) (next between r : Next) (old mid new : List Place) → ((n : ℕ) (e : End) → joined (p n e) (q n e) ≡ whole n e) →
    LeadsInto q next old mid between → LeadsInto p between mid new r → LeadsInto whole next old new r
leads_more p q whole next between r old mid new is a b = makes_weaker _ _ _ _ old new r
    (λ n e i. let f = forked i (at_option (parts n e old) next.unmoved) (at (parts n e old) next.moved) in subst (λ z. Replaces i (joined z f) (joined (p n e) (joined (q n e) f))) (is n e) (joined_assoc (p n e) (q n e) f i))
    (λ n e i. let u = at (parts n e old) next.moved in subst (λ z. Replaces i (joined z u) (joined (p n e) (joined (q n e) u))) (is n e) (joined_assoc (p n e) (q n e) u i))
    (leads_then p q old mid new next between r a b)

-- ---- before a form was looked at

pub seen : (f g : Form) (x : Bool) (next r : Next) (start old new : List Place) → f ≡ g → start ≡ old → LeadsInto (λ n e. form_part n e g x) next start new r → LeadsInto (λ n e. form_part n e f x) next old new r
seen f g x next r start old new is same h =
    subst (λ z. LeadsInto (λ n e. form_part n e z x) next old new r) (sym is) (subst (λ z. LeadsInto (λ n e. form_part n e g x) next z new r) same h)
