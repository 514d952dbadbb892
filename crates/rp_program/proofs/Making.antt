-- What a function of a draft has made, by the places that it has pushed.
use Rattle.std.proofs.Common.{◌≡◌, ℕ, ◌<◌, List, length, Bool, true, false, Option, Some, None, Result, Ok, Err, IfOk, refl, sym, ap, ◌∙◌, arith, subst}
use Rattle.rp_words.specs.declared.form.Form.TheVariants as form
use Rattle.rp_words.specs.declared.word.End.{End}
use Rattle.rp_words.specs.Turns.{WordsAndTurns}
use Rattle.rp_program.specs.declared.place.Place.{Place}
use Rattle.rp_program.specs.declared.place.Place.TheVariants.{Row, Split, PartitionStart, PartitionEnd}
use Rattle.rp_program.specs.declared.place.Next.{Next}
use Rattle.rp_program.specs.Parts.{form_part, joined, either, forked, no_way, Replaces}
use Rattle.rp_program.specs.Places.{at, at_option, made, parts}
use Rattle.rp_program.specs.Drafts.{IsOption, IsWithin, Names, Grows, Pushes, Puts, Makes, LeadsInto, Chooses, ChoosesPlace, StartsPlace, StopsOr, Stops, choice}
use Rattle.rp_program.proofs.Parts.{replaces_self, replaces_then, replaces_as, either_replaced, fork_here, no_first, no_second}
use Rattle.rp_program.proofs.Growth.{grows_self, grows_then, grows_length, grown_at, grown_option, option_more, IsPlain, pushed_at, pushed_length, pushed_grows}
use Rattle.rp_program.proofs.Rows.{variable_joined, start_joined, end_joined}

pub IfOk-map : {T E : Type 0} (P Q : T → Type 0) → ((v : T) → P v → Q v) → (r : Result T E) → IfOk r P → IfOk r Q
IfOk-map P Q f (Ok v) h = f v h
IfOk-map P Q f (Err e) h = h

abbrev pub PartsAtRows : Type 0
PartsAtRows = ℕ → End → ℕ → WordsAndTurns

-- ---- one place

pub puts_weaker : (part part' : PartsAtRows) (old new : List Place) (r : Option ℕ) → ((n : ℕ) (e : End) (i : ℕ) → Replaces i (part' n e i) (part n e i)) → Puts part old new r → Puts part' old new r
puts_weaker part part' old new r h k = record {
  grows = k.grows;
  within = k.within;
  stands = λ n e i. replaces_then i (part' n e i) (part n e i) (at_option (parts n e new) r) (h n e i) (k.stands n e i);
}

pub puts_behind : (part : PartsAtRows) (old mid new : List Place) (r : Option ℕ) → Grows old mid → Puts part mid new r → Puts part old new r
puts_behind part old mid new r h k = record { grows = grows_then old mid new h k.grows; within = k.within; stands = k.stands }

pub puts_nothing : (part : PartsAtRows) (old : List Place) (r : Option ℕ) → IsOption (length old) r → ((n : ℕ) (e : End) (i : ℕ) → Replaces i (part n e i) (at_option (parts n e old) r)) → Puts part old old r
puts_nothing part old r w h = record { grows = grows_self old; within = w; stands = h }

pub pushed_puts : (part : PartsAtRows) (old new : List Place) (x : Place) (number : ℕ) → Pushes x old new number → IsPlain x → Names (length old) (length old) x →
    ((n : ℕ) (e : End) (i : ℕ) → Replaces i (part n e i) (made n e (parts n e old) x)) → Puts part old new (Some number)
pushed_puts part old new x number h plain w k = record {
  grows = pushed_grows old new x h.is plain w;
  within = omega (arith, h.number, pushed_length old new x h.is);
  stands = λ n e i.
      let here : at (parts n e new) number ≡ made n e (parts n e old) x = ap (at (parts n e new)) h.number ∙ pushed_at old new x h.is n e ∙ plain n e (parts n e old) in
      replaces_as i (part n e i) (made n e (parts n e old) x) (at (parts n e new) number) (sym here) (k n e i);
}

-- ---- two places

module _ (here past : PartsAtRows) (old : List Place) where
  pub puts_same : (part : PartsAtRows) (new : List Place) (q : ℕ) (r : Next) → r ≡ record { unmoved = Some q; moved = q } → Puts part old new (Some q) →
      ((n : ℕ) (e : End) (i : ℕ) → Replaces i (here n e i) (part n e i)) → ((n : ℕ) (e : End) (i : ℕ) → Replaces i (past n e i) (part n e i)) → Makes here past old new r
  puts_same part new q r is k h p = subst (Makes here past old new) (sym is) (record {
    grows = k.grows;
    within = record { unmoved = k.within; moved = k.within };
    unmoved = λ n e i. replaces_then i (here n e i) (part n e i) (at (parts n e new) q) (h n e i) (k.stands n e i);
    moved = λ n e i. replaces_then i (past n e i) (part n e i) (at (parts n e new) q) (p n e i) (k.stands n e i);
  })

  pub puts_pair : (mid new : List Place) (g : Option ℕ) (u : ℕ) → Puts here old mid g → Puts past mid new (Some u) → Makes here past old new (record { unmoved = g; moved = u })
  puts_pair mid new g u h k = record {
    grows = grows_then old mid new h.grows k.grows;
    within = record { unmoved = option_more (length mid) (length new) g (grows_length mid new k.grows) h.within; moved = k.within };
    unmoved = λ n e i. replaces_as i (here n e i) (at_option (parts n e mid) g) (at_option (parts n e new) g) (sym (grown_option mid new k.grows n e g h.within)) (h.stands n e i);
    moved = k.stands;
  }

  -- the same, where the one past a row was put first
  pub puts_turned : (mid new : List Place) (g : Option ℕ) (u : ℕ) → Puts past old mid (Some u) → Puts here mid new g → Makes here past old new (record { unmoved = g; moved = u })
  puts_turned mid new g u h k = record {
    grows = grows_then old mid new h.grows k.grows;
    within = record { unmoved = k.within; moved = option_more (length mid) (length new) (Some u) (grows_length mid new k.grows) h.within };
    unmoved = k.stands;
    moved = λ n e i. replaces_as i (past n e i) (at (parts n e mid) u) (at (parts n e new) u) (sym (grown_at mid new k.grows n e u h.within)) (h.stands n e i);
  }

-- ---- either of two

pub choose_puts : (old new : List Place) (preferred other number : ℕ) → preferred < length old → other < length old → Pushes (Split preferred other) old new number → ChoosesPlace (Some preferred) (Some other) old new (Some number)
choose_puts old new preferred other number a b h =
    pushed_puts (λ n e i. either (at (parts n e old) preferred) (at (parts n e old) other)) old new (Split preferred other) number h (λ n e ps. refl) (a, b)
    (λ n e i. replaces_self i (either (at (parts n e old) preferred) (at (parts n e old) other)))

pub choose_some : (old new : List Place) (p o : Option ℕ) (preferred other number : ℕ) → p ≡ Some preferred → o ≡ Some other → IsOption (length old) p → IsOption (length old) o → Pushes (Split preferred other) old new number →
    ChoosesPlace p o old new (Some number)
choose_some old new p o preferred other number a b wa wb h =
    subst (λ z. ChoosesPlace z o old new (Some number)) (sym a)
    (subst (λ z. ChoosesPlace (Some preferred) z old new (Some number)) (sym b)
    (choose_puts old new preferred other number (subst (IsOption (length old)) a wa) (subst (IsOption (length old)) b wb) h))

module _ (old mid new : List Place) (grows : Grows old mid) where
  either_grown : (n : ℕ) (e : End) (preferred other : Option ℕ) → IsOption (length old) preferred → IsOption (length old) other →
      either (at_option (parts n e mid) preferred) (at_option (parts n e mid) other) ≡ either (at_option (parts n e old) preferred) (at_option (parts n e old) other)
  either_grown n e preferred other a b =
      ap (λ z. either z (at_option (parts n e mid) other)) (grown_option old mid grows n e preferred a) ∙ ap (either (at_option (parts n e old) preferred)) (grown_option old mid grows n e other b)

  -- places that were there before may be chosen later
  pub chooses_grown : (preferred other r : Option ℕ) → IsOption (length old) preferred → IsOption (length old) other → ChoosesPlace preferred other mid new r →
      Puts (λ n e i. either (at_option (parts n e old) preferred) (at_option (parts n e old) other)) mid new r
  chooses_grown preferred other r a b h =
      puts_weaker (λ n e i. either (at_option (parts n e mid) preferred) (at_option (parts n e mid) other)) (λ n e i. either (at_option (parts n e old) preferred) (at_option (parts n e old) other)) mid new r
      (λ n e i. replaces_as i _ (either (at_option (parts n e old) preferred) (at_option (parts n e old) other)) (either (at_option (parts n e mid) preferred) (at_option (parts n e mid) other))
      (sym (either_grown n e preferred other a b)) (replaces_self i (either (at_option (parts n e old) preferred) (at_option (parts n e old) other)))) h

pub chooses_same : (old new : List Place) (preferred other r : Next) (number : ℕ) → preferred.unmoved ≡ Some preferred.moved → other.unmoved ≡ Some other.moved → IsWithin (length old) preferred → IsWithin (length old) other →
    Pushes (Split preferred.moved other.moved) old new number → r ≡ record { unmoved = Some number; moved = number } → Chooses preferred other old new r
chooses_same old new preferred other r number a b wa wb h is =
    puts_same _ _ old (λ n e i. either (at (parts n e old) preferred.moved) (at (parts n e old) other.moved)) new number r is (choose_puts old new preferred.moved other.moved number wa.moved wb.moved h)
    (λ n e i. replaces_as i _ (either (at_option (parts n e old) preferred.unmoved) (at_option (parts n e old) other.unmoved)) (either (at (parts n e old) preferred.moved) (at (parts n e old) other.moved))
    (ap (λ z. either (at_option (parts n e old) z) (at_option (parts n e old) other.unmoved)) a ∙ ap (λ z. either (at (parts n e old) preferred.moved) (at_option (parts n e old) z)) b)
    (replaces_self i (either (at_option (parts n e old) preferred.unmoved) (at_option (parts n e old) other.unmoved))))
    (λ n e i. replaces_self i (either (at (parts n e old) preferred.moved) (at (parts n e old) other.moved)))

pub chooses_pair : (old mid new : List Place) (preferred other : Next) (g : Option ℕ) (u : ℕ) → IsWithin (length old) preferred → IsWithin (length old) other →
    ChoosesPlace preferred.unmoved other.unmoved old mid g → Pushes (Split preferred.moved other.moved) mid new u → Chooses preferred other old new (record { unmoved = g; moved = u })
chooses_pair old mid new preferred other g u wa wb h k =
    let long = grows_length old mid h.grows in
    puts_pair _ _ old mid new g u h
    (chooses_grown old mid new h.grows (Some preferred.moved) (Some other.moved) (Some u) wa.moved wb.moved
    (choose_puts mid new preferred.moved other.moved u (omega (arith, long, wa.moved)) (omega (arith, long, wb.moved)) k))

-- ---- a row, `^` and `$`

pub row_leads : (old new : List Place) (var : ℕ) (x : Bool) (next r : Next) (number : ℕ) → IsWithin (length old) next → Pushes (Row var x next.moved) old new number → r ≡ record { unmoved = Some number; moved = number } →
    LeadsInto (λ n e. form_part n e (form.Variable var) x) next old new r
row_leads old new var x next r number w h is =
    puts_same _ _ old (λ n e i. joined (form_part n e (form.Variable var) x) (at (parts n e old) next.moved)) new number r is
    (pushed_puts _ old new (Row var x next.moved) number h (λ n e ps. refl) w.moved (λ n e i. replaces_self i (joined (form_part n e (form.Variable var) x) (at (parts n e old) next.moved))))
    (λ n e i. variable_joined n e x i var (at_option (parts n e old) next.unmoved) (at (parts n e old) next.moved))
    (λ n e i. replaces_self i (joined (form_part n e (form.Variable var) x) (at (parts n e old) next.moved)))

pub start_puts : (old new : List Place) (next number : ℕ) → next < length old → Pushes (PartitionStart next) old new number → StartsPlace (Some next) old new (Some number)
start_puts old new next number w h =
    pushed_puts _ old new (PartitionStart next) number h (λ n e ps. refl) w (λ n e i. replaces_self i (joined (form_part n e form.PartitionStart false) (at (parts n e old) next)))

pub start_some : (old new : List Place) (p : Option ℕ) (next number : ℕ) → p ≡ Some next → IsOption (length old) p → Pushes (PartitionStart next) old new number → StartsPlace p old new (Some number)
start_some old new p next number is w h = subst (λ z. StartsPlace z old new (Some number)) (sym is) (start_puts old new next number (subst (IsOption (length old)) is w) h)

pub end_puts : (old new : List Place) (next : Option ℕ) (number : ℕ) → IsOption (length old) next → Pushes (PartitionEnd next) old new number →
    Puts (λ n e i. joined (form_part n e form.PartitionEnd false) (at_option (parts n e old) next)) old new (Some number)
end_puts old new next number w h =
    pushed_puts _ old new (PartitionEnd next) number h (λ n e ps. refl) w (λ n e i. replaces_self i (joined (form_part n e form.PartitionEnd false) (at_option (parts n e old) next)))

module _ (old : List Place) (next : Next) (n : ℕ) (e : End) (i : ℕ) where
  abbrev g : WordsAndTurns
  g = at_option (parts n e old) next.unmoved

  abbrev u : WordsAndTurns
  u = at (parts n e old) next.moved

  -- where no row has been taken
  pub fork_unmoved : Replaces i (forked i g u) g
  fork_unmoved = fork_here i g u

  -- where it is the same place
  pub fork_moved : next.unmoved ≡ Some next.moved → Replaces i (forked i g u) u
  fork_moved is = replaces_as i (forked i g u) g u (ap (at_option (parts n e old)) is) fork_unmoved

pub start_same : (old new : List Place) (next r : Next) (number : ℕ) → IsWithin (length old) next → next.unmoved ≡ Some next.moved → Pushes (PartitionStart next.moved) old new number → r ≡ record { unmoved = Some number; moved = number } →
    (x : Bool) → LeadsInto (λ n e. form_part n e form.PartitionStart x) next old new r
start_same old new next r number w same h is x =
    puts_same _ _ old (λ n e i. joined (form_part n e form.PartitionStart false) (at (parts n e old) next.moved)) new number r is (start_puts old new next.moved number w.moved h)
    (λ n e i. start_joined n e x i _ (at (parts n e old) next.moved) (fork_moved old next n e i same))
    (λ n e i. start_joined n e x i (at (parts n e old) next.moved) (at (parts n e old) next.moved) (replaces_self i (at (parts n e old) next.moved)))

pub start_pair : (old mid new : List Place) (next : Next) (g : Option ℕ) (u : ℕ) → IsWithin (length old) next → StartsPlace next.unmoved old mid g → Pushes (PartitionStart next.moved) mid new u →
    (x : Bool) → LeadsInto (λ n e. form_part n e form.PartitionStart x) next old new (record { unmoved = g; moved = u })
start_pair old mid new next g u w h k x =
    puts_pair _ _ old mid new g u
    (puts_weaker _ _ old mid g (λ n e i. start_joined n e x i _ (at_option (parts n e old) next.unmoved) (fork_unmoved old next n e i)) h)
    (puts_weaker _ _ mid new (Some u)
    (λ n e i. start_joined n e x i (at (parts n e old) next.moved) (at (parts n e mid) next.moved)
    (replaces_as i (at (parts n e old) next.moved) (at (parts n e old) next.moved) (at (parts n e mid) next.moved) (sym (grown_at old mid h.grows n e next.moved w.moved)) (replaces_self i (at (parts n e old) next.moved))))
    (start_puts mid new next.moved u (omega (arith, grows_length old mid h.grows, w.moved)) k))

pub end_same : (old new : List Place) (next r : Next) (number : ℕ) → IsWithin (length old) next → next.unmoved ≡ Some next.moved → Pushes (PartitionEnd next.unmoved) old new number → r ≡ record { unmoved = Some number; moved = number } →
    (x : Bool) → LeadsInto (λ n e. form_part n e form.PartitionEnd x) next old new r
end_same old new next r number w same h is x =
    puts_same _ _ old (λ n e i. joined (form_part n e form.PartitionEnd false) (at_option (parts n e old) next.unmoved)) new number r is (end_puts old new next.unmoved number w.unmoved h)
    (λ n e i. end_joined n e x i _ (at_option (parts n e old) next.unmoved) (fork_unmoved old next n e i))
    (λ n e i. end_joined n e x i (at (parts n e old) next.moved) (at_option (parts n e old) next.unmoved)
    (replaces_as i (at (parts n e old) next.moved) (at (parts n e old) next.moved) (at_option (parts n e old) next.unmoved) (sym (ap (at_option (parts n e old)) same)) (replaces_self i (at (parts n e old) next.moved))))

pub end_pair : (old mid new : List Place) (next : Next) (g u : ℕ) → IsWithin (length old) next → Pushes (PartitionEnd next.unmoved) old mid g → Pushes (PartitionEnd (Some next.moved)) mid new u →
    (x : Bool) → LeadsInto (λ n e. form_part n e form.PartitionEnd x) next old new (record { unmoved = Some g; moved = u })
end_pair old mid new next g u w h k x =
    let first = end_puts old mid next.unmoved g w.unmoved h in
    puts_pair _ _ old mid new (Some g) u
    (puts_weaker _ _ old mid (Some g) (λ n e i. end_joined n e x i _ (at_option (parts n e old) next.unmoved) (fork_unmoved old next n e i)) first)
    (puts_weaker _ _ mid new (Some u)
    (λ n e i. end_joined n e x i (at (parts n e old) next.moved) (at (parts n e mid) next.moved)
    (replaces_as i (at (parts n e old) next.moved) (at (parts n e old) next.moved) (at (parts n e mid) next.moved) (sym (grown_at old mid first.grows n e next.moved w.moved)) (replaces_self i (at (parts n e old) next.moved))))
    (end_puts mid new (Some next.moved) u (omega (arith, grows_length old mid first.grows, w.moved)) k))

-- ---- another iteration, or to stop

choice_none : (r : Bool) (p : WordsAndTurns) (i : ℕ) → Replaces i (choice r no_way p) p
choice_none false p i = no_first p i
choice_none true p i = no_second p i

pub choice_replaced : (r : Bool) (p q p' q' : WordsAndTurns) (i : ℕ) → Replaces i p p' → Replaces i q q' → Replaces i (choice r p q) (choice r p' q')
choice_replaced false p q p' q' i h k = either_replaced p q p' q' i h k
choice_replaced true p q p' q' i h k = either_replaced q p q' p' i k h

-- where no other iteration can take a row, it stops
pub choice_stops : (r : Bool) (p q : WordsAndTurns) (i : ℕ) → Replaces i p no_way → Replaces i (choice r p q) q
choice_stops r p q i h = replaces_then i (choice r p q) (choice r no_way q) q (choice_replaced r p q no_way q i h (replaces_self i q)) (choice_none r q i)

pub stops_none : (old : List Place) (r : Bool) (another : Option ℕ) (stop : ℕ) → another ≡ None → stop < length old → StopsOr r another (Some stop) old old (Some stop)
stops_none old r another stop is w =
    subst (λ z. StopsOr r z (Some stop) old old (Some stop)) (sym is) (puts_nothing _ old (Some stop) w (λ n e i. choice_none r (at (parts n e old) stop) i))

pub stops_lazy : (old new : List Place) (r : Bool) (p : Option ℕ) (another stop number : ℕ) → r ≡ true → p ≡ Some another → IsOption (length old) p → stop < length old → Pushes (Split stop another) old new number →
    StopsOr r p (Some stop) old new (Some number)
stops_lazy old new r p another stop number lazy is w ws h =
    subst (λ z. StopsOr z p (Some stop) old new (Some number)) (sym lazy)
    (subst (λ z. StopsOr true z (Some stop) old new (Some number)) (sym is) (choose_puts old new stop another number ws (subst (IsOption (length old)) is w) h))

pub stops_greedy : (old new : List Place) (r : Bool) (p : Option ℕ) (another stop number : ℕ) → r ≡ false → p ≡ Some another → IsOption (length old) p → stop < length old → Pushes (Split another stop) old new number →
    StopsOr r p (Some stop) old new (Some number)
stops_greedy old new r p another stop number greedy is w ws h =
    subst (λ z. StopsOr z p (Some stop) old new (Some number)) (sym greedy)
    (subst (λ z. StopsOr false z (Some stop) old new (Some number)) (sym is) (choose_puts old new another stop number (subst (IsOption (length old)) is w) ws h))

module _ (old mid new : List Place) (grows : Grows old mid) where
  choice_grown : (r : Bool) (n : ℕ) (e : End) (another stop : Option ℕ) → IsOption (length old) another → IsOption (length old) stop →
      choice r (at_option (parts n e mid) another) (at_option (parts n e mid) stop) ≡ choice r (at_option (parts n e old) another) (at_option (parts n e old) stop)
  choice_grown r n e another stop a b =
      ap (λ z. choice r z (at_option (parts n e mid) stop)) (grown_option old mid grows n e another a) ∙ ap (choice r (at_option (parts n e old) another)) (grown_option old mid grows n e stop b)

  -- places that were there before may be chosen later
  pub stops_grown : (r : Bool) (another stop q : Option ℕ) → IsOption (length old) another → IsOption (length old) stop → StopsOr r another stop mid new q →
      Puts (λ n e i. choice r (at_option (parts n e old) another) (at_option (parts n e old) stop)) mid new q
  stops_grown r another stop q a b h =
      puts_weaker (λ n e i. choice r (at_option (parts n e mid) another) (at_option (parts n e mid) stop)) (λ n e i. choice r (at_option (parts n e old) another) (at_option (parts n e old) stop)) mid new q
      (λ n e i. replaces_as i _ (choice r (at_option (parts n e old) another) (at_option (parts n e old) stop)) (choice r (at_option (parts n e mid) another) (at_option (parts n e mid) stop))
      (sym (choice_grown r n e another stop a b)) (replaces_self i (choice r (at_option (parts n e old) another) (at_option (parts n e old) stop)))) h

pub stops_same : (old new : List Place) (r : Bool) (another : Option ℕ) (next q : Next) (number : ℕ) → next.unmoved ≡ Some next.moved → StopsOr r another (Some next.moved) old new (Some number) → q ≡ record { unmoved = Some number; moved = number } →
    Stops r another next old new q
stops_same old new r another next q number same h is =
    puts_same _ _ old (λ n e i. choice r (at_option (parts n e old) another) (at (parts n e old) next.moved)) new number q is h
    (λ n e i. replaces_as i _ (choice r (at_option (parts n e old) another) (at_option (parts n e old) next.unmoved)) (choice r (at_option (parts n e old) another) (at (parts n e old) next.moved))
    (ap (λ z. choice r (at_option (parts n e old) another) (at_option (parts n e old) z)) same) (replaces_self i (choice r (at_option (parts n e old) another) (at_option (parts n e old) next.unmoved))))
    (λ n e i. replaces_self i (choice r (at_option (parts n e old) another) (at (parts n e old) next.moved)))

pub stops_pair : (old mid new : List Place) (r : Bool) (another : Option ℕ) (next : Next) (g : Option ℕ) (u : ℕ) → IsOption (length old) another → IsWithin (length old) next →
    StopsOr r another (Some next.moved) old mid (Some u) → StopsOr r another next.unmoved mid new g → Stops r another next old new (record { unmoved = g; moved = u })
stops_pair old mid new r another next g u a w h k = puts_turned _ _ old mid new g u h (stops_grown old mid new h.grows r another next.unmoved g a w.unmoved k)
