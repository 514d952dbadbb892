-- How programs grow, and what the new places begin with.
use Rattle.std.proofs.Common.{◌≡◌, ℕ, suc, ◌<◌, ◌≤◌, List, [], ◌∷◌, ◌++◌, length, Bool, true, false, Option, Some, None, refl, sym, ap, ◌∙◌, arith, subst, length-append, append_assoc}
use Rattle.std.specs.Prelude.{nat_lt}
use Rattle.std.proofs.Math.Seq.{get_or-append_seam}
use Rattle.std.proofs.lemmas.Bool.Decides.{nat_tests}
use Rattle.rp_words.specs.declared.word.End.{End}
use Rattle.rp_words.specs.Turns.{WordsAndTurns}
use Rattle.rp_words.proofs.Algebra.{append_nil}
use Rattle.rp_program.specs.declared.place.Place.{Place}
use Rattle.rp_program.specs.declared.place.Place.TheVariants.{Match}
use Rattle.rp_program.specs.declared.place.Next.{Next}
use Rattle.rp_program.specs.Parts.{joined, forked, Replaces}
use Rattle.rp_program.specs.Places.{at, at_option, made, stands_for, parts}
use Rattle.rp_program.specs.Drafts.{IsOption, IsWithin, Names, place_at, Holds, Grows, Makes, LeadsInto}
use Rattle.rp_program.proofs.Parts.{replaces_self, replaces_then, replaces_as, later_replaced, joined_fork}
use Rattle.rp_program.proofs.Places.{parts_stay, parts_seam, made_same, holds_more, names_more}

-- ---- growing

pub grows_self : (old : List Place) → Grows old old
grows_self old = record { more = []; is = sym (append_nil old); holds = λ q le lt. absurd (omega (arith, le, lt)) }

pub grows_length : (old new : List Place) → Grows old new → length old ≤ length new
grows_length old new h = omega (arith, ap length h.is, length-append old h.more)

pub grows_then : (old mid new : List Place) → Grows old mid → Grows mid new → Grows old new
grows_then old mid new h k = record {
  more = h.more ++ k.more;
  is = k.is ∙ ap (λ z. z ++ k.more) h.is ∙ append_assoc old h.more k.more;
  holds = λ q le lt. go q le lt (nat_lt q (length mid)) refl;
}
  where
    go : (q : ℕ) → length old ≤ q → q < length new → (b : Bool) → nat_lt q (length mid) ≡ b → Holds new q
    go q le lt true is = let less : q < length mid = grind (arith, nat_tests) in subst (λ z. Holds z q) (sym k.is) (holds_more mid k.more q less (h.holds q le less))
    go q le lt false is = let more : length mid ≤ q = grind (arith, nat_tests) in k.holds q more lt

-- earlier places stand for what they stood for
pub grown_at : (old new : List Place) → Grows old new → (n : ℕ) (e : End) (q : ℕ) → q < length old → at (parts n e new) q ≡ at (parts n e old) q
grown_at old new h n e q lt = ap (λ z. at (parts n e z) q) h.is ∙ parts_stay n e old h.more q lt

pub grown_option : (old new : List Place) → Grows old new → (n : ℕ) (e : End) (place : Option ℕ) → IsOption (length old) place → at_option (parts n e new) place ≡ at_option (parts n e old) place
grown_option old new h n e None w = refl
grown_option old new h n e (Some q) w = grown_at old new h n e q w

pub option_more : (k m : ℕ) (place : Option ℕ) → k ≤ m → IsOption k place → IsOption m place
option_more k m None le w = tt
option_more k m (Some q) le w = omega (arith, le, w)

pub within_more : (k m : ℕ) (next : Next) → k ≤ m → IsWithin k next → IsWithin m next
within_more k m next le w = record { unmoved = option_more k m next.unmoved le w.unmoved; moved = omega (arith, le, w.moved) }

-- ---- one place more

-- it stands for what it makes of the places that it names
abbrev pub IsPlain : Place → Type 0
IsPlain x = (n : ℕ) (e : End) (ps : List WordsAndTurns) → stands_for n e ps x ≡ made n e ps x

pub pushed_at : (old new : List Place) (x : Place) → new ≡ old ++ x ∷ [] → (n : ℕ) (e : End) → at (parts n e new) (length old) ≡ stands_for n e (parts n e old) x
pushed_at old new x is n e = ap (λ z. at (parts n e z) (length old)) is ∙ parts_seam n e old x []

pub pushed_length : (old new : List Place) (x : Place) → new ≡ old ++ x ∷ [] → length new ≡ suc (length old)
pushed_length old new x is = omega (arith, ap length is, length-append old (x ∷ []))

plain_holds : (old : List Place) (x : Place) → IsPlain x → Names (length old) (length old) x → Holds (old ++ x ∷ []) (length old)
plain_holds old x plain w =
    let new = old ++ x ∷ [] in
    let is : place_at new (length old) ≡ x = get_or-append_seam old x [] Match in
    record {
      names = subst (Names (length new) (length old)) (sym is) (names_more (length old) (length new) (length old) x (omega (arith, length-append old (x ∷ []))) w);
      makes = λ n e i.
          let makes : at (parts n e new) (length old) ≡ made n e (parts n e new) (place_at new (length old)) =
          parts_seam n e old x [] ∙ plain n e (parts n e old)
          ∙ sym (made_same n e (length old) (length old) (parts n e new) (parts n e old) x (omega arith) (λ q lt. parts_stay n e old (x ∷ []) q lt) w)
          ∙ ap (made n e (parts n e new)) (sym is) in
          replaces_as i (at (parts n e new) (length old)) (at (parts n e new) (length old)) (made n e (parts n e new) (place_at new (length old))) makes (replaces_self i (at (parts n e new) (length old)));
    }

pub pushed_grows : (old new : List Place) (x : Place) → new ≡ old ++ x ∷ [] → IsPlain x → Names (length old) (length old) x → Grows old new
pushed_grows old new x is plain w = record {
  more = x ∷ [];
  is = is;
  holds = λ q le lt.
      let here : length old ≡ q = omega (arith, le, lt, pushed_length old new x is) in
      subst (Holds new) here (subst (λ z. Holds z (length old)) (sym is) (plain_holds old x plain w));
}

-- ---- what the new places begin with

module _ (here past here' past' : ℕ → End → ℕ → WordsAndTurns) where
  pub makes_weaker : (old new : List Place) (r : Next) → ((n : ℕ) (e : End) (i : ℕ) → Replaces i (here' n e i) (here n e i)) → ((n : ℕ) (e : End) (i : ℕ) → Replaces i (past' n e i) (past n e i)) →
      Makes here past old new r → Makes here' past' old new r
  makes_weaker old new r h k m = record {
    grows = m.grows;
    within = m.within;
    unmoved = λ n e i. replaces_then i (here' n e i) (here n e i) (at_option (parts n e new) r.unmoved) (h n e i) (m.unmoved n e i);
    moved = λ n e i. replaces_then i (past' n e i) (past n e i) (at (parts n e new) r.moved) (k n e i) (m.moved n e i);
  }

pub makes_behind : (here past : ℕ → End → ℕ → WordsAndTurns) (old mid new : List Place) (r : Next) → Grows old mid → Makes here past mid new r → Makes here past old new r
makes_behind here past old mid new r h m = record { grows = grows_then old mid new h m.grows; within = m.within; unmoved = m.unmoved; moved = m.moved }

-- what stays as it is
pub makes_nothing : (here past : ℕ → End → ℕ → WordsAndTurns) (old : List Place) (next : Next) → IsWithin (length old) next →
    ((n : ℕ) (e : End) (i : ℕ) → Replaces i (here n e i) (at_option (parts n e old) next.unmoved)) → ((n : ℕ) (e : End) (i : ℕ) → Replaces i (past n e i) (at (parts n e old) next.moved)) →
    Makes here past old old next
makes_nothing here past old next w h k = record { grows = grows_self old; within = w; unmoved = h; moved = k }

-- two parts, the second of which was made first
module _ (p q : ℕ → End → WordsAndTurns) (old mid new : List Place) (next between r : Next) where
  abbrev pub leads_here : ℕ → End → ℕ → WordsAndTurns
  leads_here n e i = joined (p n e) (joined (q n e) (forked i (at_option (parts n e old) next.unmoved) (at (parts n e old) next.moved)))

  abbrev pub leads_past : ℕ → End → ℕ → WordsAndTurns
  leads_past n e i = joined (p n e) (joined (q n e) (at (parts n e old) next.moved))

  pub leads_then : LeadsInto q next old mid between → LeadsInto p between mid new r → Makes leads_here leads_past old new r
  leads_then h k = makes_behind leads_here leads_past old mid new r h.grows
      (makes_weaker (λ n e i. joined (p n e) (forked i (at_option (parts n e mid) between.unmoved) (at (parts n e mid) between.moved))) (λ n e i. joined (p n e) (at (parts n e mid) between.moved)) leads_here leads_past mid new r
      (λ n e i. joined_fork (p n e) (q n e) (at_option (parts n e old) next.unmoved) (at (parts n e old) next.moved) (at_option (parts n e mid) between.unmoved) (at (parts n e mid) between.moved) i (h.unmoved n e i) (h.moved n e))
      (λ n e i. later_replaced (p n e) (joined (q n e) (at (parts n e old) next.moved)) (at (parts n e mid) between.moved) i (λ j le. h.moved n e j))
      k)
