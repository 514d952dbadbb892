-- The trees of forms, and which forms have letters.
use Rattle.std.proofs.Common.{◌≡◌, ℕ, ◌<◌, nat_lt, arith, Bool, true, false, None, IsTrue, refl, sym, ap, ◌∙◌, subst, ◌&&◌, rules}
use Rattle.std.proofs.lemmas.Bool.Decides.{nat_tests}
use Rattle.std.specs.declared.rc.Rc.{Rc}
use Rattle.std.specs.declared.alloc.Global.{Global}
use Rattle.rp_words.specs.Bounds.{is_allowed, allowed_step}
use Rattle.rp_words.specs.Builders.{IsConcatenation, IsAlternation, IsQuantified}
use Rattle.rp_words.specs.Variables.{are_below, below_step}
use Rattle.rp_words.specs.declared.form.Form.{Form}
use Rattle.rp_words.specs.declared.form.Form.TheOpen as F
use Rattle.rp_words.specs.declared.form.Form.TheVariants as V
use Rattle.rp_words.specs.declared.form.Form.TheFolds.{fold-roll-Form}
use Rattle.rp_trace.specs.Grammar.{Tree, Letter, Nothing, Both, Either, Star, tree_of, tree_step, IsLettered}

pub tree_variable : (v : ℕ) → tree_of (V.Variable v) ≡ Letter v
tree_variable v = ap tree_of (sym (V.rolls-Variable v)) ∙ fold-roll-Form Tree tree_step (F.Variable v)

pub tree_empty : tree_of V.Empty ≡ Nothing
tree_empty = ap tree_of (sym V.rolls-Empty) ∙ fold-roll-Form Tree tree_step F.Empty

both_parts : (p q : Rc Form Global) → tree_of (V.Concatenation p q) ≡ Both (tree_of p.value) (tree_of q.value)
both_parts p q = ap tree_of (sym (V.rolls-Concatenation p q)) ∙ fold-roll-Form Tree tree_step (F.Concatenation p q)

pub tree_both : (p q form : Form) → IsConcatenation p q form → tree_of form ≡ Both (tree_of p) (tree_of q)
tree_both p q form m = ap tree_of m.made ∙ both_parts m.first m.second ∙ ap (λ x. Both (tree_of x) (tree_of m.second.value)) m.is_first ∙ ap (λ x. Both (tree_of p) (tree_of x)) m.is_second

either_part : (p q : Rc Form Global) → tree_of (V.Alternation p q) ≡ Either (tree_of p.value) (tree_of q.value)
either_part p q = ap tree_of (sym (V.rolls-Alternation p q)) ∙ fold-roll-Form Tree tree_step (F.Alternation p q)

pub tree_either : (p q form : Form) → IsAlternation p q form → tree_of form ≡ Either (tree_of p) (tree_of q)
tree_either p q form m = ap tree_of m.made ∙ either_part m.first m.second ∙ ap (λ x. Either (tree_of x) (tree_of m.second.value)) m.is_first ∙ ap (λ x. Either (tree_of p) (tree_of x)) m.is_second

star_body : (p : Rc Form Global) → tree_of (V.Quantified p 0 None false) ≡ Star (tree_of p.value)
star_body p = ap tree_of (sym (V.rolls-Quantified p 0 None false)) ∙ fold-roll-Form Tree tree_step (F.Quantified p 0 None false)

pub tree_star : (p form : Form) → IsQuantified p 0 None false form → tree_of form ≡ Star (tree_of p)
tree_star p form m = ap tree_of m.made ∙ star_body m.body ∙ ap (λ x. Star (tree_of x)) m.is_body

-- ---- forms of letters

allowed_and : (a b : Bool) → IsTrue a → IsTrue b → IsTrue (a && b)
allowed_and true true s t = search rules
allowed_and true false s t = t
allowed_and false b s t = s

below_and : (a b : Bool) → a ≡ true → b ≡ true → (a && b) ≡ true
below_and a b s t = rw (s, t) refl

lettered_both : (p q : Rc Form Global) → IsLettered p.value → IsLettered q.value → IsLettered (V.Concatenation p q)
lettered_both p q a b = (subst IsTrue (sym allowed) (allowed_and (is_allowed p.value) (is_allowed q.value) a.0 b.0), below ∙ below_and (are_below 26 p.value) (are_below 26 q.value) a.1 b.1)
  where
    allowed : is_allowed (V.Concatenation p q) ≡ (is_allowed p.value && is_allowed q.value)
    allowed = ap is_allowed (sym (V.rolls-Concatenation p q)) ∙ fold-roll-Form Bool allowed_step (F.Concatenation p q)

    below : are_below 26 (V.Concatenation p q) ≡ (are_below 26 p.value && are_below 26 q.value)
    below = ap (are_below 26) (sym (V.rolls-Concatenation p q)) ∙ fold-roll-Form Bool (below_step 26) (F.Concatenation p q)

pub lettered_concatenation : (p q form : Form) → IsLettered p → IsLettered q → IsConcatenation p q form → IsLettered form
lettered_concatenation p q form a b m = subst IsLettered (sym m.made) (lettered_both m.first m.second (subst IsLettered (sym m.is_first) a) (subst IsLettered (sym m.is_second) b))

lettered_either : (p q : Rc Form Global) → IsLettered p.value → IsLettered q.value → IsLettered (V.Alternation p q)
lettered_either p q a b = (subst IsTrue (sym allowed) (allowed_and (is_allowed p.value) (is_allowed q.value) a.0 b.0), below ∙ below_and (are_below 26 p.value) (are_below 26 q.value) a.1 b.1)
  where
    allowed : is_allowed (V.Alternation p q) ≡ (is_allowed p.value && is_allowed q.value)
    allowed = ap is_allowed (sym (V.rolls-Alternation p q)) ∙ fold-roll-Form Bool allowed_step (F.Alternation p q)

    below : are_below 26 (V.Alternation p q) ≡ (are_below 26 p.value && are_below 26 q.value)
    below = ap (are_below 26) (sym (V.rolls-Alternation p q)) ∙ fold-roll-Form Bool (below_step 26) (F.Alternation p q)

pub lettered_alternation : (p q form : Form) → IsLettered p → IsLettered q → IsAlternation p q form → IsLettered form
lettered_alternation p q form a b m = subst IsLettered (sym m.made) (lettered_either m.first m.second (subst IsLettered (sym m.is_first) a) (subst IsLettered (sym m.is_second) b))

lettered_body : (p : Rc Form Global) → IsLettered p.value → IsLettered (V.Quantified p 0 None false)
lettered_body p a = (subst IsTrue (sym allowed) a.0, below ∙ a.1)
  where
    allowed : is_allowed (V.Quantified p 0 None false) ≡ is_allowed p.value
    allowed = ap is_allowed (sym (V.rolls-Quantified p 0 None false)) ∙ fold-roll-Form Bool allowed_step (F.Quantified p 0 None false)

    below : are_below 26 (V.Quantified p 0 None false) ≡ are_below 26 p.value
    below = ap (are_below 26) (sym (V.rolls-Quantified p 0 None false)) ∙ fold-roll-Form Bool (below_step 26) (F.Quantified p 0 None false)

pub lettered_star : (p form : Form) → IsLettered p → IsQuantified p 0 None false form → IsLettered form
lettered_star p form a m = subst IsLettered (sym m.made) (lettered_body m.body (subst IsLettered (sym m.is_body) a))

pub lettered_variable : (v : ℕ) → v < 26 → IsLettered (V.Variable v)
lettered_variable v few = (
  subst IsTrue (sym (ap is_allowed (sym (V.rolls-Variable v)) ∙ fold-roll-Form Bool allowed_step (F.Variable v))) (search rules),
  ap (are_below 26) (sym (V.rolls-Variable v)) ∙ fold-roll-Form Bool (below_step 26) (F.Variable v) ∙ below,
)
  where
    below : nat_lt v 26 ≡ true
    below = grind (arith, nat_tests)

pub lettered_empty : IsLettered V.Empty
lettered_empty = (
  subst IsTrue (sym (ap is_allowed (sym V.rolls-Empty) ∙ fold-roll-Form Bool allowed_step F.Empty)) (search rules),
  ap (are_below 26) (sym V.rolls-Empty) ∙ fold-roll-Form Bool (below_step 26) F.Empty,
)
