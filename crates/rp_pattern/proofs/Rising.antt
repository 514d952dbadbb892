-- Depths that rise after an operation on a stack.
use Rattle.std.proofs.Common.{◌≡◌, ℕ, List, [], ◌∷◌, drop, Result, Ok, Err, OnOk, OnErr, IfOk, IsTrue, refl, ap, ◌∙◌, subst, arith}
use Rattle.std.specs.declared.alloc.AllocError.{AllocError}
use Rattle.rp_words.specs.declared.word.End.{End}
use Rattle.rp_words.specs.Turns.{WordsAndTurns}
use Rattle.rp_pattern.specs.declared.machine.split.Expansion.{Expansion}
use Rattle.rp_pattern.specs.declared.machine.split.Expansion.TheVariants.{Full as FullExpansion, Row as RowExpansion, Open as OpenExpansion, Split as SplitExpansion}
use Rattle.rp_pattern.specs.declared.ways.Ways.{Ways}
use Rattle.rp_pattern.specs.Rests.{Way, rises, pushed, HasDepth, IsPut, TakenUp}
use Rattle.rp_pattern.specs.Ways.{stack_of}
use Rattle.rp_pattern.proofs.ChoiceStacks.{rises_first, rises_on, rises_pushed, rises_subst}

-- the first way, as deep as it is
pub first_rises : (m : ℕ) (w : Way) (ws : List Way) → IsTrue (rises m (w ∷ ws)) → IsTrue (rises w.depth (w ∷ ws))
first_rises m w ws h = rises_on w.depth w ws (omega arith) (rises_first m w ws h).1

-- what the first way came to, read at the way
pub taken_first : (old new : Ways) (w : Way) (ws : List Way) (n : ℕ) (e : End) (i : ℕ) (x y : Expansion) → stack_of old ≡ w ∷ ws → x ≡ y →
    TakenUp (new ≡ old) n e i (stack_of old) (stack_of new) x → TakenUp (new ≡ old) n e i (w ∷ ws) (stack_of new) y
taken_first old new w ws n e i x y on same h =
    subst (λ z. TakenUp (new ≡ old) n e i (w ∷ ws) (stack_of new) z) same (subst (λ zs. TakenUp (new ≡ old) n e i zs (stack_of new) x) on h)

-- the first way of a stack whose first labels are so many
abbrev pub way_at : (depth : ℕ) (ws below : List Way) → HasDepth depth ws below → Way
way_at depth ws below h = record { depth = depth; rest = h.rest }

-- what it came to, where that is known
pub taken_at : (old new : Ways) (depth n : ℕ) (e : End) (i : ℕ) (x y : Expansion) (h : HasDepth depth (stack_of old) (drop 1 (stack_of old))) → x ≡ y →
    TakenUp (new ≡ old) n e i (stack_of old) (stack_of new) x → TakenUp (new ≡ old) n e i (way_at depth (stack_of old) (drop 1 (stack_of old)) h ∷ drop 1 (stack_of old)) (stack_of new) y
taken_at old new depth n e i x y h same taken = taken_first old new (way_at depth (stack_of old) (drop 1 (stack_of old)) h) (drop 1 (stack_of old)) n e i x y h.is same taken

taken_rises : (old new : Ways) (w : Way) (ws : List Way) (m n : ℕ) (e : End) (i : ℕ) (x : Expansion) → stack_of old ≡ w ∷ ws → IsTrue (rises m (w ∷ ws)) →
    TakenUp (new ≡ old) n e i (w ∷ ws) (stack_of new) x → IsTrue (rises w.depth (stack_of new))
taken_rises old new w ws m n e i FullExpansion on r h = rises_subst w.depth (stack_of new) (w ∷ ws) (ap stack_of h.0 ∙ on) (first_rises m w ws r)
taken_rises old new w ws m n e i (RowExpansion l) on r h = rises_subst w.depth (stack_of new) (w ∷ ws) (ap stack_of h.0 ∙ on) (first_rises m w ws r)
taken_rises old new w ws m n e i OpenExpansion on r h = rises_subst w.depth (stack_of new) (w ∷ ws) (ap stack_of h.0 ∙ on) (first_rises m w ws r)
taken_rises old new w ws m n e i SplitExpansion on r h =
    let d = w.depth in
    rises_subst d (stack_of new) (pushed d h.preferred (pushed d h.other ws)) h.is
    (rises_pushed d d h.preferred (pushed d h.other ws) (omega arith) (rises_pushed d d h.other ws (omega arith) (rises_first m w ws r).1))

-- after the first way has been taken up, or memory was refused
pub rises_taken : (old new : Ways) (depth m n : ℕ) (e : End) (i : ℕ) (r : Result Expansion AllocError) → HasDepth depth (stack_of old) (drop 1 (stack_of old)) →
    IsTrue (rises m (stack_of old)) → IfOk r (TakenUp (new ≡ old) n e i (stack_of old) (stack_of new)) → OnErr r (stack_of new ≡ []) → IsTrue (rises depth (stack_of new))
rises_taken old new depth m n e i (Ok x) d h taken refused =
    let w : Way = record { depth = depth; rest = d.rest } in
    let ws = drop 1 (stack_of old) in
    taken_rises old new w ws m n e i x d.is (subst (λ zs. IsTrue (rises m zs)) d.is h) (taken_first old new w ws n e i x x d.is refl taken)
rises_taken old new depth m n e i (Err x) d h taken refused = rises_subst depth (stack_of new) [] refused refl

pub put_rises : (p : ℕ → End → WordsAndTurns) (i depth : ℕ) (under new : List Way) → IsPut p i depth under new → IsTrue (rises depth under) → IsTrue (rises depth new)
put_rises p i depth under new put h = rises_subst depth new (pushed depth put.rest under) put.is (rises_pushed depth depth put.rest under (omega arith) h)

-- after a way has been put on others, or memory was refused
pub rises_put : (p : ℕ → End → WordsAndTurns) (i depth : ℕ) (under new : List Way) (r : Result Unit AllocError) →
    IsTrue (rises depth under) → OnOk r (IsPut p i depth under new) → OnErr r (new ≡ []) → IsTrue (rises depth new)
rises_put p i depth under new (Ok x) h put refused = put_rises p i depth under new put h
rises_put p i depth under new (Err x) h put refused = rises_subst depth new [] refused refl

pub on_ok : (P Q : Type 0) (r : Result Unit AllocError) → (P → Q) → OnOk r P → OnOk r Q
on_ok P Q (Ok x) f h = f h
on_ok P Q (Err x) f h = tt

pub always : {P : Type 0} (r : Result Unit AllocError) → P → OnOk r P
always (Ok x) h = h
always (Err x) h = tt
