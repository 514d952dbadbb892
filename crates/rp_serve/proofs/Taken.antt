-- Lines that are taken of an input.
use Rattle.std.proofs.Common.{◌≡◌, ◌∙◌, ℕ, List, [], ◌∷◌, ◌++◌, length, Option, Some, None, IfSome, refl, sym, ap, append_assoc, append-nil}
use Rattle.std.specs.Io.KnownBytes.{prepend_known}
use Rattle.rp_io.proofs.Cutting.{lines-front, lines-last}
use Rattle.rp_io.proofs.Kept.{kept_none, kept_some}
use Rattle.rp_io.specs.Lines.{TakesLast, TakesLine, lines_of}
use Rattle.rp_protocol.specs.Requests.{asked}
use Rattle.rp_serve.specs.Sessions.{AreFirst}
use Rattle.rp_serve.proofs.Answered.{asked_kept}

-- These lines were taken of an input: they come first, and the others are to come.
abbrev pub HasTaken : Option (List ℕ) → Option (List ℕ) → List (List ℕ) → Type 0
HasTaken None coming lines = Unit {0}
HasTaken (Some xs) None lines = ⊥
HasTaken (Some xs) (Some ys) lines = lines_of xs ≡ lines ++ lines_of ys

-- a line that is taken, whole
pub record IsTaken (coming coming' : Option (List ℕ)) (line : List ℕ) : Type 0 where
  pub whole : List ℕ
  pub same : asked line ≡ asked whole
  pub more : (input : Option (List ℕ)) (lines : List (List ℕ)) → HasTaken input coming lines → HasTaken input coming' (lines ++ whole ∷ [])

pub takes_line : (coming coming' : Option (List ℕ)) (line : List ℕ) → TakesLine 65537 coming coming' line → IsTaken coming coming' line
takes_line None coming' line takes = record { whole = line; same = refl; more = more }
  where
    more : (input : Option (List ℕ)) (lines : List (List ℕ)) → HasTaken input None lines → HasTaken input coming' (lines ++ line ∷ [])
    more None lines taken = tt
    more (Some zs) lines taken = absurd taken
takes_line (Some xs) None line takes = absurd takes
takes_line (Some xs) (Some ys) line takes = record { whole = takes.0; same = asked_kept line takes.0 takes.3; more = more }
  where
    more : (input : Option (List ℕ)) (lines : List (List ℕ)) → HasTaken input (Some xs) lines → HasTaken input (Some ys) (lines ++ takes.0 ∷ [])
    more None lines taken = tt
    more (Some zs) lines taken = taken ∙ ap (λ t. lines ++ t) (ap lines_of takes.2 ∙ lines-front takes.0 ys takes.1) ∙ sym (append_assoc lines (takes.0 ∷ []) (lines_of ys))

-- the part behind the last LF is a line
pub takes_last : (coming coming' : Option (List ℕ)) (part : List ℕ) → TakesLast 65537 coming coming' part → (length part ≡ 0 → ⊥) → IsTaken coming coming' part
takes_last None coming' part takes lines = record { whole = part; same = refl; more = more }
  where
    more : (input : Option (List ℕ)) (lines : List (List ℕ)) → HasTaken input None lines → HasTaken input coming' (lines ++ part ∷ [])
    more None lines taken = tt
    more (Some zs) lines taken = absurd taken
takes_last (Some xs) None part takes lines = absurd takes
takes_last (Some xs) (Some ys) part takes is_line = record { whole = xs; same = asked_kept part xs takes.2; more = more }
  where
    more : (input : Option (List ℕ)) (lines : List (List ℕ)) → HasTaken input (Some xs) lines → HasTaken input (Some ys) (lines ++ xs ∷ [])
    more None lines taken = tt
    more (Some zs) lines taken = taken ∙ ap (λ t. lines ++ t) (lines-last xs takes.0 (kept_some 65536 part xs is_line takes.2)) ∙ sym (append-nil (lines ++ xs ∷ [])) ∙ ap (λ t. (lines ++ xs ∷ []) ++ lines_of t) (sym takes.1)

-- it is none
pub takes_none : (coming coming' : Option (List ℕ)) (part : List ℕ) → TakesLast 65537 coming coming' part → length part ≡ 0 → (input : Option (List ℕ)) (lines : List (List ℕ)) → HasTaken input coming lines → HasTaken input coming' lines
takes_none None coming' part takes none None lines taken = tt
takes_none None coming' part takes none (Some zs) lines taken = absurd taken
takes_none (Some xs) None part takes none input lines taken = absurd takes
takes_none (Some xs) (Some ys) part takes none None lines taken = tt
takes_none (Some xs) (Some ys) part takes none (Some zs) lines taken = taken ∙ ap (λ t. lines ++ lines_of t) (kept_none 65536 part xs none takes.2 ∙ sym takes.1)

-- all lines are taken at the end
pub all_taken : (coming coming' : Option (List ℕ)) (part : List ℕ) → TakesLast 65537 coming coming' part → (input : Option (List ℕ)) (before lines : List (List ℕ)) → HasTaken input coming before
    → HasTaken input coming' lines → IfSome input (λ bytes. lines ≡ lines_of bytes)
all_taken coming coming' part takes None before lines first taken = tt
all_taken None coming' part takes (Some zs) before lines first taken = absurd first
all_taken (Some xs) None part takes (Some zs) before lines first taken = absurd taken
all_taken (Some xs) (Some ys) part takes (Some zs) before lines first taken = sym (taken ∙ ap (λ t. lines ++ lines_of t) takes.1 ∙ append-nil lines)

pub are_first : (input coming : Option (List ℕ)) (lines : List (List ℕ)) → HasTaken input coming lines → AreFirst input lines
are_first None coming lines taken = tt
are_first (Some xs) None lines taken = absurd taken
are_first (Some xs) (Some ys) lines taken = (lines_of ys, taken)

pub taken_none : (input : Option (List ℕ)) (pending : List ℕ) → pending ≡ [] → HasTaken input (prepend_known pending input) []
taken_none None pending none = tt
taken_none (Some xs) pending none = ap (λ t. lines_of (t ++ xs)) (sym none)
