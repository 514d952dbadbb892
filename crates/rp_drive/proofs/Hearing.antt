-- The replies on the lines that come.
use Rattle.std.proofs.Common.{◌≡◌, ◌∙◌, ℕ, ◌+◌, suc, ◌<◌, add-one, true, List, [], ◌∷◌, length, map, take, Option, Some, None, option_map, refl, sym, ap, arith, inl, inr, ltb, ◌⊎◌}
use Rattle.std.proofs.lemmas.Bool.Decides.{nat_tests}
use Rattle.std.specs.Io.KnownBytes.{prepend_known}
use Rattle.rp_io.proofs.Cutting.{lines-front, lines-last}
use Rattle.rp_io.proofs.Kept.{kept_none, kept_or_long, kept_some}
use Rattle.rp_io.specs.Lines.{TakesLast, TakesLine, lines_of}
use Rattle.rp_drive.specs.Lines.{replies_within, reply_within}
use Rattle.rp_drive.specs.Listening.{Comes}

too_long : (limit : ℕ) (line : List ℕ) → limit < length line → reply_within limit line ≡ None
too_long limit line many = let yes : ltb limit (length line) ≡ true = grind (arith, nat_tests) in rw yes refl

-- the first bytes of a line say what reply it is
pub reply_kept : (limit : ℕ) (line whole : List ℕ) → line ≡ take (limit + 1) whole → reply_within limit line ≡ reply_within limit whole
reply_kept limit line whole is = by_length (kept_or_long limit line whole is)
  where
    by_length : (line ≡ whole) ⊎ ((limit < length line) × (limit < length whole)) → reply_within limit line ≡ reply_within limit whole
    by_length (inl same) = ap (reply_within limit) same
    by_length (inr (long, longer)) = too_long limit line long ∙ sym (too_long limit whole longer)

module _ (limit : ℕ) where
  pub comes_line : (input now : Option (List ℕ)) (line : List ℕ) → TakesLine (limit + 1) input now line → Comes (replies_within limit input) (replies_within limit now) (reply_within limit line)
  comes_line None now line takes = tt
  comes_line (Some xs) None line takes = absurd takes
  comes_line (Some xs) (Some ys) line takes =
      inl (ap (map (reply_within limit)) (ap lines_of takes.2 ∙ lines-front takes.0 ys takes.1)
      ∙ ap (λ r. r ∷ map (reply_within limit) (lines_of ys)) (sym (reply_kept limit line takes.0 takes.3)))

  pub comes_last : (input remaining : Option (List ℕ)) (pending line : List ℕ) → TakesLast (limit + 1) input (prepend_known pending remaining) line → (length line ≡ 0 → ⊥)
      → Comes (replies_within limit input) (option_map (λ bytes. []) remaining) (reply_within limit line)
  comes_last None remaining pending line takes lines = tt
  comes_last (Some xs) None pending line takes lines = absurd takes
  comes_last (Some xs) (Some ys) pending line takes lines =
      inl (ap (map (reply_within limit)) (lines-last xs takes.0 (kept_some limit line xs lines (takes.2 ∙ one_more xs)))
      ∙ ap (λ r. r ∷ []) (sym (reply_kept limit line xs takes.2)))
    where
      one_more : (bytes : List ℕ) → take (limit + 1) bytes ≡ take (suc limit) bytes
      one_more bytes = ap (λ n. take n bytes) (add-one limit)

  pub comes_none : (input remaining : Option (List ℕ)) (pending line : List ℕ) → TakesLast (limit + 1) input (prepend_known pending remaining) line → length line ≡ 0
      → Comes (replies_within limit input) (option_map (λ bytes. []) remaining) None
  comes_none None remaining pending line takes none = tt
  comes_none (Some xs) None pending line takes none = absurd takes
  comes_none (Some xs) (Some ys) pending line takes none =
      inr (ap (λ t. map (reply_within limit) (lines_of t)) (kept_none limit line xs none (takes.2 ∙ ap (λ n. take n xs) (add-one limit))), refl, refl)

-- after the end none comes
pub comes_over : (remaining : Option (List ℕ)) → Comes (option_map (λ bytes. []) remaining) (option_map (λ bytes. []) remaining) None
comes_over None = tt
comes_over (Some xs) = inr (refl, refl, refl)
