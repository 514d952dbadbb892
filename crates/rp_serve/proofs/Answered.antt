-- Lines that are answered one after another, and what is kept of a long one.
use Rattle.std.proofs.Common.{◌≡◌, ◌∙◌, ℕ, ◌<◌, true, List, [], ◌∷◌, ◌++◌, length, take, refl, sym, ap, subst, arith, ltb, Err, inl, inr, ◌⊎◌}
use Rattle.std.proofs.lemmas.Bool.Decides.{nat_tests}
use Rattle.rp_protocol.specs.declared.reply.Reply.{Reply}
use Rattle.rp_io.proofs.Kept.{kept_or_long}
use Rattle.rp_protocol.specs.Requests.{asked}
use Rattle.rp_protocol.specs.declared.fault.LineFault.TheVariants.{TooLong}
use Rattle.rp_protocol.specs.declared.request.Request.{Request}
use Rattle.rp_serve.specs.Served.{AnswersLine, Serves}

too_long : (line : List ℕ) → 65536 < length line → asked line ≡ Err TooLong
too_long line many = let yes : ltb 65536 (length line) ≡ true = grind (arith, nat_tests) in rw yes refl

-- the first bytes of a line say what it asks
pub asked_kept : (line whole : List ℕ) → line ≡ take 65537 whole → asked line ≡ asked whole
asked_kept line whole is = by_length (kept_or_long 65536 line whole is)
  where
    by_length : (line ≡ whole) ⊎ ((65536 < length line) × (65536 < length whole)) → asked line ≡ asked whole
    by_length (inl same) = ap asked same
    by_length (inr (long, longer)) = too_long line long ∙ sym (too_long whole longer)

module _ {X : Type 0} (step : X → Request → Reply → X → Type 0) where
  -- one line more
  pub serves_one : (lines : List (List ℕ)) (replies : List Reply) (line : List ℕ) (reply : Reply) (old mid new : X) → Serves step old lines replies mid → AnswersLine step mid line reply new
      → Serves step old (lines ++ line ∷ []) (replies ++ reply ∷ []) new
  serves_one [] [] line reply old mid new served answers = (new, subst (λ x. AnswersLine step x line reply new) served answers, refl)
  serves_one [] (r ∷ replies) line reply old mid new served answers = absurd served
  serves_one (l ∷ lines) [] line reply old mid new served answers = absurd served
  serves_one (l ∷ lines) (r ∷ replies) line reply old mid new served answers = (served.0, served.1, serves_one lines replies line reply served.0 mid new served.2 answers)
