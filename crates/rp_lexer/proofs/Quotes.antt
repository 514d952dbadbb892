-- A scan for the quote that closes, a byte or a double quote at a time.
use Rattle.std.proofs.Common.{◌≡◌, ℕ, ◌+◌, ◌<◌, List, [], ◌∷◌, ◌++◌, length, get_or, take, sym, ap, ◌∙◌, append_assoc, add_assoc}
use Rattle.std.proofs.lemmas.List.{take_more}
use Rattle.rp_lexer.specs.Forms.{doubled, enclosed}
use Rattle.rp_lexer.proofs.Doubled.{doubled-append, doubled-quote, doubled-other}

module _ (rest : List ℕ) (quote at : ℕ) (inside : List ℕ) (front : take at rest ≡ quote ∷ doubled quote inside) (in' : at < length rest) where
  -- one more byte that is no quote
  pub inside_more : (get_or rest at 0 ≡ quote → ⊥) → take (at + 1) rest ≡ quote ∷ doubled quote (inside ++ get_or rest at 0 ∷ [])
  inside_more other =
      take_more rest at 0 in' ∙ ap (λ l. l ++ get_or rest at 0 ∷ []) front
      ∙ ap (λ l. quote ∷ (doubled quote inside ++ l)) (sym (doubled-other quote (get_or rest at 0) [] other))
      ∙ ap (λ l. quote ∷ l) (sym (doubled-append quote inside (get_or rest at 0 ∷ [])))

  -- the quote that closes
  pub inside_closed : get_or rest at 0 ≡ quote → take (at + 1) rest ≡ enclosed quote inside
  inside_closed is = take_more rest at 0 in' ∙ ap (λ l. l ++ get_or rest at 0 ∷ []) front ∙ ap (λ b. quote ∷ (doubled quote inside ++ b ∷ [])) is

  -- a double quote
  pub inside_doubled : get_or rest at 0 ≡ quote → at + 1 < length rest → get_or rest (at + 1) 0 ≡ quote → take (at + 2) rest ≡ quote ∷ doubled quote (inside ++ quote ∷ [])
  inside_doubled is in'' too =
      ap (λ n. take n rest) (sym (add_assoc at 1 1)) ∙ take_more rest (at + 1) 0 in'' ∙ ap (λ l. l ++ get_or rest (at + 1) 0 ∷ []) (inside_closed is)
      ∙ ap (λ b. quote ∷ ((doubled quote inside ++ quote ∷ []) ++ b ∷ [])) too
      ∙ ap (λ l. quote ∷ l) (append_assoc (doubled quote inside) (quote ∷ []) (quote ∷ []) ∙ ap (λ l. doubled quote inside ++ l) (sym (doubled-quote quote [])) ∙ sym (doubled-append quote inside (quote ∷ [])))
