-- Parts one after another as a list.
use Rattle.std.proofs.Common.{◌≡◌, ℕ, List, [], ◌∷◌, map, Bool, refl, arith}
use mathlib.Core.Path.{fun_ext}
use Rattle.std.specs.Prelude.{sum_by}
use Rattle.std.proofs.lemmas.List.Sums.{sum_by-cons}
use Rattle.rp_words.specs.Mapping.{Mapping, Full, Open}
use Rattle.rp_words.specs.Words.{Mappings, sequence}
use Rattle.rp_words.specs.Turns.{WordsAndTurns, turns_after, chain_turns, past, iterations, words_of}
use Rattle.rp_program.specs.Parts.{chained}
use Rattle.rp_words.proofs.Algebra.{concatenation_nothing_last}

-- the words of parts one after another
abbrev pub chain_words : List WordsAndTurns → Mappings
chain_words ps = sequence (map words_of ps)

-- another iteration, and then further ones if it has taken a row
abbrev pub repeated : ℕ → Bool → WordsAndTurns → List WordsAndTurns → ℕ → List WordsAndTurns
repeated h reluctant p later i = p ∷ past i (iterations 0 h reluctant p) ∷ later

none_after : (i : ℕ) (ws : List Mapping) → sum_by (turns_after (chain_turns []) i) ws ≡ 0
none_after i [] = refl
none_after i (Full ls ∷ ws) = omega (arith, sum_by-cons (turns_after (chain_turns []) i) (Full ls) ws, none_after i ws)
none_after i (Open ls ∷ ws) = omega (arith, sum_by-cons (turns_after (chain_turns []) i) (Open ls) ws, none_after i ws)

last_words : (p : WordsAndTurns) → chain_words (p ∷ []) ≡ p.0
last_words p = fun_ext (λ i. concatenation_nothing_last p.0 i)

last_turns : (p : WordsAndTurns) → chain_turns (p ∷ []) ≡ p.1
last_turns p = fun_ext (λ i. omega (arith, none_after i (p.0 i)))

pub one_part : (p : WordsAndTurns) → chained (p ∷ []) ≡ p
one_part p = λ i. (last_words p i, last_turns p i)
