-- Where csv's machine stands behind one byte more, and in which line.
use Rattle.std.proofs.Common.{◌≡◌, ◌==◌, ◌+◌, ◌-◌, ◌^◌, min, ℕ, Bool, true, false, cond, List, [], ◌∷◌, ◌++◌, count_by, refl, ap, ◌∙◌, arith}
use Rattle.std.proofs.lemmas.List.Sums.{sum_by_push}
use Rattle.csv.specs.Machine.{step}
use Rattle.csv.specs.declared.parser.Config.{Config}
use Rattle.csv.specs.declared.parser.State.{State}
use Rattle.rp_quotes.specs.Quotes.{state_behind}
use Rattle.rp_quotes.specs.Watching.{line_with}

pub behind_last : (config : Config) (s : State) (xs : List ℕ) (b : ℕ) → state_behind config s (xs ++ b ∷ []) ≡ (step config (state_behind config s xs) b).0
unfolding state_behind
behind_last config s [] b = λ i. (step config s b).0
behind_last config s (x ∷ xs) b = behind_last config (step config s x).0 xs b

-- the line in which bytes end, as specs/Quotes has it of a text
abbrev pub last_line : List ℕ → ℕ
last_line xs = min (count_by (λ byte. byte == 10) xs + 1) (2 ^ 64 - 1)

one_more : (n b : ℕ) (feeds : Bool) → (b == 10) ≡ feeds → min (n + cond (b == 10) 1 0 + 1) (2 ^ 64 - 1) ≡ line_with (min (n + 1) (2 ^ 64 - 1)) b
one_more n b true is = rw is (omega arith)
one_more n b false is = rw is (omega arith)

pub line_last : (xs : List ℕ) (b : ℕ) → last_line (xs ++ b ∷ []) ≡ line_with (last_line xs) b
line_last xs b =
    ap (λ n. min (n + 1) (2 ^ 64 - 1)) (sum_by_push (λ byte. cond (byte == 10) 1 0) xs b)
    ∙ one_more (count_by (λ byte. byte == 10) xs) b (b == 10) refl
