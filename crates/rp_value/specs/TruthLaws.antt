-- What is told stays told.
use Rattle.std.specs.Prelude.{◌≡◌}
use Rattle.rp_value.specs.declared.truth.Judged.{Judged}
use Rattle.rp_value.specs.declared.truth.Judged.TheVariants.{Told, Open}
use Rattle.rp_value.specs.Truth.{judged_conjunction, judged_disjunction, judged_negation}

-- a later judgement keeps what was told: a told one is the same later, and an open one may become any
abbrev pub KeepsTold : Judged → Judged → Type 0
KeepsTold Open later = Unit {0}
KeepsTold (Told a) later = later ≡ Told a

-- where later sides keep what was told, so do AND, OR and NOT of them
abbrev pub ToldStays : Type 0
ToldStays =
    ((a a' b b' : Judged) → KeepsTold a a' → KeepsTold b b' → KeepsTold (judged_conjunction a b) (judged_conjunction a' b'))
    × ((a a' b b' : Judged) → KeepsTold a a' → KeepsTold b b' → KeepsTold (judged_disjunction a b) (judged_disjunction a' b'))
    × ((a a' : Judged) → KeepsTold a a' → KeepsTold (judged_negation a) (judged_negation a'))
