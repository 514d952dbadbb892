-- The three truth values of the standard, and judgements, which may be open.
use Rattle.std.specs.Prelude.{ℕ, nat_le, if◌then◌else◌}
use Rattle.rp_value.specs.declared.truth.Tri.{Tri}
use Rattle.rp_value.specs.declared.truth.Tri.TheVariants.{True, False, Unknown}
use Rattle.rp_value.specs.declared.truth.Judged.{Judged}
use Rattle.rp_value.specs.declared.truth.Judged.TheVariants.{Told, Open}

-- the place of a truth value in the order false, unknown, true
abbrev pub rank : Tri → ℕ
rank False = 0
rank Unknown = 1
rank True = 2

-- AND, the least of the two
abbrev pub conjunction : Tri → Tri → Tri
conjunction a b = if nat_le (rank a) (rank b) then a else b

-- OR, the greatest of the two
abbrev pub disjunction : Tri → Tri → Tri
disjunction a b = if nat_le (rank a) (rank b) then b else a

-- NOT
abbrev pub negation : Tri → Tri
negation True = False
negation False = True
negation Unknown = Unknown

-- AND of judgements: a side that is told false decides, and else an open side leaves it open
abbrev pub judged_conjunction : Judged → Judged → Judged
judged_conjunction (Told False) _ = Told False
judged_conjunction _ (Told False) = Told False
judged_conjunction (Told a) (Told b) = Told (conjunction a b)
judged_conjunction _ _ = Open

-- OR of judgements: a side that is told true decides, and else an open side leaves it open
abbrev pub judged_disjunction : Judged → Judged → Judged
judged_disjunction (Told True) _ = Told True
judged_disjunction _ (Told True) = Told True
judged_disjunction (Told a) (Told b) = Told (disjunction a b)
judged_disjunction _ _ = Open

-- NOT of a judgement
abbrev pub judged_negation : Judged → Judged
judged_negation (Told a) = Told (negation a)
judged_negation Open = Open
