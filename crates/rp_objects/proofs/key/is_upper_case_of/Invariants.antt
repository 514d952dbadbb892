use Rattle.std.proofs.Common.{◌≡◌, ◌<◌, ℕ, get_or}
use Rattle.std.specs.Char.{to_ascii_uppercase}
use Rattle.rp_objects.proofs.key.is_upper_case_of.Given as goal

abbrev pub invariant-loop-index : goal.invariant-loop-index
invariant-loop-index l = (k : ℕ) → k < l.index → to_ascii_uppercase (get_or l.key k 0) ≡ get_or l.part k 0
