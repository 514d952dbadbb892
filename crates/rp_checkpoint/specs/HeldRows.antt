-- Rows whose numbers ascend.
use Rattle.std.specs.Prelude.{ℕ, ◌&&◌, Bool, true, List, [], ◌∷◌, nat_lt, Option, None, Some}
use Rattle.rp_checkpoint.specs.declared.node_data.HeldRow.{HeldRow}

abbrev pub is_above : Option ℕ → ℕ → Bool
is_above None n = true
is_above (Some m) n = nat_lt m n

-- the numbers ascend strictly, the first from above this one
abbrev pub ascend_above : Option ℕ → List HeldRow → Bool
ascend_above before [] = true
ascend_above before (r ∷ more) = is_above before r.number && ascend_above (Some r.number) more

abbrev pub ascend : List HeldRow → Bool
ascend rows = ascend_above None rows
