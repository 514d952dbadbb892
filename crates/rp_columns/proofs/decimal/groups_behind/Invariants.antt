use Rattle.std.proofs.Common.{◌≡◌, length}
use Rattle.rp_columns.specs.Decimals.{groups_behind}
use Rattle.rp_columns.proofs.Numbers.{Continues}
use Rattle.rp_columns.proofs.decimal.groups_behind.Given as goal

abbrev pub invariant-groups : goal.invariant-groups
invariant-groups l = record {
  value : Continues l.fn.before (groups_behind l.fn.mark l.fn.bytes).0 l.value (groups_behind l.fn.mark l.rest).0;
  rest : (groups_behind l.fn.mark l.rest).1 ≡ (groups_behind l.fn.mark l.fn.bytes).1;
}

abbrev pub decreases-groups : goal.decreases-groups
decreases-groups l = length l.rest
