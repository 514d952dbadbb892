use Rattle.std.proofs.Common.{◌≡◌, drop}
use Rattle.std.specs.Prelude.{nat_eq}
use Rattle.std.specs.List.{list_all}
use Rattle.rp_query.proofs.locality.are_all.Given as goal

abbrev pub invariant-loop-member : goal.invariant-loop-member
invariant-loop-member l = list_all (nat_eq l.variable) (drop l.member-index l.members) ≡ list_all (nat_eq l.variable) l.members
