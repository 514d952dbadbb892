use Rattle.std.proofs.Common.{◌≡◌, ◌++◌}
use Rattle.std.specs.List.{filter}
use Rattle.std.specs.Vec.Iter.{into_iter_items}
use Rattle.rp_filter.specs.Meets.{meets}
use Rattle.rp_filter.proofs.filter.Filter.keep.Given as goal

abbrev pub invariant-loop-row : goal.invariant-loop-row
invariant-loop-row l = record {
  kept : l.kept.items ≡ filter (meets l.fn.self.query) l.yielded;
  left : l.yielded ++ into_iter_items l.row-iterator ≡ l.fn.rows.items;
}
