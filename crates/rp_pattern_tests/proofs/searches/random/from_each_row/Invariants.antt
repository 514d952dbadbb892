use Rattle.std.proofs.Common.{suc, ◌-◌}
use Rattle.rp_search.specs.Search.{start_of_search}
use Rattle.rp_pattern_tests.specs.Grid.{grid_asked}
use Rattle.rp_pattern_tests.specs.Standing.{Stands}
use Rattle.rp_pattern_tests.proofs.searches.random.from_each_row.Given as goal

abbrev pub invariant-rows : goal.invariant-rows
invariant-rows g l = Stands l.search (grid_asked l.grid.first.items l.grid.second.items l.grid.reach l.grid.known l.grid.end l.grid.named) l.grid.entered.items

abbrev pub decreases-rows : goal.decreases-rows
decreases-rows g l = suc l.grid.known - start_of_search l.search
