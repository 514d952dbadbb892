use Rattle.std.proofs.Common.{◌≤◌, ◌-◌}
use Rattle.rp_search.specs.Search.{start_of_search}
use Rattle.rp_pattern_tests.specs.Grid.{grid_asked}
use Rattle.rp_pattern_tests.specs.Standing.{Stands}
use Rattle.rp_pattern_tests.proofs.searches.random.warm_up.Given as goal

abbrev pub invariant-turns : goal.invariant-turns
invariant-turns g l = Stands l.search (grid_asked l.grid.first.items l.grid.second.items l.grid.reach l.grid.known l.grid.end l.grid.named) l.grid.entered.items × (start_of_search l.search ≤ l.grid.known) × (1 ≤ l.grid.known)

abbrev pub decreases-turns : goal.decreases-turns
decreases-turns g l = 1100 - l.turns
