use Rattle.rp_pattern_tests.specs.Grid.{grid_asked}
use Rattle.rp_pattern_tests.specs.Standing.{Stands}
use Rattle.rp_pattern_tests.proofs.searches.random.through_stages.Given as goal

abbrev pub invariant-stages : goal.invariant-stages
invariant-stages g l = Stands l.search (grid_asked l.grid.first.items l.grid.second.items l.grid.reach l.grid.known l.grid.end l.grid.named) l.grid.entered.items
