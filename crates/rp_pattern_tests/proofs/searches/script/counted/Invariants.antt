use Rattle.std.proofs.Common.{◌≡◌, IfSome}
use Rattle.rp_pattern_tests.specs.Grid.{grid_asked}
use Rattle.rp_search.specs.Fits.{SearchFits}
use Rattle.rp_search.specs.Search.{HasVariablesBelow, IsSearchFor, start_of_search, labels_of_search}
use Rattle.rp_pattern_tests.proofs.searches.script.counted.Given as goal

abbrev pub invariant-stages : goal.invariant-stages
invariant-stages g l =
    (start_of_search l.search ≡ 1)
    × (l.grid.entered.items ≡ labels_of_search l.search)
    × HasVariablesBelow 2 l.search
    × IfSome l.grid.named (λ f. IsSearchFor f l.search)
    × SearchFits l.search (grid_asked l.grid.first.items l.grid.second.items l.grid.reach l.grid.known l.grid.end l.grid.named)
