use Rattle.std.proofs.Common.{◌≡◌}
use Rattle.rp_pattern_tests.specs.Grid.{grid_asked}
use Rattle.rp_search.specs.Search.{CanRun, IsSameSearch}
use Rattle.rp_search.specs.declared.search.Outcome.TheVariants.{Paused}
use Rattle.rp_pattern_tests.proofs.searches.script.decide.Given as goal

abbrev pub invariant-runs : goal.invariant-runs
invariant-runs g l =
    CanRun l.search (grid_asked l.grid.first.items l.grid.second.items l.grid.reach l.grid.known l.grid.end l.grid.named) (λ start labels. l.grid.entered.items ≡ labels)
    × IsSameSearch l.fn.search l.search
    × (grid_asked l.grid.first.items l.grid.second.items l.grid.reach l.grid.known l.grid.end l.grid.named
    ≡ grid_asked l.fn.grid.first.items l.fn.grid.second.items l.fn.grid.reach l.fn.grid.known l.fn.grid.end l.fn.grid.named)
    × (l.decided.outcome ≡ Paused)
