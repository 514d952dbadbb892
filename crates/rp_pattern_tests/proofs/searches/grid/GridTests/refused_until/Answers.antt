use Rattle.rp_pattern_tests.proofs.Grids.{grid_lasts}
use Rattle.rp_pattern_tests.proofs.searches.grid.GridTests.refused_until.Goals as goal

pub returns-clause-lasts : goal.returns-clause-lasts
returns-clause-lasts c =
    let grid = c.args.self.now in
    grid_lasts grid.first.items grid.second.items grid.reach grid.known grid.end c.args._start c.args._labels.now _ grid.named c.requires.refused
