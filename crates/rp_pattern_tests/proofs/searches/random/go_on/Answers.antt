use Rattle.std.proofs.Common.{◌∙◌, IfSome, ap, sym, refl, subst, rules}
use Rattle.rp_search.specs.Asked.{Asked}
use Rattle.rp_search.specs.Fits.{SearchFits}
use Rattle.rp_search.specs.Search.{IsSearchFor}
use Rattle.rp_pattern_tests.specs.Grid.{grid_asked}
use Rattle.rp_pattern_tests.proofs.Standing.{searched_stays, variables_stay}
use Rattle.rp_pattern_tests.proofs.searches.random.go_on.Goals as goal

pub returns-clause-stands : goal.returns-clause-stands
returns-clause-stands c = record {
  from_one = search rules;
  variables = variables_stay c.args.search.now c.move_to.new.self c.move_to.ensures.pattern c.requires.stands.variables;
  pattern = subst (λ (a : Asked). IfSome a.pattern (λ f. IsSearchFor f c.move_to.new.self)) (sym c.cut.ensures.subject)
      (searched_stays c.args.grid.now.named c.args.search.now c.move_to.new.self c.move_to.ensures.pattern c.requires.stands.pattern);
  fits = subst (λ (a : Asked). SearchFits c.move_to.new.self a) (sym c.cut.ensures.subject) (c.move_to.ensures.moved.fits (grid_asked c.args.grid.now.first.items c.args.grid.now.second.items c.args.grid.now.reach c.args.grid.now.known c.args.grid.now.end c.args.grid.now.named) c.requires.stands.fits);
  labels = c.cut.ensures.none refl 1 ∙ sym c.move_to.ensures.moved.labels;
}

pub returns-clause-known : goal.returns-clause-known
returns-clause-known c = ap (λ (a : Asked). a.known) c.cut.ensures.subject
