use Rattle.std.proofs.Common.{◌∙◌, IfSome, ap, sym, refl, subst, arith}
use Rattle.rp_search.specs.Asked.{Asked}
use Rattle.rp_search.specs.Search.{IsSearchFor}
use Rattle.rp_pattern_tests.proofs.Standing.{may_run, searched_stays, variables_stay}
use Rattle.rp_pattern_tests.proofs.searches.random.one_run.Goals as goal

pub run-requires : goal.run-requires
run-requires g c = may_run c.args.grid.now.first.items c.args.grid.now.second.items c.args.grid.now.reach c.args.grid.now.known c.args.grid.now.end c.args.grid.now.named c.args.search.now c.args.grid.now.entered.items c.requires.stands c.requires.start

pub returns-clause-stands : goal.returns-clause-stands
returns-clause-stands g c = record {
  from_one = omega (arith, c.restart.ensures.start);
  variables = variables_stay c.run.new.self c.restart.new.self c.restart.ensures.pattern
      (variables_stay c.args.search.now c.run.new.self c.in_ok-run.ensures.same.pattern c.requires.stands.variables);
  pattern = subst (λ (a : Asked). IfSome a.pattern (λ f. IsSearchFor f c.restart.new.self)) (sym (c.cut.ensures.subject ∙ c.in_ok-run.ensures.subject))
      (searched_stays c.args.grid.now.named c.run.new.self c.restart.new.self c.restart.ensures.pattern
      (searched_stays c.args.grid.now.named c.args.search.now c.run.new.self c.in_ok-run.ensures.same.pattern c.requires.stands.pattern));
  fits = c.restart.ensures.at_start.fits _;
  labels = c.cut.ensures.none refl 1 ∙ sym c.restart.ensures.at_start.labels;
}

pub returns-clause-known : goal.returns-clause-known
returns-clause-known g c = ap (λ (a : Asked). a.known) (c.cut.ensures.subject ∙ c.in_ok-run.ensures.subject)
