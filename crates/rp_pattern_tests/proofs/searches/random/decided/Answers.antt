use Rattle.std.proofs.Common.{ap, arith}
use Rattle.rp_search.specs.Asked.{Asked}
use Rattle.rp_pattern_tests.proofs.Standing.{may_run}
use Rattle.rp_pattern_tests.proofs.searches.random.decided.Goals as goal

pub decide-requires : goal.decide-requires
decide-requires g c = record { can_run = may_run c.args.grid.now.first.items c.args.grid.now.second.items c.args.grid.now.reach c.args.grid.now.known c.args.grid.now.end c.args.grid.now.named c.args.search.now c.args.grid.now.entered.items c.requires.stands c.requires.start }

pub returns-clause-stands : goal.returns-clause-stands
returns-clause-stands g c = record {
  from_one = omega (arith, c.in_ok-decide.ensures.same.start, c.requires.stands.from_one);
  variables = c.in_ok-decide.ensures.can_run.variables;
  pattern = c.in_ok-decide.ensures.can_run.pattern;
  fits = c.in_ok-decide.ensures.can_run.fits;
  labels = c.in_ok-decide.ensures.can_run.entered;
}

pub returns-clause-known : goal.returns-clause-known
returns-clause-known g c = ap (λ (a : Asked). a.known) c.in_ok-decide.ensures.subject
