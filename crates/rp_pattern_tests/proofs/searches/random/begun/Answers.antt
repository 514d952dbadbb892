use Rattle.std.proofs.Common.{◌∙◌, sym, arith}
use Rattle.rp_words.specs.PatternForm.{form_of}
use Rattle.rp_pattern_tests.proofs.Standing.{named_search}
use Rattle.rp_pattern_tests.proofs.searches.random.begun.Goals as goal

pub returns-clause-stands : goal.returns-clause-stands
returns-clause-stands c = record {
  from_one = omega (arith, c.in_ok-search.ensures.start);
  variables = c.law_search.ensures.variables (form_of c.args.pattern.now) c.in_ok-search.search 2
      (c.in_ok-search.ensures.pattern (form_of c.args.pattern.now) c.requires.prepared) c.requires.variables;
  pattern = named_search c.args.grid.now.named (form_of c.args.pattern.now) c.in_ok-search.search c.requires.named (c.in_ok-search.ensures.pattern (form_of c.args.pattern.now) c.requires.prepared);
  fits = c.in_ok-search.ensures.at_start.fits _;
  labels = c.requires.none ∙ sym c.in_ok-search.ensures.at_start.labels;
}
