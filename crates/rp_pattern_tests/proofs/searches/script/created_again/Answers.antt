use Rattle.rp_words.specs.PatternForm.{form_of}
use Rattle.rp_pattern_tests.proofs.searches.script.created_again.Goals as goal

pub returns-in-Ok-clause-variables : goal.returns-in-Ok-clause-variables
returns-in-Ok-clause-variables c = c.law_search.ensures.variables (form_of c.args.pattern.now) c.in-Ok.search 2 c.in-Ok.ensures.pattern c.requires
