use Rattle.std.proofs.Common.{◌≡◌, ℕ, IfSome}
use Rattle.rp_words.specs.declared.word.End.{End}
use Rattle.rp_search.specs.Fits.{SearchFits, left_by}
use Rattle.rp_search.specs.Search.{HasVariablesBelow, IsSearchFor, labels_of_search, start_of_search, turns_from, words_from}
use Rattle.rp_trace.proofs.matching.find.Given as goal

abbrev pub invariant-loop : goal.invariant-loop
invariant-loop g l = record {
  start : start_of_search l.search ≡ start_of_search l.fn.search;
  words : (n : ℕ) (e : End) (row : ℕ) → words_from l.search n e row ≡ words_from l.fn.search n e row;
  turns : (n : ℕ) (e : End) (row : ℕ) → turns_from l.search n e row ≡ turns_from l.fn.search n e row;
  subject : g.T.Tests.subject l.tests ≡ g.T.Tests.subject l.fn.tests;
  variables : HasVariablesBelow (g.T.Tests.asked (g.T.Tests.subject l.fn.tests)).variables l.search;
  pattern : IfSome (g.T.Tests.asked (g.T.Tests.subject l.fn.tests)).pattern (λ f. IsSearchFor f l.search);
  fits : SearchFits l.search (g.T.Tests.asked (g.T.Tests.subject l.fn.tests));
  entered : g.T.Tests.entered l.tests (start_of_search l.search) (labels_of_search l.search);
}

abbrev pub decreases-loop : goal.decreases-loop
decreases-loop g l = left_by l.search (g.T.Tests.asked (g.T.Tests.subject l.tests))
