use Rattle.std.proofs.Common.{arith}
use Rattle.rp_pattern_tests.proofs.searches.random.is_listed.Goals as goal

pub list_words-requires-clause-known : goal.list_words-requires-clause-known
list_words-requires-clause-known c = omega (arith, c.requires.start, c.start-start.ensures, c.rows.ensures.known)
