use Rattle.rp_compile.proofs.OneQuery.{one_query, no_query_with_fault}
use Rattle.rp_compile.proofs.laws.law_compiled.Goals as goal

pub returns-clause-one_query : goal.returns-clause-one_query
returns-clause-one_query c = one_query c.law_lexes.ensures.one_list

pub returns-clause-exclusive : goal.returns-clause-exclusive
returns-clause-exclusive c = no_query_with_fault c.law_lexes.ensures.one_list c.law_lexes.ensures.exclusive

pub returns-clause-patterns : goal.returns-clause-patterns
returns-clause-patterns c = c.law_same_words.ensures
