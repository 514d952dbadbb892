use Rattle.std.specs.Prelude.{List}
use Rattle.rp_value.specs.declared.value.Value.{Value}
use Rattle.rp_promise.proofs.ByText.{Below, answers_are_one, both_give_fronts, calls_are_by_text}
use Rattle.rp_promise.proofs.law_promise.Goals as goal

below : goal.After-law_same_query → Below (List Value)
below c = record {
  one_query = c.law_compiled.ensures.one_query;
  known = c.law_same_query.ensures.known;
  calls = c.law_same_query.ensures.calls;
  runs = c.law_schedules.ensures.runs;
}

pub returns-clause-one_answer : goal.returns-clause-one_answer
returns-clause-one_answer c = answers_are_one (below c)

pub returns-clause-both : goal.returns-clause-both
returns-clause-both c = both_give_fronts (below c)

pub returns-clause-calls : goal.returns-clause-calls
returns-clause-calls c = calls_are_by_text (below c)
