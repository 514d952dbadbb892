-- Inside: what contracts see of a matcher.
use Rattle.std.specs.Prelude.{ℕ, refl}
use Rattle.std.specs.Coded.{Coded, code_by, coded×, coded_list, coded_ℕ}
use Rattle.rp_value.specs.contracts.value.Value.{the_row as value_row}
use Rattle.rp_words.specs.declared.word.End.{End}
use Rattle.rp_words.specs.contracts.word.End.{the_row as end_row}
use Rattle.rp_eval.specs.Partition.{Rows}
use Rattle.rp_query.specs.declared.query.QueryData.{QueryData}
use Rattle.rp_query.specs.contracts.query.QueryData.{the_row as query_row}
use Rattle.rp_known.specs.Known.{Known}
use Rattle.rp_walker.specs.declared.record.MatcherState.{MatcherState}
use Rattle.rp_walker.specs.contracts.record.MatcherState.{the_row as state_row}

-- What contracts see of a matcher.
pub record MatcherData : Type 0 where
  pub query : QueryData
  -- the rows that are known to it, those that were dropped without their cells, and their end
  pub known : Known
  pub state : MatcherState
  -- the turns that it has left over the known rows, at most
  pub left : ℕ
  -- how many calls of `enter` its searches have made, by the count of their tests
  pub entered : ℕ

abbrev known_code : Coded Known
known_code =
    code_by (Rows × End) (coded× (coded_list (coded_list value_row.coded)) end_row.coded)
    (λ k. (k.rows, k.end)) (λ t. record { rows = t.0; end = t.1 }) (λ _. refl)

-- The logic stores it as its fields, in pairs: no code is found for a pattern, which holds itself.
abbrev pub matcher_code : Coded MatcherData
matcher_code =
    code_by (QueryData × (Known × (MatcherState × (ℕ × ℕ))))
    (coded× query_row.coded (coded× known_code (coded× state_row.coded (coded× coded_ℕ coded_ℕ))))
    (λ m. (m.query, (m.known, (m.state, (m.left, m.entered)))))
    (λ t. record { query = t.0; known = t.1.0; state = t.1.1.0; left = t.1.1.1.0; entered = t.1.1.1.1 }) (λ _. refl)
