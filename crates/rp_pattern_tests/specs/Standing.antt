-- Where a search stands that goes from start row to start row over the tests' own rows.
use Rattle.std.specs.Prelude.{◌≡◌, ◌≤◌, List, IfSome}
use Rattle.rp_words.specs.declared.word.Label.{Label}
use Rattle.rp_search.specs.declared.search.Search.{Search}
use Rattle.rp_search.specs.Asked.{Asked}
use Rattle.rp_search.specs.Fits.{SearchFits}
use Rattle.rp_search.specs.Search.{HasVariablesBelow, IsSearchFor, labels_of_search, start_of_search}

-- It is for the pattern that these rows name, if they name one, it fits what they ask, and its labels are those that were entered.
pub record Stands (s : Search) (asked : Asked) (entered : List Label) : Type 0 where
  pub from_one : 1 ≤ start_of_search s
  pub variables : HasVariablesBelow 2 s
  pub pattern : IfSome asked.pattern (λ f. IsSearchFor f s)
  pub fits : SearchFits s asked
  pub labels : entered ≡ labels_of_search s
