-- A search that stands may run, and what a run leaves stands.
use Rattle.std.proofs.Common.{◌≡◌, ◌≤◌, ◌∙◌, ◌+◌, ℕ, List, length, Option, Some, None, IfSome, ap, sym, subst}
use Rattle.std.specs.List.{AllByRecursion}
use Rattle.rp_words.specs.declared.form.Form.{Form}
use Rattle.rp_words.specs.declared.word.End.{End}
use Rattle.rp_words.specs.declared.word.Label.{Label}
use Rattle.rp_words.specs.declared.word.Seen.{Seen}
use Rattle.rp_words.specs.LabelLaws.{IsBelow}
use Rattle.rp_words.specs.Mapping.{Mapping}
use Rattle.rp_words.specs.SameTree.{IsSameTree}
use Rattle.rp_words.specs.Turns.{turns}
use Rattle.rp_words.specs.Words.{words}
use Rattle.rp_search.specs.declared.search.Search.{Search}
use Rattle.rp_search.specs.Asked.{Asked}
use Rattle.rp_search.specs.Search.{CanRun, HasVariablesBelow, IsForSamePattern, IsSearchFor, start_of_search}
use Rattle.rp_pattern_tests.specs.Grid.{grid_asked}
use Rattle.rp_pattern_tests.specs.Standing.{Stands}

module _ (first second : List Seen) (reach known : ℕ) (end : End) (named : Option Form) where
  abbrev asked : Asked
  asked = grid_asked first second reach known end named

  pub may_run : (s : Search) (entered : List Label) → Stands s asked entered → start_of_search s ≤ known → CanRun s asked (λ start labels. entered ≡ labels)
  may_run s entered stands le = record {
    known = le;
    variables = stands.variables;
    pattern = stands.pattern;
    fits = stands.fits;
    entered = stands.labels;
  }

-- the variables of the same pattern
pub variables_stay : (old new : Search) → IsForSamePattern old new → HasVariablesBelow 2 old → HasVariablesBelow 2 new
variables_stay old new same below n e row = subst (λ ws. AllByRecursion (IsBelow 2) ws) (sym (same.words n e row)) (below n e row)

-- a search for the pattern that is named, if one is
pub named_search : (o : Option Form) (f : Form) (s : Search) → IfSome o (IsSameTree f) → IsSearchFor f s → IfSome o (λ g. IsSearchFor g s)
named_search None f s same is = tt
named_search (Some g) f s same is = record {
  same_words = λ n e row. is.same_words n e row ∙ sym (ap (λ (ws : ℕ → List Mapping). ws row) (same.words n e));
  same_turns = λ n e row. is.same_turns n e row
      ∙ sym (ap (λ (ts : ℕ → ℕ). ts row + length (words n e g row)) (same.turns n e) ∙ ap (λ (ws : ℕ → List Mapping). turns n e f row + length (ws row)) (same.words n e));
}

-- it stays one for the same pattern
pub searched_stays : (o : Option Form) (old new : Search) → IsForSamePattern old new → IfSome o (λ f. IsSearchFor f old) → IfSome o (λ f. IsSearchFor f new)
searched_stays None old new same is = tt
searched_stays (Some f) old new same is = record {
  same_words = λ n e row. same.words n e row ∙ is.same_words n e row;
  same_turns = λ n e row. same.turns n e row ∙ is.same_turns n e row;
}
