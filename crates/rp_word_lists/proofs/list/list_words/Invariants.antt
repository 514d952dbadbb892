use Rattle.std.proofs.Common.{◌≡◌, ◌≤◌, ◌++◌, length}
use Rattle.rp_words.specs.PatternForm.{form_of}
use Rattle.rp_words.specs.Words.{words}
use Rattle.rp_pattern.specs.Choices.{kept, remaining, turns_left}
use Rattle.rp_pattern.specs.Ways.{IsNumbered}
use Rattle.rp_word_lists.proofs.list.list_words.Given as goal

-- the words listed, and those to come
abbrev pub invariant-loop-list : goal.invariant-loop-list
invariant-loop-list l = record {
  words : l.list.items ++ remaining l.choices l.last l.end ≡ words l.last l.end (form_of l.pattern) l.row;
  few : length l.list.items ≤ l.cap;
  linked : IsNumbered (kept l.choices) → ⊥;
}

abbrev pub decreases-loop-list : goal.decreases-loop-list
decreases-loop-list l = turns_left l.choices l.last l.end
