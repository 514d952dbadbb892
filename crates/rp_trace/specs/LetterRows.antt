-- The rows of a line, and what a search asks of them.
use Rattle.std.specs.Prelude.{ℕ, List, length, Some}
use Rattle.rp_words.specs.declared.form.Form.{Form}
use Rattle.rp_words.specs.declared.word.End.TheVariants.{Closed}
use Rattle.rp_words.specs.PatternForm.{form_of}
use Rattle.rp_search.specs.Asked.{Asked}
use Rattle.rp_trace.specs.declared.letters.Letters.{Letters}
use Rattle.rp_trace.specs.Limits.{letter_count}
use Rattle.rp_trace.specs.LetterTest.{letter_test}

-- a line whose letters are the rows, and the pattern whose match is looked for
pub record Sought : Type 0 where
  pub line : List ℕ
  pub form : Form

-- what the letters are tested for
abbrev pub sought_by : Letters → Sought
sought_by letters = record { line = letters.line.now; form = form_of letters.pattern.now }

-- what is asked of a line: a closed partition with a row for each letter, the variables A to Z, and the tests of the letters
abbrev pub asked_of_line : Sought → Asked
asked_of_line sought = record {
  known = length sought.line;
  end = Closed;
  variables = letter_count;
  outcome = letter_test sought.line;
  pattern = Some sought.form;
}
