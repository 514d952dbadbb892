-- What is asked, and of which rows. Which rows meet a condition is ISO/IEC 9075-2:2016, 7.12 <where clause>; that several inputs are
-- asked as one that has the rows of all: own.
use Rattle.std.specs.Prelude.{◌≡◌, ⊤, ℕ, List, Option, Some, None}
use Rattle.std.specs.List.{filter}
use Rattle.rp_value.specs.declared.table.Column.{Column}
use Rattle.rp_value.specs.declared.value.Value.{Value}
use Rattle.rp_query.specs.declared.query.QueryData.{QueryData}
use Rattle.rp_compile.specs.Compiled.{IsCompileFault, IsCompiled}
use Rattle.rp_filter.specs.Faults.{IsFilterFault}
use Rattle.rp_filter.specs.Meets.{clause_of, meets}
use Rattle.rp_filter.specs.declared.fault.FilterFault.{FilterFault}
use Rattle.rp_filter.specs.declared.filter.Filter.{Filter}
use Rattle.rp_question.specs.Inputs.{AreTextsOf, InputsSeen}
use Rattle.rp_question.specs.Read.{AreRowsOfAll}
use Rattle.rp_question.specs.declared.fault.QuestionFault.{QuestionFault}
use Rattle.rp_question.specs.declared.fault.QuestionFault.TheVariants.{Clause, Condition}
use Rattle.rp_question.specs.declared.question.Question.{Question}

-- the filter is that of the condition's text; there is none where there is no text
abbrev pub IsFilterOf : Option (List ℕ) → List Column → Option Filter → Type 0
IsFilterOf None columns None = ⊤
IsFilterOf (Some text) columns (Some f) = IsCompiled (clause_of text) columns f.query
IsFilterOf _ columns _ = ⊥

-- the rows that meet the condition, in their order; all where there is none
abbrev pub kept : Option Filter → List (List Value) → List (List Value)
kept None rows = rows
kept (Some f) rows = filter (meets f.query) rows

-- the rows that are asked of, where the inputs have these texts: those of all that meet the condition
pub record AreRowsAsked (question : Question) (texts : List (List ℕ)) (rows : List (List Value)) : Type 0 where
  pub all : List (List Value)
  pub read : AreRowsOfAll question.reading texts all
  pub are : rows ≡ kept question.filter all

-- These are the rows that are asked of inputs: those asked of some texts, which are those of the inputs that are known.
pub record AreRowsOfInputs (question : Question) (inputs : InputsSeen) (rows : List (List Value)) : Type 0 where
  pub texts : List (List ℕ)
  pub are : AreTextsOf inputs texts
  pub asked : AreRowsAsked question texts rows

-- why there is no filter of a condition's text
abbrev pub IsFaultOfFilter : Option (List ℕ) → List Column → FilterFault → Type 0
IsFaultOfFilter None columns why = ⊥
IsFaultOfFilter (Some text) columns why = IsFilterFault text columns why

-- why two texts make no question: the first fault of the clause; or, where the clause is a query, the fault of the condition
abbrev pub IsQuestionFault : (clause : List ℕ) (condition : Option (List ℕ)) → List Column → QuestionFault → Type 0
IsQuestionFault clause condition columns (Clause why) = IsCompileFault clause columns why
IsQuestionFault clause condition columns (Condition why) = IsFaultOfFilter condition columns why × (q : QueryData) × IsCompiled clause columns q
