-- Inside: what the places of a program stand for: what is left of the pattern from there on, as its words and its turns.
use Rattle.std.specs.Prelude.{ℕ, false, List, [], ◌∷◌, ◌++◌, get_or, Option, Some, None}
use Rattle.rp_words.specs.declared.form.Form.TheVariants as form
use Rattle.rp_words.specs.declared.word.End.{End}
use Rattle.rp_words.specs.Words.{further}
use Rattle.rp_words.specs.Turns.{WordsAndTurns, iterations}
use Rattle.rp_program.specs.declared.place.Place.{Place}
use Rattle.rp_program.specs.declared.place.Place.TheVariants.{Match, Row, Split, RowSplit, PartitionStart, PartitionEnd, Loop}
use Rattle.rp_program.specs.Parts.{form_part, nothing_left, no_way, joined, either, from_row}

-- the part that a place stands for
abbrev pub at : List WordsAndTurns → ℕ → WordsAndTurns
at ps q = get_or ps q no_way

-- the same, if there is a place
abbrev pub at_option : List WordsAndTurns → Option ℕ → WordsAndTurns
at_option ps None = no_way
at_option ps (Some q) = at ps q

-- what a place makes of the parts that other places stand for
abbrev pub made : ℕ → End → List WordsAndTurns → Place → WordsAndTurns
made n e ps Match = nothing_left
made n e ps (Row var excluded next) = joined (form_part n e (form.Variable var) excluded) (at ps next)
made n e ps (Split preferred other) = either (at ps preferred) (at ps other)
made n e ps (RowSplit preferred other others) = from_row n e others (either (at ps preferred) (at ps other))
made n e ps (PartitionStart next) = joined (form_part n e form.PartitionStart false) (at ps next)
made n e ps (PartitionEnd next) = joined (form_part n e form.PartitionEnd false) (at_option ps next)
made n e ps (Loop preferred other body excluded reluctant next) = either (at ps preferred) (at ps other)

-- what a place stands for, by the parts that earlier places stand for: a loop for its iterations, and any other for what
-- it makes of them
abbrev pub stands_for : ℕ → End → List WordsAndTurns → Place → WordsAndTurns
stands_for n e ps (Loop preferred other body excluded reluctant next) =
    joined (iterations 0 (further n 0 None) reluctant (form_part n e body.value excluded)) (at ps next)
stands_for n e ps place = made n e ps place

-- what these places stand for, behind the parts of earlier ones
abbrev pub parts_behind : ℕ → End → List WordsAndTurns → List Place → List WordsAndTurns
parts_behind n e ps [] = ps
parts_behind n e ps (place ∷ places) = parts_behind n e (ps ++ stands_for n e ps place ∷ []) places

-- what each of these places stands for
abbrev pub parts : ℕ → End → List Place → List WordsAndTurns
parts n e places = parts_behind n e [] places
