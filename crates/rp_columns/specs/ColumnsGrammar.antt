-- The grammar of a text of columns.
use Rattle.std.specs.Prelude.{ℕ, List, [], ◌∷◌}
use Rattle.rp_lexer.specs.declared.kind.TokenKind.TheVariants as kind
use Rattle.rp_lexer.specs.declared.kind.Mark.TheVariants as mark
use Rattle.rp_grammar.specs.Grammar.{Grammar, ◌then◌, ◌or◌, gives, listed, many, number, one_of, second, word}
use Rattle.rp_grammar.specs.Names.{name, name_in, text_in}
use Rattle.rp_grammar.specs.Texts.{TextDerives}
use Rattle.rp_grammar.specs.declared.written.Name.{Name}
use Rattle.rp_columns.specs.declared.written.Argument.{Argument}
use Rattle.rp_columns.specs.declared.written.Argument.TheVariants as argument_as
use Rattle.rp_columns.specs.declared.written.Called.{Called}
use Rattle.rp_columns.specs.declared.written.Source.{Source}
use Rattle.rp_columns.specs.declared.written.Source.TheVariants as source_as
use Rattle.rp_columns.specs.declared.written.Written.{Written}

-- a reading with what it takes, as plain data
pub record CalledTree : Type 0 where
  pub reading : Name
  pub source : Source
  pub arguments : List Argument

-- a column, as plain data
pub record WrittenTree : Type 0 where
  pub name : Name
  pub called : CalledTree

abbrev pub called_tree : Called → CalledTree
called_tree c = record { reading = c.reading; source = c.source; arguments = c.arguments.items }

abbrev pub written_tree : Written → WrittenTree
written_tree w = record { name = w.name; called = called_tree w.called }

-- a plain name
abbrev pub plain_name : Grammar Name
plain_name = one_of (kind.Name ∷ []) name_in

-- a text literal
abbrev pub literal : Grammar (List ℕ)
literal = one_of (kind.Text ∷ []) text_in

abbrev pub number_argument : Grammar Argument
number_argument = gives argument_as.Number number

abbrev pub text_argument : Grammar Argument
text_argument = gives argument_as.Text literal

-- number | text
unfoldable pub argument : Grammar Argument
argument = number_argument or text_argument

-- ("," argument)*
abbrev pub arguments : Grammar (List Argument)
arguments = many (gives second (word (kind.Mark mark.Comma) then argument))

-- name ("," argument)* ")"
unfoldable pub field_operands : Grammar (Source × List Argument)
field_operands = gives (λ x. (source_as.Field x.0, x.1.0)) (name then arguments then word (kind.Mark mark.RightParenthesis))

-- ")" | name ("," argument)* ")"
unfoldable pub operands : Grammar (Source × List Argument)
operands = gives (λ closed. (source_as.Nothing, [])) (word (kind.Mark mark.RightParenthesis)) or field_operands

-- "=" reading "(" operands
unfoldable pub called_with : Grammar CalledTree
called_with =
    gives (λ x. record { reading = x.1.0; source = x.1.1.1.0; arguments = x.1.1.1.1 })
    (word (kind.Mark mark.Equals) then plain_name then word (kind.Mark mark.LeftParenthesis) then operands)

-- reading
abbrev pub called_alone : Grammar CalledTree
called_alone = gives (λ n. record { reading = n; source = source_as.Own; arguments = [] }) plain_name

unfoldable pub called : Grammar CalledTree
called = called_alone or called_with

-- name (reading | "=" reading "(" (name ("," argument)*)? ")")
unfoldable pub column : Grammar WrittenTree
column = gives (λ x. record { name = x.0; called = x.1 }) (name then called)

-- columns with commas between
abbrev pub columns : Grammar (List WrittenTree)
columns = listed column

-- the tokens of the text derive these columns
abbrev pub AreWritten : List ℕ → List WrittenTree → Type 0
AreWritten text written = TextDerives columns text written
