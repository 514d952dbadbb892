-- The grammar of a text of columns is lawful.
use Rattle.std.proofs.Common.{ℕ, List, refl}
use Rattle.rp_lexer.specs.declared.kind.TokenKind.TheVariants as kind
use Rattle.rp_lexer.specs.declared.kind.Mark.TheVariants as mark
use Rattle.rp_grammar.proofs.Laws.{Lawful, one_lawful, word_lawful, number_lawful, then_lawful, or_lawful, gives_lawful, many_lawful, listed_lawful}
use Rattle.rp_columns.specs.ColumnsGrammar.{argument, arguments, called, called_with, column, columns, field_operands, operands}

argument_lawful : (text : List ℕ) → Lawful text argument
unfolding argument
argument_lawful text = or_lawful _ _ (gives_lawful _ _ number_lawful) (gives_lawful _ _ (one_lawful _ _)) refl refl

arguments_lawful : (text : List ℕ) → Lawful text arguments
unfolding argument
arguments_lawful text = many_lawful _ (gives_lawful _ _ (then_lawful _ _ (word_lawful (kind.Mark mark.Comma)) (argument_lawful text) refl)) refl refl

operands_lawful : (text : List ℕ) → Lawful text operands
unfolding operands field_operands argument
operands_lawful text =
    or_lawful _ _ (gives_lawful _ _ (word_lawful (kind.Mark mark.RightParenthesis)))
    (gives_lawful _ _ (then_lawful _ _ (one_lawful _ _) (then_lawful _ _ (arguments_lawful text) (word_lawful (kind.Mark mark.RightParenthesis)) refl) refl)) refl refl

called_with_lawful : (text : List ℕ) → Lawful text called_with
unfolding called_with operands field_operands argument
called_with_lawful text =
    gives_lawful _ _ (then_lawful _ _ (word_lawful (kind.Mark mark.Equals)) (then_lawful _ _ (one_lawful _ _) (then_lawful _ _ (word_lawful (kind.Mark mark.LeftParenthesis)) (operands_lawful text) refl) refl) refl)

called_lawful : (text : List ℕ) → Lawful text called
unfolding called called_with operands field_operands argument
called_lawful text = or_lawful _ _ (gives_lawful _ _ (one_lawful _ _)) (called_with_lawful text) refl refl

column_lawful : (text : List ℕ) → Lawful text column
unfolding column called called_with operands field_operands argument
column_lawful text = gives_lawful _ _ (then_lawful _ _ (one_lawful _ _) (called_lawful text) refl)

pub columns_lawful : (text : List ℕ) → Lawful text columns
unfolding column called called_with operands field_operands argument
columns_lawful text = listed_lawful column (column_lawful text) refl refl
