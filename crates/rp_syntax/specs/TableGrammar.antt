-- The grammar of a table's text, and what is wrong with a text that is none.
use Rattle.std.specs.Prelude.{◌≡◌, ℕ, List, [], ◌∷◌, Option, Some, None, ◌||◌, ◌==◌, codes, if◌then◌else◌}
use Rattle.std.specs.Cmp.Lexicographic.{pointwise}
use Rattle.rp_lexer.specs.Faults.{IsFirstFault}
use Rattle.rp_lexer.specs.Meanings.{bytes_of}
use Rattle.rp_lexer.specs.declared.fault.LexFault.{LexFault}
use Rattle.rp_lexer.specs.declared.fault.LexFault.TheVariants as lex_fault
use Rattle.rp_lexer.specs.declared.kind.TokenKind.TheVariants as token_kind
use Rattle.rp_value.specs.declared.table.Column.{Column}
use Rattle.rp_value.specs.declared.table.TableFault.{TableFault}
use Rattle.rp_value.specs.declared.table.TableFault.TheVariants as table_fault_as
use Rattle.rp_value.specs.declared.value.Kind.{Kind}
use Rattle.rp_value.specs.declared.value.Kind.TheVariants as kind_as
use Rattle.rp_value.specs.Tables.{table_fault}
use Rattle.rp_grammar.specs.Grammar.{Grammar, ◌then◌, gives, listed}
use Rattle.rp_grammar.specs.Meaning.{meaning_of}
use Rattle.rp_grammar.specs.Names.{name, name_meaning}
use Rattle.rp_grammar.specs.Texts.{IsMisplaced, TextDerives}
use Rattle.rp_syntax.specs.declared.table.TableTextFault.{TableTextFault}
use Rattle.rp_syntax.specs.declared.table.TableTextFault.TheVariants as fault

-- INT, INTEGER and BIGINT are whole numbers; TEXT and VARCHAR are texts
abbrev pub kind_called : List ℕ → Option Kind
kind_called n =
    if pointwise ◌==◌ n (codes "INT") || pointwise ◌==◌ n (codes "INTEGER") || pointwise ◌==◌ n (codes "BIGINT") then Some kind_as.Int
    else (if pointwise ◌==◌ n (codes "TEXT") || pointwise ◌==◌ n (codes "VARCHAR") then Some kind_as.Text else None)

-- a plain name that calls a kind, in any case
abbrev pub column_kind : Grammar Kind
column_kind = meaning_of (token_kind.Name ∷ []) (λ text t. kind_called (name_meaning t.kind (bytes_of text t)))

-- name kind
abbrev pub column : Grammar Column
column = gives (λ x. record { name = x.0.text; kind = x.1 }) (name then column_kind)

-- columns with commas between
abbrev pub table : Grammar (List Column)
table = listed column

-- the tokens of the text derive a table of these columns
abbrev pub IsTableText : List ℕ → List Column → Type 0
IsTableText text columns = TextDerives table text columns

-- they derive columns that make no table
pub record IsNoTable (text : List ℕ) (why : TableFault) : Type 0 where
  pub columns : List Column
  pub is : IsTableText text columns
  pub because : table_fault columns ≡ Some why

-- what is wrong with the text, unless memory ran out
abbrev pub IsTextFault : List ℕ → TableTextFault → Type 0
IsTextFault text (fault.Lex why) = IsFirstFault text why
IsTextFault text (fault.Expected at) = IsMisplaced table text at
IsTextFault text (fault.Table why) = IsNoTable text why
IsTextFault text fault.OutOfMemory = Unit {0}

-- how a fault of the tokens and of the columns is told
abbrev pub told_lex : LexFault → TableTextFault
told_lex lex_fault.OutOfMemory = fault.OutOfMemory
told_lex why = fault.Lex why

abbrev pub told_table : TableFault → TableTextFault
told_table table_fault_as.OutOfMemory = fault.OutOfMemory
told_table why = fault.Table why
