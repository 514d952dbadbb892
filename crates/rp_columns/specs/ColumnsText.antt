-- The columns of a text, and what is wrong with a text that has none.
use Rattle.std.specs.Prelude.{◌≡◌, ⊤, ℕ, List, Some}
use Rattle.rp_lexer.specs.Faults.{IsFirstFault}
use Rattle.rp_value.specs.declared.table.TableFault.{TableFault}
use Rattle.rp_value.specs.Tables.{table_fault}
use Rattle.rp_grammar.specs.Texts.{IsMisplaced}
use Rattle.rp_columns.specs.ColumnsGrammar.{AreWritten, WrittenTree, columns}
use Rattle.rp_columns.specs.Headings.{headings}
use Rattle.rp_columns.specs.Resolved.{AreColumns, IsUnknown}
use Rattle.rp_columns.specs.declared.columns.InputColumn.{InputColumn}
use Rattle.rp_columns.specs.declared.columns_text.ColumnsFault.{ColumnsFault}
use Rattle.rp_columns.specs.declared.columns_text.ColumnsFault.TheVariants as fault

-- the text is written so, and means these columns
pub record AreColumnsOf (text : List ℕ) (columns : List InputColumn) : Type 0 where
  pub written : List WrittenTree
  pub is : AreWritten text written
  pub mean : AreColumns written columns

-- a word of it calls no reading that takes what stands behind it; those before it do
pub record IsNoReading (text : List ℕ) (at : ℕ) : Type 0 where
  pub written : List WrittenTree
  pub is : AreWritten text written
  pub first : IsUnknown written at

-- its columns make no table
pub record MakeNoTable (text : List ℕ) (why : TableFault) : Type 0 where
  pub columns : List InputColumn
  pub are : AreColumnsOf text columns
  pub because : table_fault (headings columns) ≡ Some why

-- what is wrong with the text, unless memory ran out
abbrev pub IsColumnsFault : List ℕ → ColumnsFault → Type 0
IsColumnsFault text (fault.Lex why) = IsFirstFault text why
IsColumnsFault text (fault.Expected at) = IsMisplaced columns text at
IsColumnsFault text (fault.Reading at) = IsNoReading text at
IsColumnsFault text (fault.Table why) = MakeNoTable text why
IsColumnsFault text fault.OutOfMemory = ⊤

-- what is wrong with columns as they are written, unless memory ran out
abbrev pub IsUnresolved : List WrittenTree → ColumnsFault → Type 0
IsUnresolved written (fault.Reading at) = IsUnknown written at
IsUnresolved written fault.OutOfMemory = ⊤
IsUnresolved written _ = ⊥
