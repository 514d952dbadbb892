-- What compiling the text of a clause comes to: its tokens, the clause that they derive, and the query of that clause.
use Rattle.std.specs.Prelude.{◌≡◌, ◌≢◌, ℕ, List, [], ◌∷◌}
use Rattle.rp_value.specs.declared.table.Column.{Column}
use Rattle.rp_lexer.specs.Lexes.{Lexes}
use Rattle.rp_lexer.specs.Faults.{IsFirstFault}
use Rattle.rp_lexer.specs.declared.token.Token.{Token}
use Rattle.rp_lexer.specs.declared.fault.LexFault.{LexFault}
use Rattle.rp_lexer.specs.declared.fault.LexFault.TheVariants as lex_fault
use Rattle.rp_grammar.specs.Reading.{IsFaultIn}
use Rattle.rp_grammar.specs.declared.fault.ParseFault.{ParseFault}
use Rattle.rp_grammar.specs.declared.fault.ParseFault.TheVariants as parse_fault
use Rattle.rp_tree.specs.Clauses.{ClauseTree}
use Rattle.rp_syntax.specs.ClauseGrammar.{Derives}
use Rattle.rp_syntax.specs.Derived.{DerivesNone, DerivesOnly}
use Rattle.rp_resolution.specs.declared.fault.Fault.{Fault}
use Rattle.rp_resolution.specs.declared.fault.CheckFault.{CheckFault}
use Rattle.rp_resolution.specs.declared.fault.CheckFault.TheVariants as check_fault
use Rattle.rp_compile.specs.declared.compiling.CompileFault.{CompileFault}
use Rattle.rp_compile.specs.declared.compiling.CompileFault.TheVariants as fault
use Rattle.rp_query.specs.declared.query.QueryData.{QueryData}
use Rattle.rp_check.specs.ClauseFaults.{faults}
use Rattle.rp_check.specs.QueryOf.{IsQueryOf}

-- the text's tokens derive this clause, and no other
pub record IsClauseOf (text : List ℕ) (clause : ClauseTree) : Type 0 where
  pub tokens : List Token
  pub lexed : Lexes text tokens
  pub derived : Derives text tokens clause
  pub only : DerivesOnly text tokens clause

-- the query is that of the text's clause, and this has no fault
pub record IsCompiled (text : List ℕ) (columns : List Column) (query : QueryData) : Type 0 where
  pub clause : ClauseTree
  pub written : IsClauseOf text clause
  pub clean : faults clause columns ≡ []
  pub is : IsQueryOf clause text columns query

-- the text's tokens derive no clause
pub record IsNoClause (text : List ℕ) (why : ParseFault) : Type 0 where
  pub tokens : List Token
  pub lexed : Lexes text tokens
  pub none : DerivesNone text tokens
  pub place : IsFaultIn text tokens why
  pub told : why ≢ parse_fault.OutOfMemory

-- this is the first fault of the text's clause
pub record IsFaulty (text : List ℕ) (columns : List Column) (why : Fault) : Type 0 where
  pub clause : ClauseTree
  pub written : IsClauseOf text clause
  pub others : List Fault
  pub first : faults clause columns ≡ why ∷ others

-- what is wrong with the text; being out of memory says nothing of it
abbrev pub IsCompileFault : List ℕ → List Column → CompileFault → Type 0
IsCompileFault text columns (fault.Lex why) = IsFirstFault text why
IsCompileFault text columns (fault.Parse why) = IsNoClause text why
IsCompileFault text columns (fault.Check why) = IsFaulty text columns why
IsCompileFault text columns fault.OutOfMemory = Unit {0}

-- how the faults of the three are told
abbrev pub told_lex : LexFault → CompileFault
told_lex lex_fault.OutOfMemory = fault.OutOfMemory
told_lex why = fault.Lex why

abbrev pub told_parse : ParseFault → CompileFault
told_parse parse_fault.OutOfMemory = fault.OutOfMemory
told_parse why = fault.Parse why

abbrev pub told_check : CheckFault → CompileFault
told_check (check_fault.Fault why) = fault.Check why
told_check check_fault.OutOfMemory = fault.OutOfMemory
