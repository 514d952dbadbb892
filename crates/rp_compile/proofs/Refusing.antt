-- Faults of the three parts of compiling are told as they are.
use Rattle.std.proofs.Common.{◌≡◌, ◌≢◌, ℕ, List, refl, subst}
use Rattle.rp_value.specs.declared.table.Column.{Column}
use Rattle.rp_lexer.specs.Lexes.{Lexes}
use Rattle.rp_lexer.specs.Faults.{IsFirstFault}
use Rattle.rp_lexer.specs.declared.token.Token.{Token}
use Rattle.rp_lexer.specs.declared.fault.LexFault.{LexFault}
use Rattle.rp_lexer.specs.declared.fault.LexFault.TheVariants as lex_fault
use Rattle.rp_grammar.specs.Reading.{IsFaultIn}
use Rattle.rp_grammar.specs.declared.fault.ParseFault.{ParseFault}
use Rattle.rp_grammar.specs.declared.fault.ParseFault.TheVariants as parse_fault
use Rattle.rp_tree.specs.Clauses.{ClauseTree}
use Rattle.rp_syntax.specs.ClauseGrammar.{Derives}
use Rattle.rp_syntax.specs.Derived.{DerivesNone, DerivesOnly}
use Rattle.rp_resolution.specs.declared.fault.Fault.{Fault}
use Rattle.rp_resolution.specs.declared.fault.CheckFault.{CheckFault}
use Rattle.rp_resolution.specs.Checked.{Tells, first_fault, no_memory}
use Rattle.rp_check.specs.ClauseFaults.{faults}
use Rattle.rp_compile.specs.Compiled.{IsClauseOf, IsCompileFault, told_lex, told_parse, told_check}

pub lexing_fails : (text : List ℕ) (columns : List Column) (why : LexFault) → (why ≢ lex_fault.OutOfMemory → IsFirstFault text why) → IsCompileFault text columns (told_lex why)
lexing_fails text columns (lex_fault.BadChar at) h = h (λ e. cc)
lexing_fails text columns (lex_fault.OpenText at) h = h (λ e. cc)
lexing_fails text columns (lex_fault.OpenName at) h = h (λ e. cc)
lexing_fails text columns (lex_fault.NumberRange at) h = h (λ e. cc)
lexing_fails text columns lex_fault.OutOfMemory h = tt

-- the clause that is derived, of tokens that are those of the text
pub clause_of : (text : List ℕ) (tokens given : List Token) (clause : ClauseTree) → given ≡ tokens → Lexes text tokens
    → Derives text given clause → DerivesOnly text given clause → IsClauseOf text clause
clause_of text tokens given clause same lexed derived only = record {
  tokens = tokens;
  lexed = lexed;
  derived = subst (λ ts. Derives text ts clause) same derived;
  only = subst (λ ts. DerivesOnly text ts clause) same only;
}

module _ (text : List ℕ) (columns : List Column) where
  pub parsing_fails : (tokens : List Token) → Lexes text tokens → (why : ParseFault) → (why ≢ parse_fault.OutOfMemory → DerivesNone text tokens) → IsFaultIn text tokens why → IsCompileFault text columns (told_parse why)
  parsing_fails tokens lexed (parse_fault.Expected at) h place = record { tokens = tokens; lexed = lexed; none = h (λ e. cc); place = place; told = λ e. cc }
  parsing_fails tokens lexed (parse_fault.Deep at) h place = record { tokens = tokens; lexed = lexed; none = h (λ e. cc); place = place; told = λ e. cc }
  parsing_fails tokens lexed parse_fault.OutOfMemory h place = tt

  faulty : (clause : ClauseTree) → IsClauseOf text clause → (why : CheckFault) (fs : List Fault) → faults clause columns ≡ fs → Tells why fs → IsCompileFault text columns (told_check why)
  faulty clause written why fs is (first_fault fault others) = record { clause = clause; written = written; others = others; first = is }
  faulty clause written why fs is (no_memory all) = tt

  pub checking_fails : (clause : ClauseTree) → IsClauseOf text clause → (why : CheckFault) → Tells why (faults clause columns) → IsCompileFault text columns (told_check why)
  checking_fails clause written why told = faulty clause written why (faults clause columns) refl told
