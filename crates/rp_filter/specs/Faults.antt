-- Why a text is no condition of a row. Own: the condition is read as that of a clause, whose first fault is reported with its offset in the
-- condition.
use Rattle.std.specs.Prelude.{◌≡◌, ◌≢◌, ⊤, ℕ, ◌-◌, List, [], length}
use Rattle.rp_value.specs.declared.table.Column.{Column}
use Rattle.rp_lexer.specs.declared.fault.LexFault.{LexFault}
use Rattle.rp_lexer.specs.declared.fault.LexFault.TheVariants as lex
use Rattle.rp_grammar.specs.declared.fault.ParseFault.{ParseFault}
use Rattle.rp_grammar.specs.declared.fault.ParseFault.TheVariants as parse
use Rattle.rp_query.specs.Locality.{ConditionsAreLocal}
use Rattle.rp_query.specs.LooksBack.{ConditionsLookBack}
use Rattle.rp_query.specs.declared.locality.Locality.TheVariants.{Row}
use Rattle.rp_query.specs.declared.query.QueryData.{QueryData}
use Rattle.rp_resolution.specs.declared.fault.Fault.{Fault}
use Rattle.rp_compile.specs.Compiled.{IsCompileFault, IsCompiled}
use Rattle.rp_compile.specs.declared.compiling.CompileFault.{CompileFault}
use Rattle.rp_compile.specs.declared.compiling.CompileFault.TheVariants as compile
use Rattle.rp_filter.specs.Meets.{clause_of}
use Rattle.rp_filter.specs.declared.fault.FilterFault.{FilterFault}
use Rattle.rp_filter.specs.declared.fault.FilterFault.TheVariants as filter

-- the offset in a condition, by that in the clause that it is read as
abbrev pub offset_in : ℕ → ℕ
offset_in at = at - length (clause_of [])

abbrev pub lex_in_condition : LexFault → LexFault
lex_in_condition (lex.BadChar at) = lex.BadChar (offset_in at)
lex_in_condition (lex.OpenText at) = lex.OpenText (offset_in at)
lex_in_condition (lex.OpenName at) = lex.OpenName (offset_in at)
lex_in_condition (lex.NumberRange at) = lex.NumberRange (offset_in at)
lex_in_condition lex.OutOfMemory = lex.OutOfMemory

abbrev pub parse_in_condition : ParseFault → ParseFault
parse_in_condition (parse.Expected at) = parse.Expected (offset_in at)
parse_in_condition (parse.Deep at) = parse.Deep (offset_in at)
parse_in_condition parse.OutOfMemory = parse.OutOfMemory

abbrev pub fault_in_condition : Fault → Fault
fault_in_condition why = record { kind = why.kind; offset = offset_in why.offset }

-- a fault of the clause, with its offset in the condition
abbrev pub in_condition : CompileFault → CompileFault
in_condition (compile.Lex why) = compile.Lex (lex_in_condition why)
in_condition (compile.Parse why) = compile.Parse (parse_in_condition why)
in_condition (compile.Check why) = compile.Check (fault_in_condition why)
in_condition compile.OutOfMemory = compile.OutOfMemory

-- the first fault of the clause that a text is read as, with its offset in the condition
pub record IsConditionFault (text : List ℕ) (columns : List Column) (why : CompileFault) : Type 0 where
  pub of_clause : CompileFault
  pub is : IsCompileFault (clause_of text) columns of_clause
  pub told : of_clause ≢ compile.OutOfMemory
  pub offset : why ≡ in_condition of_clause

-- the conditions look at no row but the one that they judge: none counts or goes from others, none goes on or back from it
pub record LookAtOwnRow (q : QueryData) : Type 0 where
  pub local : ConditionsAreLocal Row q.plan
  pub ahead : ConditionsLookBack q.plan
  pub back : q.reach ≡ 0

-- Why a text is no condition of a row: its first fault; or it is a condition, which looks at other rows than its own. Being out of memory
-- says nothing of it.
abbrev pub IsFilterFault : List ℕ → List Column → FilterFault → Type 0
IsFilterFault text columns (filter.Condition why) = IsConditionFault text columns why
IsFilterFault text columns filter.OtherRows = (q : QueryData) × IsCompiled (clause_of text) columns q × (LookAtOwnRow q → ⊥)
IsFilterFault text columns filter.OutOfMemory = ⊤
