use Rattle.std.proofs.Common.{rules, ◌≡◌, IfErr, Err, sym, subst, List, ℕ, Option}
use Rattle.std.specs.Prelude.{option_map}
use Rattle.rp_compile.specs.Compiled.{IsCompiled}
use Rattle.rp_question.specs.Asked.{IsFaultOfFilter, IsQuestionFault}
use Rattle.rp_question.specs.Read.{columns_seen}
use Rattle.rp_question.specs.declared.fault.QuestionFault.TheVariants.{Condition}
use Rattle.rp_question.proofs.question.Question.new.Goals as goal

pub returns-in_err-filter-clause-fault : goal.returns-in_err-filter-clause-fault
returns-in_err-filter-clause-fault c =
    let columns = columns_seen c.args.reading.shape.now in
    let condition : Option (List ℕ) = option_map (λ text. text.now) c.args.condition in
    let why = c.in_err-filter.field-0.0 in
    let is : c.from_residual-in_err-filter.result ≡ Err (Condition why) = search rules in
    let fault : IsFaultOfFilter condition columns why = search rules in
    let compiled : IsCompiled c.args.clause.now columns c.in_ok-query.query = search rules in
    subst (λ r. IfErr r (IsQuestionFault c.args.clause.now condition columns)) (sym is) (fault, c.in_ok-query.query, compiled)
