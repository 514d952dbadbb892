use Rattle.std.proofs.Common.{rules, ◌≡◌, ◌∙◌, Err, subst}
use Rattle.rp_question.specs.Adding.{AddsRowsAt, IsFaultOfInput}
use Rattle.rp_question.proofs.More.{first_fault, first_more, if_err_is}
use Rattle.rp_question.proofs.question.Question.rows_of_all.Goals as goal

pub returns-in_err-add_rows-clause-fault : goal.returns-in_err-add_rows-clause-fault
returns-in_err-add_rows-clause-fault g c =
    let r = c.args.self.now.reading in
    let why = c.in_err-add_rows.field-0.0 in
    let n = c.loop-index.index in
    let is : c.from_residual.result ≡ Err why = search rules in
    if_err_is c.from_residual.result why _ is
    (first_fault r (g.I.Inputs.seen c.args.inputs.now) n c.loop-index.all.items why
    (subst (λ inputs. IsFaultOfInput r inputs.texts n why) c.loop-index.invariant.seen c.in_err-add_rows.ensures.fault)
    c.loop-index.invariant.rows)

pub loop-index-preserved : goal.loop-index-preserved
loop-index-preserved g c =
    let r = c.args.self.now.reading in
    let n = c.loop-index.index in
    let old = c.loop-index.all.items in
    let new = c.add_rows.new.all.items in
    record {
      seen = c.add_rows.ensures.seen ∙ c.loop-index.invariant.seen;
      rows = first_more r (g.I.Inputs.seen c.args.inputs.now).texts n old new
          (subst (λ inputs. AddsRowsAt r inputs.texts n old new) c.loop-index.invariant.seen c.in_ok-add_rows.ensures.added)
          c.loop-index.invariant.rows;
    }
