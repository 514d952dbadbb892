use Rattle.std.proofs.Common.{rules, ◌+◌, map, drop}
use Rattle.std.proofs.lemmas.List.{drop_all, map_push}
use Rattle.rp_resolution.proofs.Telling.{telling}
use Rattle.rp_tree.specs.Clauses.{definition_tree}
use Rattle.rp_tree.specs.Terms.{term_of}
use Rattle.rp_resolution.specs.PartFaults.{definition_faults}
use Rattle.rp_resolution.specs.Context.{context_of}
use Rattle.rp_query.specs.Formulas.{plain_total, condition_formula}
use Rattle.rp_resolution.specs.Queries.{terms_of_definitions}
use Rattle.rp_resolution.proofs.Each.{begins, cut, goes_on, goes_wrong, ends}
use Rattle.rp_resolution.proofs.Terms.{none_done, one_done, all_done}
use Rattle.rp_resolution.proofs.expressions.conditions.Goals as goal

pub loop-i-init : goal.loop-i-init
loop-i-init c =
    let x = context_of c.args.names.now in
    record { clean = begins definition_tree (definition_faults x) c.args.written.now; done = rw c.new-conditions.ensures.items (none_done x (map plain_total c.args.totals.now.items) (terms_of_definitions (map definition_tree c.args.written.now))) }

pub returns-in_err-condition : goal.returns-in_err-condition
returns-in_err-condition c =
    let told = goes_wrong definition_tree (definition_faults (context_of c.args.names.now)) c.args.written.now c.loop-i.i c.index-written-i.result c.in_err-condition.field-0.0 c.loop-i-test.true c.index-written-i.is c.loop-i.invariant.clean c.in_err-condition.ensures in
    search (rules, told)

pub returns-in_err-push : goal.returns-in_err-push
returns-in_err-push c = search (rules, telling)

pub loop-i-preserved : goal.loop-i-preserved
loop-i-preserved c =
    let x = context_of c.args.names.now in
    let xs = c.args.written.now in
    let i = c.loop-i.i in
    let m = c.index-written-i.result in
    let next = cut definition_tree xs i m c.loop-i-test.true c.index-written-i.is in
    let so = rw next at c.loop-i.invariant.done in
    record {
      clean = goes_on definition_tree (definition_faults x) xs i m c.loop-i-test.true c.index-written-i.is c.loop-i.invariant.clean c.in_ok-condition.ensures.0;
      done = rw (c.in_ok-push.ensures.items, map_push condition_formula c.loop-i.conditions.items c.in_ok-condition.condition)
          (one_done x (map plain_total c.args.totals.now.items) (terms_of_definitions (map definition_tree xs)) (map condition_formula c.loop-i.conditions.items) (map plain_total c.loop-i.totals.items) (map plain_total c.defined.new.totals.items) (term_of m.expr) (terms_of_definitions (map definition_tree (drop (i + 1) xs))) (condition_formula c.in_ok-condition.condition) so c.in_ok-condition.ensures.1.0 c.in_ok-condition.ensures.1.1);
    }

pub returns : goal.returns
returns c =
    let x = context_of c.args.names.now in
    let xs = c.args.written.now in
    let so = rw (drop_all c.loop-i.i xs c.loop-i-test.false) at c.loop-i.invariant.done in (
      ends definition_tree (definition_faults x) xs c.loop-i.i c.loop-i-test.false c.loop-i.invariant.clean,
      all_done x (map plain_total c.args.totals.now.items) (terms_of_definitions (map definition_tree xs)) (map condition_formula c.loop-i.conditions.items) (map plain_total c.loop-i.totals.items) so,
    )
