use Rattle.std.proofs.Common.{rules}
use Rattle.rp_tree.specs.Terms.{term_of}
use Rattle.rp_resolution.specs.declared.fault.CheckKind.TheVariants.{KindMismatch}
use Rattle.rp_resolution.specs.Context.{context_of}
use Rattle.rp_resolution.specs.Sorts.{sort_of, may_be_value}
use Rattle.rp_resolution.specs.ExprFaults.{unless, expr_faults}
use Rattle.rp_resolution.proofs.Telling.{tells_front, tells_behind, tells_test}
use Rattle.rp_resolution.proofs.expressions.measured.Goals as goal

pub returns-in_err-found : goal.returns-in_err-found
returns-in_err-found c =
    let x = context_of c.args.names.now in
    let told = tells_front c.in_err-found.field-0.0 (expr_faults x (term_of c.args.expr.now)) (unless (may_be_value (sort_of x (term_of c.args.expr.now))) KindMismatch c.args.at) c.in_err-found.ensures in
    search (rules, told)

pub returns-in-None : goal.returns-in-None
returns-in-None c =
    let x = context_of c.args.names.now in
    let test = may_be_value (sort_of x (term_of c.args.expr.now)) in
    tells_behind c.fault.result (expr_faults x (term_of c.args.expr.now)) (unless test KindMismatch c.args.at) c.in_ok-found.ensures.clean
    (tells_test c.fault.result test KindMismatch c.args.at c.fault.ensures (rw c.in_ok-found.ensures.sort c.in-None.ensures))
