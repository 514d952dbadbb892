use Rattle.std.proofs.Common.{map, refl, sym, append-nil}
use Rattle.rp_tree.specs.Terms.{Number}
use Rattle.rp_value.specs.declared.value.Kind.TheVariants as kind
use Rattle.rp_query.specs.Formulas.{plain_total, value_formula}
use Rattle.rp_resolution.specs.Context.{context_of}
use Rattle.rp_resolution.specs.Sorts.{Valued}
use Rattle.rp_resolution.proofs.Chains.{value_checks}
use Rattle.rp_resolution.proofs.expr.number.Goals as goal

pub returns : goal.returns
returns c =
    let before = map plain_total c.args.totals.now.items in
    value_checks (context_of c.args.names.now) before before (Number c.args.at c.args.value) (Valued kind.Int) (value_formula c.number_literal.result) c.valued.result
    refl refl c.number_literal.ensures (sym (append-nil before)) c.valued.ensures
