use Rattle.std.proofs.Common.{◌≡◌, subst, rules}
use Rattle.rp_tree.specs.Clauses.{clause_tree}
use Rattle.rp_compile.specs.Compiled.{IsClauseOf}
use Rattle.rp_check.specs.QueryOf.{IsQueryOf}
use Rattle.rp_compile.proofs.Refusing.{clause_of, checking_fails}
use Rattle.rp_compile.proofs.compiling.compile.Goals as goal

pub returns-in_err-query-clause-fault : goal.returns-in_err-query-clause-fault
returns-in_err-query-clause-fault c =
    let same : c.as_slice.result.now ≡ c.in_ok-tokens.tokens.items = search rules in
    let tree = clause_tree c.in_ok-clause.clause in
    let written : IsClauseOf c.args.text.now tree =
    clause_of c.args.text.now c.in_ok-tokens.tokens.items c.as_slice.result.now tree same c.in_ok-tokens.ensures.tokens c.in_ok-clause.ensures.derived c.in_ok-clause.ensures.only in
    let wrong = checking_fails c.args.text.now c.args.table.now tree written c.in_err-query.field-0.0 c.in_err-query.ensures.refused in
    search (rules, wrong)

pub returns-clause-query : goal.returns-clause-query
returns-clause-query c =
    let same : c.as_slice.result.now ≡ c.in_ok-tokens.tokens.items = search rules in
    let tree = clause_tree c.in_ok-clause.clause in
    record {
      clause = tree;
      written = clause_of c.args.text.now c.in_ok-tokens.tokens.items c.as_slice.result.now tree same c.in_ok-tokens.ensures.tokens c.in_ok-clause.ensures.derived c.in_ok-clause.ensures.only;
      clean = c.in_ok-query.ensures.clean;
      is = subst (λ w. IsQueryOf tree w c.args.table.now c.in_ok-query.query) c.in_ok-clause.ensures.text c.in_ok-query.ensures.query;
    }
