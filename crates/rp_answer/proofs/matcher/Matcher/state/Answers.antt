use Rattle.std.proofs.Common.{sym, ap, ◌∙◌, subst, arith}
use Rattle.rp_walker.specs.Walking.{CanGoOn}
use Rattle.rp_walker.specs.declared.record.MatcherState.{MatcherState}
use Rattle.rp_answer.specs.Matching.{known_by}
use Rattle.rp_answer.proofs.matcher.Matcher.state.Goals as goal

pub returns-clause-one : goal.returns-clause-one
returns-clause-one c =
    let m = c.self.inside in
    let first = ap (λ (r : MatcherState). r.first) c.state.ensures ∙ c.self.invariant.first in
    omega (arith, first, m.rows.from_one)

pub returns-clause-can : goal.returns-clause-can
returns-clause-can c =
    let m = c.self.inside in
    rw (← c.self.view_is) (subst (λ r. CanGoOn m.query r) (sym c.state.ensures) (c.law_walkers.ensures.can m.query (known_by m.rows) m.walker c.self.invariant.stands))

pub returns-clause-bounded : goal.returns-clause-bounded
returns-clause-bounded c =
    let m = c.self.inside in
    rw (← c.self.view_is) (c.law_left.ensures.bounded m.query (known_by m.rows) m.walker c.self.invariant.stands)
