use Rattle.std.proofs.Common.{rules, ◌≡◌, Some, sym, ap, ◌∙◌, subst}
use Rattle.rp_query.specs.Definitions.{definition_of}
use Rattle.rp_query.specs.Formulas.{condition_formula}
use Rattle.rp_query.specs.QueryView.{totals_in}
use Rattle.rp_describe.specs.Looks.{looks_of}
use Rattle.rp_describe.specs.Said.{IsSaidOf}
use Rattle.rp_describe.proofs.Depending.{is_said}
use Rattle.rp_describe.proofs.looks.looks_at.Goals as goal

same_value : {X : Type 0} (x y : X) → Some x ≡ Some y → x ≡ y
same_value x y e = cc

pub returns-clause-said : goal.returns-clause-said
returns-clause-said c = λ d defined.
    let q = c.args.query.now in
    let there : Some c.in_ok-condition.condition.now ≡ definition_of q.plan c.args.variable = search rules in
    let same = same_value c.in_ok-condition.condition.now d (there ∙ defined) in
    let looks : c.looks_of.result ≡ looks_of c.looker_of.result.leader (totals_in q) c.args.variable (condition_formula d) =
    c.looks_of.ensures
    ∙ ap (λ totals. looks_of c.looker_of.result.leader totals c.looker_of.result.variable (condition_formula c.in_ok-condition.condition.now)) c.looker_of.ensures.totals
    ∙ ap (λ v. looks_of c.looker_of.result.leader (totals_in q) v (condition_formula c.in_ok-condition.condition.now)) c.looker_of.ensures.variable
    ∙ ap (λ x. looks_of c.looker_of.result.leader (totals_in q) c.args.variable (condition_formula x)) same in
    subst (IsSaidOf q c.args.variable d) (sym looks)
    (is_said c.law_locality.ensures.rows c.law_locality.ensures.led c.law_leaders.ensures c.law_conditions.ensures.stays
    q c.looker_of.result.leader c.looker_of.ensures.leader c.args.variable d)
