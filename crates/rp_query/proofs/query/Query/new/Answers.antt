use Rattle.std.proofs.Common.{rules, subst, sym}
use Rattle.std.specs.Prelude.{◌↔◌, IfSome, IsTrue}
use Rattle.rp_words.specs.PatternForm.{form_of}
use Rattle.rp_pattern.specs.Prepared.{Prepares}
use Rattle.rp_query.specs.declared.locality.Locality.TheVariants.{Row}
use Rattle.rp_query.specs.declared.query.QueryData.{QueryData}
use Rattle.rp_query.specs.Changes.{AreChangesOf}
use Rattle.rp_query.specs.Locality.{ConditionsAreLocal, IsLeaderOf}
use Rattle.rp_query.specs.LooksBack.{ConditionsLookBack}
use Rattle.rp_query.specs.Sound.{IsSound}
use Rattle.rp_query.proofs.query.Query.new.Goals as goal

pub invariant_of-result : goal.invariant_of-result
invariant_of-result c =
    let same = sym c.in_ok-parts.ensures.ok in (
      subst IsSound same c.requires,
      (
        subst (λ (d : QueryData). Prepares (form_of d.pattern) c.in_ok-prepared.prepared) same c.in_ok-prepared.ensures,
        (
          subst (λ (d : QueryData). IsTrue c.is_local-judges_rows.result ↔ ConditionsAreLocal Row d.plan) same c.is_local-judges_rows.ensures,
          (
            subst (λ (d : QueryData). IsTrue c.looks_back-looks_back.result ↔ ConditionsLookBack d.plan) same c.looks_back-looks_back.ensures,
            (
              (λ l is. subst (λ (d : QueryData). IsLeaderOf (form_of d.pattern) l) same (subst (λ o. IfSome o (IsLeaderOf (form_of c.args.parts.pattern))) is c.leader_of-lead.ensures)),
              (subst (λ (d : QueryData). AreChangesOf d.plan.totals.value.items c.in_ok-changes.changes.value) same (search rules), tt),
            ),
          ),
        ),
      ),
    )
