use Rattle.std.proofs.Common.{◌≡◌, map, sym, ap, ◌∙◌, subst, rules}
use Rattle.std.specs.declared.vec.Vec.{Vec}
use Rattle.std.specs.declared.alloc.Global.{Global}
use Rattle.rp_query.specs.declared.plan.Total.{Total}
use Rattle.rp_query.specs.Changes.{AreChangesOf}
use Rattle.rp_eval.specs.Kept.{cut_back}
use Rattle.rp_eval.proofs.Within.{none_within}
use Rattle.rp_eval.proofs.totals.Totals.of_changes.Goals as goal

pub invariant_of-result-clause-within : goal.invariant_of-result-clause-within
invariant_of-result-clause-within c = ap (map (cut_back 0)) c.loop-total.invariant ∙ none_within _ ∙ sym c.loop-total.invariant

pub invariant_of-result-clause-known : goal.invariant_of-result-clause-known
invariant_of-result-clause-known c =
    let same : c.in_ok-clone.field-0.value ≡ c.args.plan.now.value = search rules in
    subst (λ (z : Vec Total Global). AreChangesOf z.items c.args.changes.value) (sym same) c.requires.known
