use Rattle.std.proofs.Common.{◌≡◌, ap, sym, subst, ◌∙◌, rules}
use Rattle.rp_value.specs.declared.truth.Judged.{Judged}
use Rattle.rp_value.specs.Truth.{judged_conjunction}
use Rattle.rp_query.specs.declared.plan.Condition.{Condition}
use Rattle.rp_query.specs.declared.plan.Condition.TheOpen.{And}
use Rattle.rp_query.specs.declared.plan.Condition.TheViews as V
use Rattle.rp_query.specs.declared.plan.Condition.TheFolds.{fold-roll-Condition}
use Rattle.rp_eval.specs.Looks.{setting_of}
use Rattle.rp_eval.specs.Locality.{RefusesUntil}
use Rattle.rp_eval.specs.ValueOf.{Setting, judged, judged_step}
use Rattle.rp_eval.proofs.Refusing.{by_left, by_right}
use Rattle.rp_eval.proofs.lasting.+refused_until.Goals as goal

pub returns-then-until : goal.returns-then-until
returns-then-until g t c =
    let s : Setting = setting_of g.R.Rows.known g.R.Rows.ending c.args.view.now in
    let left : Condition = c.in-And.left.value in
    let right : Condition = c.in-And.right.value in
    let whole : (z : Setting) → judged z c.args.condition.now ≡ judged_conjunction (judged z left) (judged z right) =
    λ z. ap (judged z) c.in-And.is ∙ (ap (judged z) (sym (V.rolls-And c.in-And.left c.in-And.right)) ∙ fold-roll-Condition Judged (judged_step z) (And c.in-And.left c.in-And.right)) in
    let same : c.deref.result.now ≡ left = search rules in
    by_left c.args.lead s c.args.condition.now left right whole c.refused_until-until.result
    (subst (λ (x : Condition). RefusesUntil c.args.lead s x c.refused_until-until.result) same c.refused_until-until.ensures)

pub returns-then-other-until : goal.returns-then-other-until
returns-then-other-until g t c =
    let s : Setting = setting_of g.R.Rows.known g.R.Rows.ending c.args.view.now in
    let left : Condition = c.in-And.left.value in
    let right : Condition = c.in-And.right.value in
    let whole : (z : Setting) → judged z c.args.condition.now ≡ judged_conjunction (judged z left) (judged z right) =
    λ z. ap (judged z) c.in-And.is ∙ (ap (judged z) (sym (V.rolls-And c.in-And.left c.in-And.right)) ∙ fold-roll-Condition Judged (judged_step z) (And c.in-And.left c.in-And.right)) in
    let same : c.deref.result.now ≡ left = search rules in
    by_left c.args.lead s c.args.condition.now left right whole c.refused_until-until.result
    (subst (λ (x : Condition). RefusesUntil c.args.lead s x c.refused_until-until.result) same c.refused_until-until.ensures)

pub returns-else-other-until : goal.returns-else-other-until
returns-else-other-until g t c =
    let s : Setting = setting_of g.R.Rows.known g.R.Rows.ending c.args.view.now in
    let left : Condition = c.in-And.left.value in
    let right : Condition = c.in-And.right.value in
    let whole : (z : Setting) → judged z c.args.condition.now ≡ judged_conjunction (judged z left) (judged z right) =
    λ z. ap (judged z) c.in-And.is ∙ (ap (judged z) (sym (V.rolls-And c.in-And.left c.in-And.right)) ∙ fold-roll-Condition Judged (judged_step z) (And c.in-And.left c.in-And.right)) in
    let same : c.deref-in-And.result.now ≡ right = search rules in
    by_right c.args.lead s c.args.condition.now left right whole c.refused_until-other.result
    (subst (λ (x : Condition). RefusesUntil c.args.lead s x c.refused_until-other.result) same c.refused_until-other.ensures)
