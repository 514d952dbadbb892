use Rattle.std.proofs.Common.{◌∙◌, ℕ, List, [], ◌∷◌, ◌++◌, map, take, ap, sym}
use Rattle.std.proofs.lemmas.List.{take_all}
use Rattle.rp_value.specs.declared.value.Value.TheVariants as value
use Rattle.rp_resolution.proofs.Each.{one_taken}
use Rattle.rp_resolution.proofs.shown.classes.Goals as goal

pub loop-name-init : goal.loop-name-init
loop-name-init c = c.new-classes.ensures.items

pub loop-name-preserved : goal.loop-name-preserved
loop-name-preserved c =
    let xs = c.args.variables.now in
    let i = c.loop-name.name-index in
    let done = map value.Text (take i xs) in
    c.in_ok-push.ensures.items ∙ (ap (λ z. z ++ value.Text c.in_ok-name.name ∷ []) c.loop-name.invariant
    ∙ (ap (λ (name : List ℕ). done ++ value.Text name ∷ []) c.in_ok-name.ensures ∙ sym (one_taken value.Text xs i c.name-item.result c.loop-name-test.true c.name-item.is)))

pub returns : goal.returns
returns c = c.loop-name.invariant ∙ ap (map value.Text) (take_all c.loop-name.name-index c.args.variables.now c.loop-name-test.false)
