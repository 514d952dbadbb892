use Rattle.std.proofs.Common.{◌∙◌, ◌++◌, ◌∷◌, [], ap, get_or, false, sym}
use Rattle.std.proofs.lemmas.List.{take_all, take_more}
use Rattle.rp_words.specs.declared.word.Label.{Label}
use Rattle.rp_why.proofs.seeking.copied.Goals as goal

pub loop-label-init : goal.loop-label-init
loop-label-init c = c.new-copied.ensures.items

pub loop-label-preserved : goal.loop-label-preserved
loop-label-preserved c =
    let so_far = c.loop-label in
    let none : Label = record { var = 0; excluded = false } in
    let label = get_or c.args.labels.now so_far.label-index none in
    c.in_ok-push.ensures.items ∙ ap (λ labels. labels ++ label ∷ []) so_far.invariant ∙ sym (take_more c.args.labels.now so_far.label-index none c.loop-label-test.true)

pub returns : goal.returns
returns c = c.loop-label.invariant ∙ take_all c.loop-label.label-index c.args.labels.now c.loop-label-test.false
