use Rattle.std.proofs.Common.{◌≡◌, ◌∙◌, ◌+◌, ◌++◌, ◌∷◌, [], map, take, ap, sym}
use Rattle.std.proofs.lemmas.List.{map_push, take_all, take_more}
use Rattle.clap.specs.Words.{rule_of}
use Rattle.rp_command.specs.Listed.{rule_by}
use Rattle.rp_command.proofs.argument.new_arguments.Goals as goal

pub loop-argument-init : goal.loop-argument-init
loop-argument-init c = ap (map rule_of) c.new-arguments.ensures.items

pub loop-argument-preserved : goal.loop-argument-preserved
loop-argument-preserved c =
    let so_far = c.loop-argument in
    let listed = c.args.listed.now in
    ap (map rule_of) c.in_ok-push.ensures.items ∙ map_push rule_of so_far.arguments.items c.new_argument.result
    ∙ (λ j. so_far.invariant j ++ c.new_argument.ensures j ∷ [])
    ∙ sym (ap (map rule_by) (take_more listed so_far.argument-index _ c.loop-argument-test.true) ∙ map_push rule_by (take so_far.argument-index listed) _)

pub returns : goal.returns
returns c = c.loop-argument.invariant ∙ ap (map rule_by) (take_all c.loop-argument.argument-index c.args.listed.now c.loop-argument-test.false)
