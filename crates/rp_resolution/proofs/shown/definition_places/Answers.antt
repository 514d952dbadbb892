use Rattle.std.proofs.Common.{◌≡◌, ◌∙◌, [], ◌∷◌, ◌++◌, map, take, ap}
use Rattle.std.proofs.lemmas.List.{take_all}
use Rattle.rp_tree.specs.Clauses.{definition_tree}
use Rattle.rp_resolution.specs.Queries.{definition_place}
use Rattle.rp_resolution.proofs.Each.{one_taken}
use Rattle.rp_resolution.proofs.shown.definition_places.Goals as goal

pub loop-name-init : goal.loop-name-init
loop-name-init c = c.new-places.ensures.items

pub loop-name-preserved : goal.loop-name-preserved
loop-name-preserved c =
    let xs = c.args.variables.now in
    let i = c.loop-name.name-index in
    let place = definition_place (map definition_tree c.args.definitions.now) in
    let done = map place (take i xs) in
    let next = one_taken place xs i c.name-item.result c.loop-name-test.true c.name-item.is in
    let pushed : c.push.new.self.items ≡ done ++ c.definition_place.result ∷ [] = rw c.loop-name.invariant at c.in_ok-push.ensures.items in
    rw (next, ← c.definition_place.ensures) pushed

pub returns : goal.returns
returns c = c.loop-name.invariant ∙ ap (map (definition_place (map definition_tree c.args.definitions.now))) (take_all c.loop-name.name-index c.args.variables.now c.loop-name-test.false)
