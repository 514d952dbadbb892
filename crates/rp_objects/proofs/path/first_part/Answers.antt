use Rattle.std.proofs.Common.{◌≡◌, ◌≤◌, ◌+◌, ◌-◌, ◌∷◌, ◌∙◌, [], drop, get_or, length, take, ap, append-nil, eq-eqb, sym, arith}
use Rattle.std.proofs.lemmas.Bool.{ne_eqb}
use Rattle.std.proofs.lemmas.List.{drop_all, drop_more, length-drop, take_all, take_more}
use Rattle.rp_objects.specs.Paths.{path_of}
use Rattle.rp_objects.proofs.PathParts.{at_dot, no_dot, onto, onto_one}
use Rattle.rp_objects.proofs.path.first_part.Goals as goal

pub returns-then-byte-eq46-clause-parts : goal.returns-then-byte-eq46-clause-parts
returns-then-byte-eq46-clause-parts c =
    let path = c.args.path.now in
    let n = c.loop-at.at in
    let byte = get_or path n 0 in
    let rest : take (length path - (n + 1)) (drop (n + 1) path) ≡ drop (n + 1) path = take_all (length path - (n + 1)) (drop (n + 1) path) (omega (arith, length-drop (n + 1) path)) in
    let next : drop n path ≡ byte ∷ drop (n + 1) path = drop_more path n 0 c.loop-at-test.true in
    rw rest (c.loop-at.invariant ∙ ap (λ r. onto (take n path) (path_of r)) next ∙ at_dot (take n path) byte (drop (n + 1) path) (eq-eqb byte 46 c.if-byte-eq46.true))

pub loop-at-preserved : goal.loop-at-preserved
loop-at-preserved c =
    let path = c.args.path.now in
    let n = c.loop-at.at in
    let byte = get_or path n 0 in
    let next : drop n path ≡ byte ∷ drop (n + 1) path = drop_more path n 0 c.loop-at-test.true in
    c.loop-at.invariant ∙ ap (λ r. onto (take n path) (path_of r)) next ∙ no_dot (take n path) byte (drop (n + 1) path) (ne_eqb byte 46 c.if-byte-eq46.false)
    ∙ ap (λ front. onto front (path_of (drop (n + 1) path))) (sym (take_more path n 0 c.loop-at-test.true))

pub returns-clause-parts : goal.returns-clause-parts
returns-clause-parts c =
    let path = c.args.path.now in
    let n = c.loop-at.at in
    let high : length path ≤ n = omega arith in
    c.loop-at.invariant ∙ ap (λ rest. onto (take n path) (path_of rest)) (drop_all n path high) ∙ onto_one (take n path) [] [] ∙ ap (λ t. t ∷ []) (append-nil (take n path) ∙ take_all n path high)
