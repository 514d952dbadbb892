use Rattle.std.proofs.Common.{◌≡◌, ◌∙◌, ◌+◌, ◌++◌, [], ◌∷◌, map, drop, refl, ap, sym, append_assoc, append-nil}
use Rattle.std.proofs.lemmas.List.{drop_all, map_push}
use Rattle.rp_resolution.specs.Context.{naming_of}
use Rattle.rp_resolution.specs.Variables.{numbered}
use Rattle.rp_resolution.proofs.Each.{next_of}
use Rattle.rp_resolution.proofs.lists.variable_sets.Goals as goal

pub loop-i-init : goal.loop-i-init
loop-i-init c = rw c.new-sets.ensures.items refl

pub loop-i-preserved : goal.loop-i-preserved
loop-i-preserved c =
    let xs = c.args.variables.now in
    let i = c.loop-i.i in
    let x = c.index-variables-i.result in
    let rest = numbered (i + 1) (drop (i + 1) xs) in
    let pushed : map naming_of c.push.new.self.items ≡ map naming_of c.loop-i.sets.items ++ record { name = x; members = i ∷ [] } ∷ [] =
    ap (map naming_of) c.in_ok-push.ensures.items ∙ (map_push naming_of c.loop-i.sets.items c.in_ok-set.set ∙ ap (λ s. map naming_of c.loop-i.sets.items ++ s ∷ []) c.in_ok-set.ensures) in
    ap (λ ms. ms ++ rest) pushed ∙ (append_assoc (map naming_of c.loop-i.sets.items) (record { name = x; members = i ∷ [] } ∷ []) rest
    ∙ (ap (λ z. map naming_of c.loop-i.sets.items ++ numbered i z) (sym (next_of xs i x c.loop-i-test.true c.index-variables-i.is)) ∙ c.loop-i.invariant))

pub returns : goal.returns
returns c = sym (append-nil (map naming_of c.loop-i.sets.items)) ∙ rw (drop_all c.loop-i.i c.args.variables.now c.loop-i-test.false) at c.loop-i.invariant
