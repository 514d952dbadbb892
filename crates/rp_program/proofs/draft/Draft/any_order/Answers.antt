use Rattle.std.proofs.Common.{◌≡◌, ◌∷◌, ◌++◌, ◌+◌, [], length, sym, subst, arith, rules}
use Rattle.rp_program.specs.Sets.{sets, ways, other_orders, PutsWays}
use Rattle.std.proofs.Common.{Some}
use Rattle.rp_program.proofs.Picking.{sets_positive}
use Rattle.rp_program.proofs.Setting.{SetsPut, sets_begin, sets_more, sets_end}
use Rattle.rp_program.proofs.draft.Draft.any_order.Goals as goal

pub loop-set-init : goal.loop-set-init
loop-set-init c =
    let a = c.args in
    let old = a.self.now.places.items in
    let first : c.push.new.self.items ≡ a.next.moved ∷ [] = search rules in
    subst (λ z. SetsPut a.vars.now a.excluded a.next.moved old old z a.next.moved 1) (sym first) (sets_begin a.vars.now a.excluded a.next.moved old c.requires.next.moved)

pub loop-set-preserved : goal.loop-set-preserved
loop-set-preserved c =
    let a = c.args in
    let l = c.loop-set in
    let old = a.self.now.places.items in
    let mid = l.self.places.items in
    let new = c.set_place.new.self.places.items in
    let q = c.in_ok-place.place in
    let pushed : c.push-in-loop-set.new.self.items ≡ l.table.items ++ q ∷ [] = search rules in
    let put : PutsWays (ways a.vars.now l.table.items) a.excluded (other_orders a.vars.now (length l.table.items)) mid new (Some q) =
    subst (λ t. PutsWays (ways a.vars.now t) a.excluded (other_orders a.vars.now (length t)) mid new (Some q)) c.deref.ensures.value c.in_ok-place.ensures in
    subst (λ z. SetsPut a.vars.now a.excluded a.next.moved old new z q (l._set + 1)) (sym pushed)
    (sets_more a.vars.now a.excluded a.next.moved old mid new l.table.items l.place l._set q (omega (arith, c.loop-set-test.true, c.sets-set-end.ensures)) l.invariant put)

pub returns : goal.returns
returns c =
    let a = c.args in
    let l = c.loop-set in
    let positive = sets_positive (length a.vars.now) in
    let number : l._set ≡ sets (length a.vars.now) = omega (arith, c.loop-set-test.false, l.auto._set, c.sets-set-end.ensures, positive) in
    sets_end a.vars.now a.excluded a.next a.self.now.places.items l.self.places.items l.table.items l.place l._set c.same.result c.requires.some number c.same.ensures l.invariant
