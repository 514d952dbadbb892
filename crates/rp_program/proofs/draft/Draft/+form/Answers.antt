use Rattle.std.proofs.Common.{◌≡◌, ℕ, Bool, true, suc, ◌+◌, ◌-◌, ◌<◌, List, length, map, rules, drop, get_or, Some, None, refl, sym, ap, subst, arith}
use Rattle.std.specs.List.{AllByRecursion}
use Rattle.rp_words.specs.declared.word.End.{End}
use Rattle.rp_words.specs.declared.form.Form.TheVariants as V
use Rattle.rp_words.specs.Permutations.{upto}
use Rattle.rp_words.specs.Words.{further, orders}
use Rattle.rp_words.specs.Turns.{WordsAndTurns, iterations, orders_from}
use Rattle.rp_words.proofs.OrdersAt.{factorial_positive}
use Rattle.rp_program.specs.Parts.{form_part, form_parts, joined}
use Rattle.rp_program.specs.Places.{at, parts}
use Rattle.rp_program.specs.Drafts.{IsWithin, Puts, LeadsInto, LeadsBack, Chooses, Stops, any_number}
use Rattle.rp_program.proofs.Making.{IfOk-map}
use Rattle.rp_program.proofs.Steps.{seen, leads_empty, leads_concatenation, leads_alternation, leads_exclusion, leads_quantified, leads_required, leads_none, count_puts, count_leads, count_none, leads_back}
use Rattle.rp_program.proofs.Permuting.{items_below, leads_no_part, leads_next, leads_last, leads_orders, leads_permute}
use Rattle.rp_program.specs.Sets.{variable_parts}
use Rattle.rp_program.proofs.Setting.{leads_variables}
use Rattle.rp_program.proofs.draft.Draft.+form.Goals as goal

pub any_number-returns : goal.any_number-returns
any_number-returns t c =
    let a = c.args in
    let body = a.body.now.value in
    let old = a.self.now.places.items in
    let opened = c.open_loop.new.self.places.items in
    let made = c.before-2.new.self.places.items in
    let new = c.close_loop.new.self.places.items in
    let loop = c.in_ok-place.place in
    let inner = c.in_ok-inner.inner in
    let iteration = subst (λ f. LeadsInto (λ n e. form_part n e f a.excluded) (record { unmoved = None; moved = loop }) opened made inner) c.deref.ensures c.in_ok-inner.ensures in
    IfOk-map (λ r. (start : List _) → LeadsBack body a.excluded a.reluctant a.next loop inner.unmoved start made → LeadsInto (any_number body a.excluded a.reluctant) a.next start new r)
    (LeadsInto (any_number body a.excluded a.reluctant) a.next old new)
    (λ r h. h old (leads_back body a.excluded a.reluctant a.next loop inner old opened made c.requires c.in_ok-place.ensures iteration)) c.close_loop.result c.close_loop.ensures

pub before-returns-in-Empty : goal.before-returns-in-Empty
before-returns-in-Empty t c =
    let a = c.args in
    let start = c.look.new.self.places.items in
    let same : start ≡ a.self.now.places.items = ap (λ v. v.items) c.look.ensures in
    seen a.form.now V.Empty a.excluded a.next a.next start a.self.now.places.items start c.in-Empty.is same (leads_empty a.excluded a.next start (subst (λ z. IsWithin (length z) a.next) (sym same) c.requires))

pub before-returns-in_ok-between-in-Concatenation : goal.before-returns-in_ok-between-in-Concatenation
before-returns-in_ok-between-in-Concatenation t c =
    let a = c.args in
    let x = a.excluded in
    let p = c.in-Concatenation.first in
    let q = c.in-Concatenation.second in
    let between = c.in_ok-between-in-Concatenation.between in
    let start = c.look.new.self.places.items in
    let mid = c.before-in-Concatenation.new.self.places.items in
    let new = c.before-in-Concatenation-2.new.self.places.items in
    let same : start ≡ a.self.now.places.items = ap (λ v. v.items) c.look.ensures in
    let second = subst (λ f. LeadsInto (λ n e. form_part n e f x) a.next start mid between) c.deref.ensures c.in_ok-between-in-Concatenation.ensures in
    IfOk-map (LeadsInto (λ n e. form_part n e c.deref-in-Concatenation.result.now x) between mid new) (LeadsInto (λ n e. form_part n e a.form.now x) a.next a.self.now.places.items new)
    (λ r h. seen a.form.now (V.Concatenation p q) x a.next r start a.self.now.places.items new c.in-Concatenation.is same
    (leads_concatenation x p q a.next between r start mid new second (subst (λ f. LeadsInto (λ n e. form_part n e f x) between mid new r) c.deref-in-Concatenation.ensures h)))
    c.before-in-Concatenation-2.result c.before-in-Concatenation-2.ensures

pub before-returns-in_ok-other-in-Alternation : goal.before-returns-in_ok-other-in-Alternation
before-returns-in_ok-other-in-Alternation t c =
    let arg = c.args in
    let x = arg.excluded in
    let next = arg.next in
    let p = c.in-Alternation.first in
    let q = c.in-Alternation.second in
    let a = c.in_ok-preferred-in-Alternation.preferred in
    let b = c.in_ok-other-in-Alternation.other in
    let old = arg.self.now.places.items in
    let start = c.look.new.self.places.items in
    let m1 = c.before-in-Alternation.new.self.places.items in
    let m2 = c.before-in-Alternation-2.new.self.places.items in
    let new = c.choose.new.self.places.items in
    let same : start ≡ old = ap (λ v. v.items) c.look.ensures in
    let first = subst (λ f. LeadsInto (λ n e. form_part n e f x) next start m1 a) c.deref-in-Alternation.ensures c.in_ok-preferred-in-Alternation.ensures in
    let second = subst (λ f. LeadsInto (λ n e. form_part n e f x) next m1 m2 b) c.deref-in-Alternation-2.ensures c.in_ok-other-in-Alternation.ensures in
    IfOk-map (Chooses a b m2 new) (LeadsInto (λ n e. form_part n e arg.form.now x) next old new)
    (λ r h. seen arg.form.now (V.Alternation p q) x next r start old new c.in-Alternation.is same
    (leads_alternation x p q next a b r start m1 m2 new (subst (λ z. IsWithin (length z) next) (sym same) c.requires) first second h))
    c.choose.result c.choose.ensures

pub before-returns-in-PartitionStart : goal.before-returns-in-PartitionStart
before-returns-in-PartitionStart t c =
    let a = c.args in
    let start = c.look.new.self.places.items in
    let new = c.start.new.self.places.items in
    let same : start ≡ a.self.now.places.items = ap (λ v. v.items) c.look.ensures in
    IfOk-map (λ r. (x : Bool) → LeadsInto (λ n e. form_part n e V.PartitionStart x) a.next start new r) (LeadsInto (λ n e. form_part n e a.form.now a.excluded) a.next a.self.now.places.items new)
    (λ r h. seen a.form.now V.PartitionStart a.excluded a.next r start a.self.now.places.items new c.in-PartitionStart.is same (h a.excluded)) c.start.result c.start.ensures

pub before-returns-in-PartitionEnd : goal.before-returns-in-PartitionEnd
before-returns-in-PartitionEnd t c =
    let a = c.args in
    let start = c.look.new.self.places.items in
    let new = c.end.new.self.places.items in
    let same : start ≡ a.self.now.places.items = ap (λ v. v.items) c.look.ensures in
    IfOk-map (λ r. (x : Bool) → LeadsInto (λ n e. form_part n e V.PartitionEnd x) a.next start new r) (LeadsInto (λ n e. form_part n e a.form.now a.excluded) a.next a.self.now.places.items new)
    (λ r h. seen a.form.now V.PartitionEnd a.excluded a.next r start a.self.now.places.items new c.in-PartitionEnd.is same (h a.excluded)) c.end.result c.end.ensures

pub before-returns-in-Permute : goal.before-returns-in-Permute
before-returns-in-Permute t c =
    let a = c.args in
    let ps = c.in-Permute.parts in
    let start = c.look.new.self.places.items in
    let new = c.permute.new.self.places.items in
    let same : start ≡ a.self.now.places.items = ap (λ v. v.items) c.look.ensures in
    IfOk-map (LeadsInto (λ n e. orders_from 0 (form_parts n e c.deref-in-Permute.result.now a.excluded)) a.next start new) (LeadsInto (λ n e. form_part n e a.form.now a.excluded) a.next a.self.now.places.items new)
    (λ r h. seen a.form.now (V.Permute ps) a.excluded a.next r start a.self.now.places.items new c.in-Permute.is same
    (leads_permute a.excluded ps a.next r start new (subst (λ fs. LeadsInto (λ n e. orders_from 0 (form_parts n e fs a.excluded)) a.next start new r) c.deref-in-Permute.ensures.value h)))
    c.permute.result c.permute.ensures

pub before-returns-in-Exclusion : goal.before-returns-in-Exclusion
before-returns-in-Exclusion t c =
    let a = c.args in
    let p = c.in-Exclusion.body in
    let start = c.look.new.self.places.items in
    let new = c.before-in-Exclusion.new.self.places.items in
    let same : start ≡ a.self.now.places.items = ap (λ v. v.items) c.look.ensures in
    IfOk-map (LeadsInto (λ n e. form_part n e c.deref-in-Exclusion.result.now true) a.next start new) (LeadsInto (λ n e. form_part n e a.form.now a.excluded) a.next a.self.now.places.items new)
    (λ r h. seen a.form.now (V.Exclusion p) a.excluded a.next r start a.self.now.places.items new c.in-Exclusion.is same
    (leads_exclusion a.excluded p a.next r start new (subst (λ f. LeadsInto (λ n e. form_part n e f true) a.next start new r) c.deref-in-Exclusion.ensures h)))
    c.before-in-Exclusion.result c.before-in-Exclusion.ensures

pub before-returns-in-Quantified : goal.before-returns-in-Quantified
before-returns-in-Quantified t c =
    let a = c.args in
    let q = c.in-Quantified in
    let start = c.look.new.self.places.items in
    let new = c.quantified.new.self.places.items in
    let same : start ≡ a.self.now.places.items = ap (λ v. v.items) c.look.ensures in
    IfOk-map (LeadsInto (λ n e. iterations q.lower (further n q.lower q.upper) q.reluctant (form_part n e q.body.value a.excluded)) a.next start new) (LeadsInto (λ n e. form_part n e a.form.now a.excluded) a.next a.self.now.places.items new)
    (λ r h. seen a.form.now (V.Quantified q.body q.lower q.upper q.reluctant) a.excluded a.next r start a.self.now.places.items new q.is same
    (leads_quantified a.excluded q.body q.lower q.upper q.reluctant a.next r start new h))
    c.quantified.result c.quantified.ensures

pub in_order-loop-taken-init : goal.in_order-loop-taken-init
in_order-loop-taken-init t c = leads_no_part (λ n e. form_parts n e c.args.parts.now c.args.excluded) c.args.order.now c.args.next c.args.self.now.places.items c.requires.next

pub in_order-loop-taken-preserved : goal.in_order-loop-taken-preserved
in_order-loop-taken-preserved t c =
    let a = c.args in
    let l = c.loop-taken in
    let old = a.self.now.places.items in
    let mid = l.self.places.items in
    let new = c.before-in-loop-taken.new.self.places.items in
    let after = c.in_ok-after.after in
    let part = subst (λ f. LeadsInto (λ n e. form_part n e f a.excluded) l.after mid new after) c.deref.ensures c.in_ok-after.ensures in
    leads_next a.excluded a.parts.now a.order.now l.taken (get_or a.order.now (length a.order.now - 1 - l.taken) 0) c.index-parts-part.result a.next l.after after old mid new c.requires.order (omega (arith, c.loop-taken-test.true)) refl c.index-parts-part.is l.invariant part

pub optional-returns-then-count-eq0 : goal.optional-returns-then-count-eq0
optional-returns-then-count-eq0 t c =
    leads_none (λ n e. form_part n e c.args.body.now.value c.args.excluded) c.args.count c.args.reluctant c.args.next c.args.self.now.places.items c.if-count-eq0.true c.requires

pub optional-returns : goal.optional-returns
optional-returns t c =
    let a = c.args in
    let body = a.body.now.value in
    let p : ℕ → End → WordsAndTurns = λ n e. form_part n e body a.excluded in
    let old = a.self.now.places.items in
    let m0 = c.optional_from.new.self.places.items in
    let m1 = c.before-2.new.self.places.items in
    let new = c.stop_or.new.self.places.items in
    let inner = c.in_ok-inner.inner in
    let fewer = c.in_ok-fewer.fewer in
    let one_less : suc (a.count - 1) ≡ a.count = omega (arith, c.if-count-eq0.false) in
    let iteration = subst (λ f. LeadsInto (λ n e. form_part n e f a.excluded) (record { unmoved = None; moved = fewer }) m0 m1 inner) c.deref.ensures c.in_ok-inner.ensures in
    IfOk-map (Stops a.reluctant inner.unmoved a.next m1 new) (LeadsInto (λ n e. iterations 0 a.count a.reluctant (form_part n e body a.excluded)) a.next old new)
    (λ r h. subst (λ k. LeadsInto (λ n e. iterations 0 k a.reluctant (form_part n e body a.excluded)) a.next old new r) one_less
    (count_leads p (a.count - 1) a.reluctant a.next.moved fewer inner old m0 m1 c.requires.moved c.in_ok-fewer.ensures iteration a.next r new refl c.requires.unmoved h))
    c.stop_or.result c.stop_or.ensures

pub optional_from-loop-further-init : goal.optional_from-loop-further-init
optional_from-loop-further-init t c = count_none (λ n e. form_part n e c.args.body.now.value c.args.excluded) c.args.reluctant c.args.stop c.args.self.now.places.items c.requires

pub optional_from-loop-further-preserved : goal.optional_from-loop-further-preserved
optional_from-loop-further-preserved t c =
    let a = c.args in
    let l = c.loop-further in
    let body = a.body.now.value in
    let p : ℕ → End → WordsAndTurns = λ n e. form_part n e body a.excluded in
    let old = a.self.now.places.items in
    let m0 = l.self.places.items in
    let m1 = c.before-in-loop-further.new.self.places.items in
    let new = c.stop_or_place.new.self.places.items in
    let inner = c.in_ok-inner.inner in
    let place = c.in_ok-place.place in
    let iteration = subst (λ f. LeadsInto (λ n e. form_part n e f a.excluded) (record { unmoved = None; moved = l.place }) m0 m1 inner) c.deref.ensures c.in_ok-inner.ensures in
    let made = count_puts p l._further a.reluctant a.stop l.place inner old m0 m1 c.requires l.invariant iteration new place c.in_ok-place.ensures in
    let more : suc l._further ≡ l._further + 1 = omega arith in
    subst (λ k. Puts (λ n e i. joined (iterations 0 k a.reluctant (p n e)) (at (parts n e old) a.stop)) old new (Some place)) more made

pub order-in_order-requires : goal.order-in_order-requires
order-in_order-requires t c =
    let k = length c.args.parts.now in
    (omega (arith, c.decreases), (subst (AllByRecursion (λ x. x < k)) (sym c.deref.ensures.value) (items_below k c.args.number c.in_ok-order.order.items (drop (c.args.number + 1) (orders (upto k))) c.in_ok-order.ensures), c.requires.next))

pub each_order-overflow_sub-last : goal.each_order-overflow_sub-last
each_order-overflow_sub-last t c = omega (arith, c.factorial-last.ensures, factorial_positive (length c.args.parts.now))

pub each_order-order-requires : goal.each_order-order-requires
each_order-order-requires t c =
    let some = factorial_positive (length c.args.parts.now) in
    (omega (arith, c.decreases), (omega (arith, c.requires.few), (omega (arith, c.factorial-last.ensures, some), c.requires.next)))

pub each_order-loop-behind-init : goal.each_order-loop-behind-init
each_order-loop-behind-init t c =
    let a = c.args in
    let some = factorial_positive (length a.parts.now) in
    let last : ℕ = c.factorial-last.result - 1 in
    let here : last ≡ last - 0 = omega arith in
    let old = a.self.now.places.items in
    let new = c.order.new.self.places.items in
    subst (λ k. LeadsInto (λ n e. orders_from k (form_parts n e a.parts.now a.excluded)) a.next old new c.in_ok-orders.orders) here
    (leads_last a.excluded a.parts.now last a.next c.in_ok-orders.orders old new (omega (arith, c.factorial-last.ensures, some)) c.in_ok-orders.ensures)

pub each_order-loop-behind-preserved : goal.each_order-loop-behind-preserved
each_order-loop-behind-preserved t c =
    let a = c.args in
    let l = c.loop-behind in
    let last : ℕ = c.factorial-last.result - 1 in
    let number : ℕ = last - 1 - l.behind in
    let below : number + 1 ≡ last - l.behind = omega (arith, c.loop-behind-test.true) in
    let here : number ≡ last - (l.behind + 1) = omega (arith, c.loop-behind-test.true) in
    let old = a.self.now.places.items in
    let m1 = l.self.places.items in
    let m2 = c.order-in-loop-behind.new.self.places.items in
    let new = c.choose.new.self.places.items in
    let later = subst (λ k. LeadsInto (λ n e. orders_from k (form_parts n e a.parts.now a.excluded)) a.next old m1 l.orders) (sym below) l.invariant in
    subst (λ k. LeadsInto (λ n e. orders_from k (form_parts n e a.parts.now a.excluded)) a.next old new c.in_ok-orders-2.orders) here
    (leads_orders a.excluded a.parts.now number a.next c.in_ok-first.first l.orders c.in_ok-orders-2.orders old m1 m2 new c.requires.next later c.in_ok-first.ensures c.in_ok-orders-2.ensures)

pub quantified-loop-required-preserved : goal.quantified-loop-required-preserved
quantified-loop-required-preserved t c =
    let a = c.args in
    let l = c.loop-required in
    let body = a.body.now.value in
    let p : ℕ → End → WordsAndTurns = λ n e. form_part n e body a.excluded in
    let old = a.self.now.places.items in
    let mid = l.self.places.items in
    let new = c.before-in-loop-required.new.self.places.items in
    let after = c.in_ok-after-2.after in
    let iteration = subst (λ f. LeadsInto (λ n e. form_part n e f a.excluded) l.after mid new after) c.deref.ensures c.in_ok-after-2.ensures in
    let more : suc l._required ≡ l._required + 1 = omega arith in
    subst (λ k. LeadsInto (λ n e. iterations k (further n a.lower a.upper) a.reluctant (p n e)) a.next old new after) more
    (leads_required p l._required (λ n. further n a.lower a.upper) a.reluctant a.next l.after after old mid new l.invariant iteration)

pub permute-returns-in-Some : goal.permute-returns-in-Some
permute-returns-in-Some t c =
    let a = c.args in
    let vars = c.in-Some.vars.items in
    let old = a.self.now.places.items in
    let new = c.any_order.new.self.places.items in
    let are : (map V.Variable vars ≡ map (λ f. f.value) a.parts.now) × (0 < length vars) = search rules in
    IfOk-map (LeadsInto (λ n e. orders_from 0 (variable_parts n e c.deref.result.now a.excluded)) a.next old new) (LeadsInto (λ n e. orders_from 0 (form_parts n e a.parts.now a.excluded)) a.next old new)
    (λ r h. leads_variables a.excluded vars a.parts.now a.next r old new are.0 (subst (λ vs. LeadsInto (λ n e. orders_from 0 (variable_parts n e vs a.excluded)) a.next old new r) c.deref.ensures.value h))
    c.any_order.result c.any_order.ensures
