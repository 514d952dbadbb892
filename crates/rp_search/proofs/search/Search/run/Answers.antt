use Rattle.std.proofs.Common.{◌≡◌, ◌+◌, ◌-◌, ◌≤◌, ◌∙◌, ap, arith, min, refl, rules, subst, sym}
use Rattle.rp_search.specs.Asked.{Asked}
use Rattle.rp_search.specs.Bound.{LastsForEver, Works, turns_asleep, turns_before}
use Rattle.rp_search.specs.Search.{start_of_search}
use Rattle.rp_search.specs.declared.search.Outcome.TheVariants.{Paused}
use Rattle.rp_search.proofs.Moving.{no_less, no_more, run_nothing, works_same}
use Rattle.rp_search.proofs.search.Search.run.Goals as goal

pub returns-in-Ok-clause-works : goal.returns-in-Ok-clause-works
unfolding turns_before start_of_search
returns-in-Ok-clause-works g c = λ always none.
    let asked : Asked = g.T.Tests.asked (g.T.Tests.subject c.args.tests.now) in
    let went = c.in-Ok.ensures in
    let fewer : c.turns_asleep-asleep.result ≤ turns_asleep c.args.self.now asked = omega (arith, c.turns_asleep-asleep.ensures, c.saturating_sub-rows.ensures, c.known.ensures, c.start.ensures) in
    let count : c.in-Ok.taken ≡ c.go_on.new.steps - c.args.steps.now = omega (arith, went.counted.counted) in
    record {
      spends = works_same c.turns_asleep-asleep.result (turns_asleep c.args.self.now asked) c.in-Ok.taken _ c.args.self.now c.go_on.new.self _ asked _ fewer (search rules) refl refl (went.works always none);
      counts = no_less _ _ (c.saturating_add-self.ensures ∙ ap (λ t. min (c.args.self.now.turns + t) 4294967295) count);
    }

pub returns-in-Ok-clause-lasts : goal.returns-in-Ok-clause-lasts
unfolding LastsForEver
returns-in-Ok-clause-lasts g c = λ always lasts. c.in-Ok.ensures.lasts always lasts

pub returns-then-budget-eq0-clause-works : goal.returns-then-budget-eq0-clause-works
unfolding turns_before
returns-then-budget-eq0-clause-works g c = λ always none.
    let asked : Asked = g.T.Tests.asked (g.T.Tests.subject c.args.tests.now) in
    let old = c.args.self.now in
    let zero : c.args.steps.now - c.args.steps.now ≡ 0 = omega arith in
    record {
      spends = subst (λ t. Works (turns_asleep old asked) t old old asked Paused) (sym zero) (run_nothing (turns_asleep old asked) old asked);
      counts = no_more old.turns (c.args.steps.now - c.args.steps.now) zero;
    }
