use Rattle.std.proofs.Common.{◌≡◌, ◌+◌, ◌≤◌, ◌∙◌, arith, refl, rules, subst, sym}
use Rattle.std.proofs.lemmas.Result.{IfOk-from_err}
use Rattle.rp_search.specs.declared.search.Outcome.{Outcome}
use Rattle.rp_search.specs.declared.search.Outcome.TheVariants.{Paused}
use Rattle.rp_search.specs.Asked.{Asked}
use Rattle.rp_search.specs.Bound.{Works}
use Rattle.rp_search.specs.Fits.{left_by}
use Rattle.rp_search.specs.Turned.{CanTurn, IsRunning, Turned}
use Rattle.rp_search.specs.Work.{NoneIsOpen, Spent, added_by, counted}
use Rattle.rp_search.proofs.Moving.{run_begins, run_ends, run_goes_on, run_pauses}
use Rattle.rp_search.proofs.RunSoFar.{run_answers, run_lowers, same_then, still_covers}
use Rattle.rp_search.proofs.search.Search.go_on.Goals as goal

pub resume-requires : goal.resume-requires
resume-requires g c = c.requires.can_run

pub loop-turn-init : goal.loop-turn-init
loop-turn-init g c =
    let resumed = c.in_ok-resume.ensures in (
      record { same = resumed.same; left = omega (arith, resumed.left) },
      resumed.subject,
      resumed.running,
      omega (arith, resumed.entries),
      omega (arith, resumed.entries),
      omega arith,
      λ always none. run_begins c.args.asleep c.args.self.now c.resume.new.self (g.T.Tests.asked (g.T.Tests.subject c.args.tests.now)) (resumed.spent none),
      resumed.lasts,
    )

pub turn-requires : goal.turn-requires
turn-requires g c =
    let can_turn : CanTurn c.loop-turn.self (g.T.Tests.asked (g.T.Tests.subject c.args.tests.now)) (g.T.Tests.entered c.loop-turn.tests) =
    record { covers = still_covers c.args.self.now c.loop-turn.self _ _ c.requires.can_run c.loop-turn.invariant.0.same; running = c.loop-turn.invariant.2 } in
    record { can_turn = subst (λ s. CanTurn c.loop-turn.self (g.T.Tests.asked s) (g.T.Tests.entered c.loop-turn.tests)) (sym c.loop-turn.invariant.1) can_turn }

pub returns-in_err-resume-clause-same : goal.returns-in_err-resume-clause-same
returns-in_err-resume-clause-same g c = c.resume.ensures.same

pub returns-in_err-resume-clause-subject : goal.returns-in_err-resume-clause-subject
returns-in_err-resume-clause-subject g c = c.resume.ensures.subject

pub returns-in_err-resume-clause-entries : goal.returns-in_err-resume-clause-entries
returns-in_err-resume-clause-entries g c = (omega (arith, c.resume.ensures.entries), omega (arith, c.resume.ensures.entries))

pub returns-in_err-resume-clause-within : goal.returns-in_err-resume-clause-within
returns-in_err-resume-clause-within g c = (omega arith, omega arith)

pub returns-in_err-outcome-clause-same : goal.returns-in_err-outcome-clause-same
returns-in_err-outcome-clause-same g c = same_then c.args.self.now c.loop-turn.self c.turn.new.self c.loop-turn.invariant.0.same c.turn.ensures.same

pub returns-in_err-outcome-clause-subject : goal.returns-in_err-outcome-clause-subject
returns-in_err-outcome-clause-subject g c = c.turn.ensures.subject ∙ c.loop-turn.invariant.1

pub returns-in_err-outcome-clause-entries : goal.returns-in_err-outcome-clause-entries
returns-in_err-outcome-clause-entries g c =
    let so_far = c.loop-turn.invariant in
    (omega (arith, so_far.4, c.turn.ensures.entries.0), omega (arith, so_far.3, so_far.5, c.tick.ensures, c.turn.ensures.entries.1))

pub returns-in_err-outcome-clause-within : goal.returns-in_err-outcome-clause-within
returns-in_err-outcome-clause-within g c = (omega (arith, c.loop-turn.invariant.5, c.tick.ensures), omega (arith, c.loop-turn.invariant.5, c.tick.ensures, c.loop-turn-test.true))

pub returns-in_err-resume-clause-running : goal.returns-in_err-resume-clause-running
returns-in_err-resume-clause-running g c = IfOk-from_err c.from_residual.result _ c.from_residual.ensures.0

pub returns-in_err-resume-clause-answers : goal.returns-in_err-resume-clause-answers
returns-in_err-resume-clause-answers g c = IfOk-from_err c.from_residual.result _ c.from_residual.ensures.0

pub returns-in_err-resume-clause-left : goal.returns-in_err-resume-clause-left
returns-in_err-resume-clause-left g c = IfOk-from_err c.from_residual.result _ c.from_residual.ensures.0

pub returns-in_err-resume-clause-counted : goal.returns-in_err-resume-clause-counted
returns-in_err-resume-clause-counted g c = IfOk-from_err c.from_residual.result _ c.from_residual.ensures.0

pub returns-in_err-resume-clause-works : goal.returns-in_err-resume-clause-works
returns-in_err-resume-clause-works g c = IfOk-from_err c.from_residual.result _ c.from_residual.ensures.0

pub returns-in_err-resume-clause-lasts : goal.returns-in_err-resume-clause-lasts
returns-in_err-resume-clause-lasts g c = IfOk-from_err c.from_residual.result _ c.from_residual.ensures.0

pub returns-in_err-outcome-clause-running : goal.returns-in_err-outcome-clause-running
returns-in_err-outcome-clause-running g c = IfOk-from_err c.from_residual-in_err-outcome.result _ c.from_residual-in_err-outcome.ensures.0

pub returns-in_err-outcome-clause-answers : goal.returns-in_err-outcome-clause-answers
returns-in_err-outcome-clause-answers g c = IfOk-from_err c.from_residual-in_err-outcome.result _ c.from_residual-in_err-outcome.ensures.0

pub returns-in_err-outcome-clause-left : goal.returns-in_err-outcome-clause-left
returns-in_err-outcome-clause-left g c = IfOk-from_err c.from_residual-in_err-outcome.result _ c.from_residual-in_err-outcome.ensures.0

pub returns-in_err-outcome-clause-counted : goal.returns-in_err-outcome-clause-counted
returns-in_err-outcome-clause-counted g c = IfOk-from_err c.from_residual-in_err-outcome.result _ c.from_residual-in_err-outcome.ensures.0

pub returns-in_err-outcome-clause-works : goal.returns-in_err-outcome-clause-works
returns-in_err-outcome-clause-works g c = IfOk-from_err c.from_residual-in_err-outcome.result _ c.from_residual-in_err-outcome.ensures.0

pub returns-in_err-outcome-clause-lasts : goal.returns-in_err-outcome-clause-lasts
returns-in_err-outcome-clause-lasts g c = IfOk-from_err c.from_residual-in_err-outcome.result _ c.from_residual-in_err-outcome.ensures.0

pub returns-then-ne-clause-same : goal.returns-then-ne-clause-same
returns-then-ne-clause-same g c = same_then c.args.self.now c.loop-turn.self c.turn.new.self c.loop-turn.invariant.0.same c.turn.ensures.same

pub returns-then-ne-clause-subject : goal.returns-then-ne-clause-subject
returns-then-ne-clause-subject g c = c.turn.ensures.subject ∙ c.loop-turn.invariant.1

pub returns-then-ne-clause-running : goal.returns-then-ne-clause-running
returns-then-ne-clause-running g c = subst (λ s. IsRunning c.turn.new.self (g.T.Tests.asked s) (g.T.Tests.entered c.turn.new.tests)) c.loop-turn.invariant.1 c.in_ok-outcome.ensures.running

pub returns-then-ne-clause-answers : goal.returns-then-ne-clause-answers
returns-then-ne-clause-answers g c =
    let asked : Asked = g.T.Tests.asked (g.T.Tests.subject c.args.tests.now) in
    let turned : Turned 1 c.loop-turn.self c.turn.new.self asked (left_by c.loop-turn.self asked) c.in_ok-outcome.outcome =
    subst (λ s. Turned 1 c.loop-turn.self c.turn.new.self (g.T.Tests.asked s) (left_by c.loop-turn.self (g.T.Tests.asked s)) c.in_ok-outcome.outcome) c.loop-turn.invariant.1 c.in_ok-outcome.ensures.took.turned in
    run_answers c.in_ok-outcome.outcome c.args.self.now c.loop-turn.self c.turn.new.self asked _ c.loop-turn.invariant.0.same turned

pub returns-then-ne-clause-left : goal.returns-then-ne-clause-left
returns-then-ne-clause-left g c =
    let asked : Asked = g.T.Tests.asked (g.T.Tests.subject c.args.tests.now) in
    let turned : Turned 1 c.loop-turn.self c.turn.new.self asked (left_by c.loop-turn.self asked) c.in_ok-outcome.outcome =
    subst (λ s. Turned 1 c.loop-turn.self c.turn.new.self (g.T.Tests.asked s) (left_by c.loop-turn.self (g.T.Tests.asked s)) c.in_ok-outcome.outcome) c.loop-turn.invariant.1 c.in_ok-outcome.ensures.took.turned in
    run_lowers c.in_ok-outcome.outcome c.loop-turn.turn c.args.self.now c.loop-turn.self c.turn.new.self asked c.loop-turn.invariant.0 turned

pub returns-then-ne-clause-within : goal.returns-then-ne-clause-within
returns-then-ne-clause-within g c = (omega (arith, c.loop-turn.invariant.5, c.tick.ensures), omega (arith, c.loop-turn.invariant.5, c.tick.ensures, c.loop-turn-test.true))

pub returns-then-ne-clause-entries : goal.returns-then-ne-clause-entries
returns-then-ne-clause-entries g c =
    let so_far = c.loop-turn.invariant in
    (omega (arith, so_far.4, c.turn.ensures.entries.0), omega (arith, so_far.3, so_far.5, c.tick.ensures, c.turn.ensures.entries.1))

pub returns-then-ne-clause-works : goal.returns-then-ne-clause-works
returns-then-ne-clause-works g c = λ always none.
    let asked : Asked = g.T.Tests.asked (g.T.Tests.subject c.args.tests.now) in
    let so_far = c.loop-turn.invariant in
    let mid = c.loop-turn.self in
    let new = c.turn.new.self in
    let remembers = c.is_awake-remembers.result in
    let o = c.in_ok-outcome.outcome in
    let spent : Spent (counted o) (added_by remembers mid.choices) mid.choices new.choices mid.memo new.memo asked =
    subst (λ s. Spent (counted o) (added_by remembers mid.choices) mid.choices new.choices mid.memo new.memo (g.T.Tests.asked s)) so_far.1
    (c.in_ok-outcome.ensures.took.spent (subst (λ s. g.T.Tests.always s) (sym so_far.1) always) (subst (λ s. NoneIsOpen (g.T.Tests.asked s)) (sym so_far.1) none)) in
    run_ends c.args.asleep c.loop-turn.turn remembers c.args.self.now mid new asked c.is_awake-remembers.ensures (so_far.6 always none) o spent c.in_ok-outcome.ensures.took.held

pub returns-then-ne-clause-lasts : goal.returns-then-ne-clause-lasts
returns-then-ne-clause-lasts g c = λ always lasts. c.in_ok-outcome.ensures.took.lasts (subst (λ s. g.T.Tests.always s) (sym c.loop-turn.invariant.1) always) (c.loop-turn.invariant.7 always lasts)

pub loop-turn-preserved : goal.loop-turn-preserved
loop-turn-preserved g c =
    let asked : Asked = g.T.Tests.asked (g.T.Tests.subject c.args.tests.now) in
    let so_far = c.loop-turn.invariant in
    let mid = c.loop-turn.self in
    let new = c.turn.new.self in
    let remembers = c.is_awake-remembers.result in
    let paused : c.in_ok-outcome.outcome ≡ Paused = search rules in
    let turned : left_by new asked + 1 ≤ left_by mid asked =
    subst (λ (o : Outcome). Turned 1 mid new asked (left_by mid asked) o) paused
    (subst (λ s. Turned 1 mid new (g.T.Tests.asked s) (left_by mid (g.T.Tests.asked s)) c.in_ok-outcome.outcome) so_far.1 c.in_ok-outcome.ensures.took.turned) in (
      record {
        same = same_then c.args.self.now mid new so_far.0.same c.turn.ensures.same;
        left = omega (arith, so_far.0.left, turned);
      },
      c.turn.ensures.subject ∙ so_far.1,
      subst (λ s. IsRunning new (g.T.Tests.asked s) (g.T.Tests.entered c.turn.new.tests)) so_far.1 c.in_ok-outcome.ensures.running,
      omega (arith, so_far.3, c.turn.ensures.entries.1),
      omega (arith, so_far.4, c.turn.ensures.entries.0),
      omega (arith, so_far.5, c.tick.ensures),
      λ always none.
          let spent =
          subst (λ s. Spent (counted c.in_ok-outcome.outcome) (added_by remembers mid.choices) mid.choices new.choices mid.memo new.memo (g.T.Tests.asked s)) so_far.1
          (c.in_ok-outcome.ensures.took.spent (subst (λ s. g.T.Tests.always s) (sym so_far.1) always) (subst (λ s. NoneIsOpen (g.T.Tests.asked s)) (sym so_far.1) none)) in
          run_goes_on c.args.asleep c.loop-turn.turn remembers c.args.self.now mid new asked c.is_awake-remembers.ensures (so_far.6 always none)
          (subst (λ (o : Outcome). Spent (counted o) (added_by remembers mid.choices) mid.choices new.choices mid.memo new.memo asked) paused spent),
      λ always lasts. c.in_ok-outcome.ensures.took.lasts (subst (λ s. g.T.Tests.always s) (sym so_far.1) always) (so_far.7 always lasts),
    )

pub returns-clause-same : goal.returns-clause-same
returns-clause-same g c = c.loop-turn.invariant.0.same

pub returns-clause-subject : goal.returns-clause-subject
returns-clause-subject g c = c.loop-turn.invariant.1

pub returns-clause-running : goal.returns-clause-running
returns-clause-running g c = c.loop-turn.invariant.2

pub returns-clause-answers : goal.returns-clause-answers
returns-clause-answers g c = tt

pub returns-clause-left : goal.returns-clause-left
returns-clause-left g c =
    let all : c.loop-turn.turn ≡ c.args.budget = search rules in
    let left = c.loop-turn.invariant.0.left in
    record { never_rises = omega (arith, left); falls = omega (arith, left, all); paused = λ paused. omega (arith, left, all) }

pub returns-clause-within : goal.returns-clause-within
returns-clause-within g c =
    let all : c.loop-turn.turn ≡ c.args.budget = search rules in
    (omega (arith, c.loop-turn.invariant.5), omega (arith, c.loop-turn.invariant.5, all))

pub returns-clause-entries : goal.returns-clause-entries
returns-clause-entries g c = (c.loop-turn.invariant.4, omega (arith, c.loop-turn.invariant.3, c.loop-turn.invariant.5))

pub returns-clause-works : goal.returns-clause-works
returns-clause-works g c = λ always none.
    let asked : Asked = g.T.Tests.asked (g.T.Tests.subject c.args.tests.now) in
    let all : c.loop-turn.turn ≡ c.args.budget = search rules in
    subst (λ t. Works c.args.asleep t c.args.self.now c.loop-turn.self asked Paused) all (run_pauses c.args.asleep c.loop-turn.turn c.args.self.now c.loop-turn.self asked (c.loop-turn.invariant.6 always none))

pub returns-clause-lasts : goal.returns-clause-lasts
returns-clause-lasts g c = c.loop-turn.invariant.7

pub returns-clause-counted : goal.returns-clause-counted
returns-clause-counted g c =
    let all : c.loop-turn.turn ≡ c.args.budget = search rules in
    record { counted = omega (arith, c.loop-turn.invariant.5, all); some = c.requires.some; paused = λ paused. refl }

pub returns-then-ne-clause-counted : goal.returns-then-ne-clause-counted
returns-then-ne-clause-counted g c =
    record { counted = omega (arith, c.loop-turn.invariant.5, c.tick.ensures); some = omega arith; paused = search rules }

pub loop-turn-smaller : goal.loop-turn-smaller
loop-turn-smaller g c = omega (arith, c.loop-turn-test.true)
