use Rattle.std.proofs.Common.{◌≡◌, ◌+◌, ◌-◌, None, refl, sym, ap, ◌∙◌, subst, arith}
use Rattle.std.proofs.lemmas.Result.{IfOk-from_err}
use Rattle.rp_known.specs.Known.{known_in}
use Rattle.rp_walker.specs.declared.stage.Stage.TheVariants.{Begin}
use Rattle.rp_walker.specs.declared.stage.Step.TheVariants.{Went, Gave, Idle}
use Rattle.rp_walker.specs.declared.walker.Walker.{Walker}
use Rattle.rp_walker.specs.Bound.{StepSpends}
use Rattle.rp_walker.specs.Records.{StandsInRows}
use Rattle.rp_walker.specs.Steps.{Moves}
use Rattle.rp_walker.specs.Walking.{EndsBy, IsGivenBy, KeepsGoing, stands_by}
use Rattle.rp_walker.proofs.Public.{on_err_from}
use Rattle.rp_walker.proofs.Steps.{stays_put, stands_going}
use Rattle.rp_walker.proofs.Polling.{further, polled_gave, polled_idle}
use Rattle.rp_walker.proofs.Working.{none_spends, spends_then}
use Rattle.rp_walker.proofs.walker.Walker.go_on.Goals as goal

pub loop-left-init : goal.loop-left-init
loop-left-init g c =
    let w = c.args.self.now in
    let q = c.args.query.now in
    let p = known_in g.R.Rows.known g.R.Rows.ending c.args.rows.now in
    record {
      stands = stands_going q p w c.requires.stands.going c.requires.stands.stands;
      in_rows = λ h. h;
      first = refl;
      given = refl;
      lowered = omega arith;
      moved = λ within. stays_put q p w.state c.requires.stands.going.going within;
      worked = none_spends (c.args.budget - c.args.budget) 0 q p w.state w.stage (omega arith);
      within = omega arith;
      counted = omega arith;
      entered = omega arith;
      grows = omega arith;
      begins = λ _. c.requires.stands.going.going;
    }

pub returns-in-Gave-clause-polled : goal.returns-in-Gave-clause-polled
returns-in-Gave-clause-polled g c = λ within.
    let i = c.loop-left.invariant in
    let q = c.args.query.now in
    let p = known_in g.R.Rows.known g.R.Rows.ending c.args.rows.now in
    let now = c.loop-left.self in
    let next = c.advance.new.self in
    let k = subst (λ s. KeepsGoing c.in_ok-step.taken q p now.state now.stage next s) c.in-Gave.is c.in_ok-step.ensures.keeps in
    let leads = c.law_legs.ensures.lead in
    polled_gave leads q p c.args.self.now.state now next (i.moved within) c.in-Gave.item i.given (further leads q p c.args.self.now.state now next (i.moved within) c.in_ok-step.taken now.stage (Gave c.in-Gave.item) k)

pub returns-in-Gave-clause-moves : goal.returns-in-Gave-clause-moves
returns-in-Gave-clause-moves g c = λ within.
    let q = c.args.query.now in
    let p = known_in g.R.Rows.known g.R.Rows.ending c.args.rows.now in
    let now = c.loop-left.self in
    let next = c.advance.new.self in
    let moved = c.loop-left.invariant.moved within in
    (further c.law_legs.ensures.lead q p c.args.self.now.state now next moved c.in_ok-step.taken now.stage c.in_ok-step.step c.in_ok-step.ensures.keeps).moves

pub returns-in-Idle-clause-moves : goal.returns-in-Idle-clause-moves
returns-in-Idle-clause-moves g c = λ within.
    let q = c.args.query.now in
    let p = known_in g.R.Rows.known g.R.Rows.ending c.args.rows.now in
    let now = c.loop-left.self in
    let next = c.advance.new.self in
    let moved = c.loop-left.invariant.moved within in
    (further c.law_legs.ensures.lead q p c.args.self.now.state now next moved c.in_ok-step.taken now.stage c.in_ok-step.step c.in_ok-step.ensures.keeps).moves

pub returns-in-Idle-clause-polled : goal.returns-in-Idle-clause-polled
returns-in-Idle-clause-polled g c = λ within.
    let i = c.loop-left.invariant in
    let q = c.args.query.now in
    let p = known_in g.R.Rows.known g.R.Rows.ending c.args.rows.now in
    let now = c.loop-left.self in
    let next = c.advance.new.self in
    let k = subst (λ s. KeepsGoing c.in_ok-step.taken q p now.state now.stage next s) c.in-Idle.is c.in_ok-step.ensures.keeps in
    let leads = c.law_legs.ensures.lead in
    polled_idle leads q p c.args.self.now.state now next (i.moved within) i.given (further leads q p c.args.self.now.state now next (i.moved within) c.in_ok-step.taken now.stage Idle k)

pub returns-in_err-step-clause-moves : goal.returns-in_err-step-clause-moves
returns-in_err-step-clause-moves g c = λ within.
    let q = c.args.query.now in
    let p = known_in g.R.Rows.known g.R.Rows.ending c.args.rows.now in
    let same : c.advance.new.self.state ≡ c.loop-left.self.state = ap (λ (w : Walker). w.state) c.in_err-step.ensures.kept in
    subst (λ r. Moves q p c.args.self.now.state r) (sym same) (c.loop-left.invariant.moved within)

pub returns-in_err-step-clause-in_rows : goal.returns-in_err-step-clause-in_rows
returns-in_err-step-clause-in_rows g c = λ h.
    let same : c.advance.new.self.state ≡ c.loop-left.self.state = ap (λ (w : Walker). w.state) c.in_err-step.ensures.kept in
    subst (λ r. StandsInRows (known_in g.R.Rows.known g.R.Rows.ending c.args.rows.now) r) (sym same) (c.loop-left.invariant.in_rows h)

pub returns-in-Gave-clause-in_rows : goal.returns-in-Gave-clause-in_rows
returns-in-Gave-clause-in_rows g c = λ h. c.in_ok-step.ensures.keeps.in_rows (c.loop-left.invariant.in_rows h)

pub returns-in-Idle-clause-in_rows : goal.returns-in-Idle-clause-in_rows
returns-in-Idle-clause-in_rows g c = λ h. c.in_ok-step.ensures.keeps.in_rows (c.loop-left.invariant.in_rows h)

pub loop-left-preserved : goal.loop-left-preserved
loop-left-preserved g c =
    let i = c.loop-left.invariant in
    let q = c.args.query.now in
    let p = known_in g.R.Rows.known g.R.Rows.ending c.args.rows.now in
    let now = c.loop-left.self in
    let next = c.advance.new.self in
    let k = subst (λ s. KeepsGoing c.in_ok-step.taken q p now.state now.stage next s) c.in-Went.is c.in_ok-step.ensures.keeps in
    let works = subst (λ s. StepSpends c.in_ok-step.taken q p now.state now.stage next s) c.in-Went.is c.in_ok-step.ensures.works in
    let leads = c.law_legs.ensures.lead in
    record {
      stands = k.stands;
      in_rows = λ h. k.in_rows (i.in_rows h);
      first = k.first ∙ i.first;
      given = k.given ∙ i.given;
      lowered = omega (arith, i.lowered, i.within, k.lowers);
      moved = λ within. (further leads q p c.args.self.now.state now next (i.moved within) c.in_ok-step.taken now.stage Went k).moves;
      worked = spends_then (c.args.budget - c.loop-left.left) c.in_ok-step.taken 0 q p c.args.self.now.state c.args.self.now.stage now.state now.stage next.state next.stage _
          (omega (arith, i.within, c.advance.ensures.turns.0, c.in_ok-step.ensures.taken.1)) i.worked works;
      within = omega (arith, i.within);
      counted = omega (arith, i.counted, c.in_ok-step.ensures.taken.1, c.advance.ensures.turns.0);
      entered = omega (arith, i.entered, c.in_ok-step.ensures.taken.1, c.advance.ensures.turns.0, c.advance.ensures.turns.1);
      grows = omega (arith, i.grows, c.advance.ensures.turns.2);
      begins = λ all. absurd (omega (arith, all, i.within, c.in_ok-step.ensures.taken.0, c.advance.ensures.turns.0));
    }

pub returns-in-Gave-clause-works : goal.returns-in-Gave-clause-works
returns-in-Gave-clause-works g c =
    let i = c.loop-left.invariant in
    let q = c.args.query.now in
    let p = known_in g.R.Rows.known g.R.Rows.ending c.args.rows.now in
    let now = c.loop-left.self in
    let next = c.advance.new.self in
    let works = subst (λ s. StepSpends c.in_ok-step.taken q p now.state now.stage next s) c.in-Gave.is c.in_ok-step.ensures.works in
    spends_then (c.args.budget - c.loop-left.left) c.in_ok-step.taken 0 q p c.args.self.now.state c.args.self.now.stage now.state now.stage next.state next.stage _
    (omega (arith, i.within, i.counted, c.in_ok-step.ensures.taken.1)) i.worked works

pub returns-in-Idle-clause-works : goal.returns-in-Idle-clause-works
returns-in-Idle-clause-works g c =
    let i = c.loop-left.invariant in
    let q = c.args.query.now in
    let p = known_in g.R.Rows.known g.R.Rows.ending c.args.rows.now in
    let now = c.loop-left.self in
    let next = c.advance.new.self in
    let works = subst (λ s. StepSpends c.in_ok-step.taken q p now.state now.stage next s) c.in-Idle.is c.in_ok-step.ensures.works in
    spends_then (c.args.budget - c.loop-left.left) c.in_ok-step.taken 1 q p c.args.self.now.state c.args.self.now.stage now.state now.stage next.state next.stage _
    (omega (arith, i.within, i.counted, c.in_ok-step.ensures.taken.1)) i.worked works

-- the answer is over, or no further item can be told

pub returns-then-self-clause-stands : goal.returns-then-self-clause-stands
returns-then-self-clause-stands g c = c.loop-left.invariant.stands

pub returns-then-self-clause-in_rows : goal.returns-then-self-clause-in_rows
returns-then-self-clause-in_rows g c = c.loop-left.invariant.in_rows

pub returns-then-self-clause-first : goal.returns-then-self-clause-first
returns-then-self-clause-first g c = c.loop-left.invariant.first

pub returns-then-self-clause-given : goal.returns-then-self-clause-given
returns-then-self-clause-given g c = c.loop-left.invariant.given

pub returns-then-self-clause-lowers : goal.returns-then-self-clause-lowers
returns-then-self-clause-lowers g c = omega (arith, c.loop-left.invariant.lowered)

pub returns-then-self-clause-moves : goal.returns-then-self-clause-moves
returns-then-self-clause-moves g c = c.loop-left.invariant.moved

pub returns-then-self-clause-works : goal.returns-then-self-clause-works
returns-then-self-clause-works g c =
    let i = c.loop-left.invariant in
    let q = c.args.query.now in
    let p = known_in g.R.Rows.known g.R.Rows.ending c.args.rows.now in
    let now = c.loop-left.self in
    spends_then (c.args.budget - c.loop-left.left) 0 1 q p c.args.self.now.state c.args.self.now.stage now.state now.stage now.state now.stage _
    (omega (arith, i.within, i.counted)) i.worked (none_spends 0 1 q p now.state now.stage refl)

pub returns-then-self-clause-turns : goal.returns-then-self-clause-turns
returns-then-self-clause-turns g c =
    let i = c.loop-left.invariant in
    (omega (arith, i.counted), omega (arith, i.counted, i.entered), i.grows)

pub returns-then-self-clause-takes : goal.returns-then-self-clause-takes
returns-then-self-clause-takes g c = omega (arith, c.loop-left.invariant.counted, c.loop-left.invariant.within)

-- a step

pub advance-requires-clause-some : goal.advance-requires-clause-some
advance-requires-clause-some g c = c.loop-left-test.true

pub advance-requires-clause-stands : goal.advance-requires-clause-stands
advance-requires-clause-stands g c =
    let p = known_in g.R.Rows.known g.R.Rows.ending c.args.rows.now in
    subst (λ b. stands_by b c.args.query.now p c.loop-left.self) c.if-self.false c.loop-left.invariant.stands

-- out of memory

pub returns-in_err-step-clause-stands : goal.returns-in_err-step-clause-stands
returns-in_err-step-clause-stands g c =
    let q = c.args.query.now in
    let p = known_in g.R.Rows.known g.R.Rows.ending c.args.rows.now in
    let now = c.loop-left.self in
    let well = subst (λ b. stands_by b q p now) c.if-self.false c.loop-left.invariant.stands in
    subst (λ (w : Walker). stands_by w.state.over q p w) (sym c.in_err-step.ensures.kept) (stands_going q p (record now { stage = Begin None }) well.going tt)

pub returns-in_err-step-clause-first : goal.returns-in_err-step-clause-first
returns-in_err-step-clause-first g c = ap (λ (w : Walker). w.state.first) c.in_err-step.ensures.kept ∙ c.loop-left.invariant.first

pub returns-in_err-step-clause-kept : goal.returns-in_err-step-clause-kept
returns-in_err-step-clause-kept g c =
    let kept = c.in_err-step.ensures.kept in
    on_err_from c.from_residual.result (ap (λ (w : Walker). w.state.given) kept ∙ c.loop-left.invariant.given, ap (λ (w : Walker). w.stage) kept)

pub returns-in_err-step-clause-turns : goal.returns-in_err-step-clause-turns
returns-in_err-step-clause-turns g c =
    let i = c.loop-left.invariant in
    let turns = c.advance.ensures.turns in
    (omega (arith, i.counted, turns.0), omega (arith, i.counted, i.entered, turns.0, turns.1), omega (arith, i.grows, turns.2))

pub returns-in_err-step-clause-given : goal.returns-in_err-step-clause-given
returns-in_err-step-clause-given g c = IfOk-from_err c.from_residual.result _ c.from_residual.ensures.0

pub returns-in_err-step-clause-lowers : goal.returns-in_err-step-clause-lowers
returns-in_err-step-clause-lowers g c = IfOk-from_err c.from_residual.result _ c.from_residual.ensures.0

pub returns-in_err-step-clause-polled : goal.returns-in_err-step-clause-polled
returns-in_err-step-clause-polled g c = IfOk-from_err c.from_residual.result _ c.from_residual.ensures.0

pub returns-in_err-step-clause-works : goal.returns-in_err-step-clause-works
returns-in_err-step-clause-works g c = IfOk-from_err c.from_residual.result _ c.from_residual.ensures.0

pub returns-in_err-step-clause-takes : goal.returns-in_err-step-clause-takes
returns-in_err-step-clause-takes g c = IfOk-from_err c.from_residual.result _ c.from_residual.ensures.0

pub returns-in_err-step-clause-idles : goal.returns-in_err-step-clause-idles
returns-in_err-step-clause-idles g c = IfOk-from_err c.from_residual.result _ c.from_residual.ensures.0

-- an item

pub returns-in-Gave-clause-stands : goal.returns-in-Gave-clause-stands
returns-in-Gave-clause-stands g c = c.in_ok-step.ensures.keeps.stands

pub returns-in-Gave-clause-first : goal.returns-in-Gave-clause-first
returns-in-Gave-clause-first g c = c.in_ok-step.ensures.keeps.first ∙ c.loop-left.invariant.first

pub returns-in-Gave-clause-given : goal.returns-in-Gave-clause-given
returns-in-Gave-clause-given g c =
    let k = subst (λ s. IsGivenBy s c.loop-left.self.state.given c.advance.new.self.state.given × EndsBy s c.advance.new.self.state.over) c.in-Gave.is (c.in_ok-step.ensures.keeps.given, c.in_ok-step.ensures.keeps.over) in
    (refl, k.0 ∙ ap (λ n. n + 1) c.loop-left.invariant.given, k.1)

pub returns-in-Gave-clause-lowers : goal.returns-in-Gave-clause-lowers
returns-in-Gave-clause-lowers g c =
    let q = c.args.query.now in
    let p = known_in g.R.Rows.known g.R.Rows.ending c.args.rows.now in
    let now = c.loop-left.self in
    let next = c.advance.new.self in
    let k = subst (λ s. KeepsGoing c.in_ok-step.taken q p now.state now.stage next s) c.in-Gave.is c.in_ok-step.ensures.keeps in
    omega (arith, c.loop-left.invariant.lowered, k.lowers)

pub returns-in-Gave-clause-turns : goal.returns-in-Gave-clause-turns
returns-in-Gave-clause-turns g c =
    let i = c.loop-left.invariant in
    let turns = c.advance.ensures.turns in
    (omega (arith, i.counted, turns.0), omega (arith, i.counted, i.entered, turns.0, turns.1), omega (arith, i.grows, turns.2))

pub returns-in-Gave-clause-takes : goal.returns-in-Gave-clause-takes
returns-in-Gave-clause-takes g c = omega (arith, c.loop-left.invariant.counted, c.loop-left.invariant.within, c.in_ok-step.ensures.taken.0, c.in_ok-step.ensures.taken.1)

-- nothing yet

pub returns-in-Idle-clause-stands : goal.returns-in-Idle-clause-stands
returns-in-Idle-clause-stands g c = c.in_ok-step.ensures.keeps.stands

pub returns-in-Idle-clause-first : goal.returns-in-Idle-clause-first
returns-in-Idle-clause-first g c = c.in_ok-step.ensures.keeps.first ∙ c.loop-left.invariant.first

pub returns-in-Idle-clause-given : goal.returns-in-Idle-clause-given
returns-in-Idle-clause-given g c =
    subst (λ s. IsGivenBy s c.loop-left.self.state.given c.advance.new.self.state.given) c.in-Idle.is c.in_ok-step.ensures.keeps.given ∙ c.loop-left.invariant.given

pub returns-in-Idle-clause-lowers : goal.returns-in-Idle-clause-lowers
returns-in-Idle-clause-lowers g c =
    let q = c.args.query.now in
    let p = known_in g.R.Rows.known g.R.Rows.ending c.args.rows.now in
    let now = c.loop-left.self in
    let next = c.advance.new.self in
    let k = subst (λ s. KeepsGoing c.in_ok-step.taken q p now.state now.stage next s) c.in-Idle.is c.in_ok-step.ensures.keeps in
    omega (arith, c.loop-left.invariant.lowered, k.lowers)

pub returns-in-Idle-clause-turns : goal.returns-in-Idle-clause-turns
returns-in-Idle-clause-turns g c =
    let i = c.loop-left.invariant in
    let turns = c.advance.ensures.turns in
    (omega (arith, i.counted, turns.0), omega (arith, i.counted, i.entered, turns.0, turns.1), omega (arith, i.grows, turns.2))

pub returns-in-Idle-clause-takes : goal.returns-in-Idle-clause-takes
returns-in-Idle-clause-takes g c = omega (arith, c.loop-left.invariant.counted, c.loop-left.invariant.within, c.in_ok-step.ensures.taken.1)

pub returns-in-Idle-clause-idles : goal.returns-in-Idle-clause-idles
returns-in-Idle-clause-idles g c = λ over few. omega (arith, c.loop-left.invariant.counted, c.loop-left.invariant.within, c.in_ok-step.ensures.taken.0, c.in_ok-step.ensures.taken.1)

-- the turns are used up

pub returns-clause-stands : goal.returns-clause-stands
returns-clause-stands g c = c.loop-left.invariant.stands

pub returns-clause-in_rows : goal.returns-clause-in_rows
returns-clause-in_rows g c = c.loop-left.invariant.in_rows

pub returns-clause-first : goal.returns-clause-first
returns-clause-first g c = c.loop-left.invariant.first

pub returns-clause-given : goal.returns-clause-given
returns-clause-given g c = c.loop-left.invariant.given

pub returns-clause-lowers : goal.returns-clause-lowers
returns-clause-lowers g c = omega (arith, c.loop-left.invariant.lowered, c.loop-left-test.false)

pub returns-clause-polled : goal.returns-clause-polled
returns-clause-polled g c = λ within. record { moves = c.loop-left.invariant.moved within; is = c.loop-left.invariant.given }

pub returns-clause-moves : goal.returns-clause-moves
returns-clause-moves g c = c.loop-left.invariant.moved

pub returns-clause-works : goal.returns-clause-works
returns-clause-works g c =
    let i = c.loop-left.invariant in
    let q = c.args.query.now in
    let p = known_in g.R.Rows.known g.R.Rows.ending c.args.rows.now in
    let now = c.loop-left.self in
    spends_then (c.args.budget - c.loop-left.left) 0 0 q p c.args.self.now.state c.args.self.now.stage now.state now.stage now.state now.stage _
    (omega (arith, i.within, i.counted)) i.worked (none_spends 0 0 q p now.state now.stage refl)

pub returns-clause-turns : goal.returns-clause-turns
returns-clause-turns g c =
    let i = c.loop-left.invariant in
    (omega (arith, i.counted), omega (arith, i.counted, i.entered), i.grows)

pub returns-clause-takes : goal.returns-clause-takes
returns-clause-takes g c = omega (arith, c.loop-left.invariant.counted, c.loop-left-test.false)
