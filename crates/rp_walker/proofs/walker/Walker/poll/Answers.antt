use Rattle.std.proofs.Common.{◌≡◌, ℕ, ◌-◌, arith, None, refl, ap, subst}
use Rattle.rp_known.specs.Known.{known_in}
use Rattle.rp_walker.specs.Records.{IsWithin}
use Rattle.rp_walker.specs.declared.stage.Stage.TheVariants.{Begin}
use Rattle.rp_walker.specs.Stages.{left_with}
use Rattle.rp_walker.specs.Walking.{GoesOnWell, stands_by, Stands, record_of}
use Rattle.rp_walker.specs.Polls.{Polled, Answers, StopsAtLast, StartsAgain, left_in, entered_by}
use Rattle.rp_walker.proofs.Begins.{if_ok_map}
use Rattle.rp_walker.proofs.Steps.{stands_counted}
use Rattle.rp_walker.proofs.Public.{answers, stops_at_last, goes_along, stays_along, on_err_map}
use Rattle.rp_walker.specs.declared.poll.Poll.TheVariants.{Idle, Paused}
use Rattle.rp_walker.specs.Bound.{PollWorks, Spends, last_turn}
use Rattle.rp_walker.proofs.Working.{none_spends, poll_works}
use Rattle.rp_walker.proofs.walker.Walker.poll.Goals as goal

pub returns-clause-stands : goal.returns-clause-stands
unfolding Stands record_of left_in entered_by
returns-clause-stands g c =
    let q = c.args.query.now in
    let k = known_in g.R.Rows.known g.R.Rows.ending c.args.rows.now in
    let new = c.go_on-answer.new.self in
    stands_counted new.state.over q k new c.go_on-answer.new.entered c.go_on-answer.ensures.stands

pub returns-clause-answers : goal.returns-clause-answers
unfolding Stands record_of left_in entered_by
returns-clause-answers g c =
    let q = c.args.query.now in
    let k = known_in g.R.Rows.known g.R.Rows.ending c.args.rows.now in
    let w = c.args.self.now in
    let new = c.go_on-answer.new.self in
    let well : GoesOnWell q k w = subst (λ b. stands_by b q k w) c.if-self.false c.requires.stands in
    if_ok_map (λ answer. IsWithin q k w.state → Polled q k w.state new.state answer) (Answers q k w.state new.state) c.go_on-answer.result
    (λ answer polled. answers c.law_steps.ensures c.law_legs.ensures.lead c.law_known.ensures.short q c.plan-plan.ensures.sound k (g.met.R.Rows.few c.args.rows.now) w.state new.state c.if-self.false well.going.from_one c.go_on-answer.ensures.first answer polled)
    c.go_on-answer.ensures.polled

pub returns-clause-stops : goal.returns-clause-stops
unfolding Stands record_of left_in entered_by
returns-clause-stops g c =
    let q = c.args.query.now in
    let k = known_in g.R.Rows.known g.R.Rows.ending c.args.rows.now in
    let w = c.args.self.now in
    let new = c.go_on-answer.new.self in
    let well : GoesOnWell q k w = subst (λ b. stands_by b q k w) c.if-self.false c.requires.stands in
    if_ok_map (λ answer. IsWithin q k w.state → Polled q k w.state new.state answer) (StopsAtLast q k w.state new.state) c.go_on-answer.result
    (λ answer polled. stops_at_last c.law_steps.ensures c.law_legs.ensures.lead c.law_known.ensures.short q c.plan-plan.ensures.sound k (g.met.R.Rows.few c.args.rows.now) w.state new.state c.if-self.false well.going.from_one c.go_on-answer.ensures.first answer polled)
    c.go_on-answer.ensures.polled

pub returns-clause-moves : goal.returns-clause-moves
unfolding Stands record_of left_in entered_by
returns-clause-moves g c =
    let q = c.args.query.now in
    let k = known_in g.R.Rows.known g.R.Rows.ending c.args.rows.now in
    let w = c.args.self.now in
    let new = c.go_on-answer.new.self in
    let well : GoesOnWell q k w = subst (λ b. stands_by b q k w) c.if-self.false c.requires.stands in
    goes_along c.law_steps.ensures c.law_legs.ensures.lead c.law_known.ensures.short q c.plan-plan.ensures.sound k (g.met.R.Rows.few c.args.rows.now) w.state new.state c.if-self.false well.going.from_one
    c.go_on-answer.ensures.first c.go_on-answer.ensures.moves

pub returns-then-budget-eq0-clause-moves : goal.returns-then-budget-eq0-clause-moves
unfolding Stands record_of left_in entered_by
returns-then-budget-eq0-clause-moves g c =
    stays_along c.args.query.now (known_in g.R.Rows.known g.R.Rows.ending c.args.rows.now) c.args.self.now.state

pub returns-then-self-clause-moves : goal.returns-then-self-clause-moves
unfolding Stands record_of left_in entered_by
returns-then-self-clause-moves g c =
    stays_along c.args.query.now (known_in g.R.Rows.known g.R.Rows.ending c.args.rows.now) c.args.self.now.state

pub returns-clause-stays : goal.returns-clause-stays
unfolding Stands record_of left_in entered_by
returns-clause-stays g c = record { first = c.go_on-answer.ensures.first; place = c.go_on-answer.ensures.in_rows }

pub returns-then-budget-eq0-clause-stays : goal.returns-then-budget-eq0-clause-stays
unfolding Stands record_of left_in entered_by
returns-then-budget-eq0-clause-stays g c = record { first = refl; place = λ h. h }

pub returns-then-self-clause-stays : goal.returns-then-self-clause-stays
unfolding Stands record_of left_in entered_by
returns-then-self-clause-stays g c = record { first = refl; place = λ h. h }

pub returns-clause-out_of_memory : goal.returns-clause-out_of_memory
unfolding Stands record_of left_in entered_by
returns-clause-out_of_memory g c =
    let q = c.args.query.now in
    let k = known_in g.R.Rows.known g.R.Rows.ending c.args.rows.now in
    let new = c.go_on-answer.new.self in
    on_err_map ((new.state.given ≡ c.args.self.now.state.given) × (new.stage ≡ Begin None)) (StartsAgain q k c.args.self.now.state.given new.state (left_with q k new.state new.stage)) c.go_on-answer.result
    (λ kept. record { given = kept.0; left = ap (λ s. left_with q k new.state s) kept.1 }) c.go_on-answer.ensures.kept

pub returns-clause-works : goal.returns-clause-works
returns-clause-works g c =
    let q = c.args.query.now in
    let k = known_in g.R.Rows.known g.R.Rows.ending c.args.rows.now in
    let w = c.args.self.now in
    let new = c.go_on-answer.new.self in
    let taken : ℕ = c.go_on-answer.new.steps - c.args.steps.now in
    if_ok_map (λ answer. Spends taken (last_turn answer) q k w.state w.stage new.state new.stage) (PollWorks taken q k w (record new { entered = c.go_on-answer.new.entered })) c.go_on-answer.result
    (λ answer spends. poll_works taken q k w (record new { entered = c.go_on-answer.new.entered }) answer spends) c.go_on-answer.ensures.works

pub returns-then-budget-eq0-clause-works : goal.returns-then-budget-eq0-clause-works
returns-then-budget-eq0-clause-works g c =
    let q = c.args.query.now in
    let k = known_in g.R.Rows.known g.R.Rows.ending c.args.rows.now in
    let w = c.args.self.now in
    poll_works (c.args.steps.now - c.args.steps.now) q k w w Paused (none_spends (c.args.steps.now - c.args.steps.now) 0 q k w.state w.stage (omega arith))

pub returns-then-self-clause-works : goal.returns-then-self-clause-works
returns-then-self-clause-works g c =
    let q = c.args.query.now in
    let k = known_in g.R.Rows.known g.R.Rows.ending c.args.rows.now in
    let w = c.args.self.now in
    poll_works (c.args.steps.now - c.args.steps.now) q k w w Idle (none_spends (c.args.steps.now - c.args.steps.now) 1 q k w.state w.stage (omega arith))
