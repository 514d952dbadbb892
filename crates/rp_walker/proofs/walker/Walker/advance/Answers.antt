use Rattle.std.proofs.Common.{◌≡◌, OnErr, IfOk, sym, subst, arith}
use Rattle.std.proofs.lemmas.Result.{IfOk-from_err}
use Rattle.rp_known.specs.Known.{known_in}
use Rattle.rp_walker.specs.Bound.{StepSpends}
use Rattle.rp_walker.specs.Stages.{StageStands}
use Rattle.rp_walker.specs.Walking.{KeepsGoing}
use Rattle.rp_walker.proofs.walker.Walker.advance.Goals as goal

pub begin_row-requires-clause-going : goal.begin_row-requires-clause-going
begin_row-requires-clause-going g c = c.requires.stands.going

pub begin_row-requires-clause-stage : goal.begin_row-requires-clause-stage
begin_row-requires-clause-stage g c = c.in-Begin.ensures.after

pub begin_row-requires-clause-spare : goal.begin_row-requires-clause-spare
begin_row-requires-clause-spare g c =
    let p = known_in g.R.Rows.known g.R.Rows.ending c.args.rows.now in
    subst (StageStands c.args.query.now p c.args.self.now.state) (sym c.in-Begin.ensures.value) c.requires.stands.stands

pub search-requires-clause-going : goal.search-requires-clause-going
search-requires-clause-going g c = c.requires.stands.going

pub search-requires-clause-searches : goal.search-requires-clause-searches
search-requires-clause-searches g c =
    let p = known_in g.R.Rows.known g.R.Rows.ending c.args.rows.now in
    subst (StageStands c.args.query.now p c.args.self.now.state) (sym c.in-Searching.ensures.value) c.requires.stands.stands

pub give-requires-clause-going : goal.give-requires-clause-going
give-requires-clause-going g c = c.requires.stands.going

pub give-requires-clause-gives : goal.give-requires-clause-gives
give-requires-clause-gives g c =
    let p = known_in g.R.Rows.known g.R.Rows.ending c.args.rows.now in
    (subst (StageStands c.args.query.now p c.args.self.now.state) (sym c.in-Giving.ensures.value) c.requires.stands.stands).0

pub give-requires-clause-totals : goal.give-requires-clause-totals
give-requires-clause-totals g c =
    let p = known_in g.R.Rows.known g.R.Rows.ending c.args.rows.now in
    (subst (StageStands c.args.query.now p c.args.self.now.state) (sym c.in-Giving.ensures.value) c.requires.stands.stands).2

pub give-requires-clause-serves : goal.give-requires-clause-serves
give-requires-clause-serves g c =
    let p = known_in g.R.Rows.known g.R.Rows.ending c.args.rows.now in
    (subst (StageStands c.args.query.now p c.args.self.now.state) (sym c.in-Giving.ensures.value) c.requires.stands.stands).3

pub give-requires-clause-not_past : goal.give-requires-clause-not_past
give-requires-clause-not_past g c =
    let p = known_in g.R.Rows.known g.R.Rows.ending c.args.rows.now in
    (subst (StageStands c.args.query.now p c.args.self.now.state) (sym c.in-Giving.ensures.value) c.requires.stands.stands).1

pub returns-in-Begin-clause-kept : goal.returns-in-Begin-clause-kept
returns-in-Begin-clause-kept g c =
    let w = c.args.self.now in
    subst (λ s. OnErr c.begin_row.result (c.begin_row.new.self ≡ record w { stage = s })) c.in-Begin.ensures.after c.begin_row.ensures.kept

pub returns-in-Begin-clause-keeps : goal.returns-in-Begin-clause-keeps
returns-in-Begin-clause-keeps g c =
    let w = c.args.self.now in
    let p = known_in g.R.Rows.known g.R.Rows.ending c.args.rows.now in
    subst (λ s. IfOk c.begin_row.result (λ r. KeepsGoing r.1 c.args.query.now p w.state s c.begin_row.new.self r.0)) c.in-Begin.ensures.value c.begin_row.ensures.keeps

pub returns-in-Begin-clause-works : goal.returns-in-Begin-clause-works
returns-in-Begin-clause-works g c =
    let w = c.args.self.now in
    let p = known_in g.R.Rows.known g.R.Rows.ending c.args.rows.now in
    subst (λ s. IfOk c.begin_row.result (λ r. StepSpends r.1 c.args.query.now p w.state s c.begin_row.new.self r.0)) c.in-Begin.ensures.value c.begin_row.ensures.works

pub returns-in-Begin-clause-taken : goal.returns-in-Begin-clause-taken
returns-in-Begin-clause-taken g c = c.begin_row.ensures.taken

pub returns-in-Begin-clause-turns : goal.returns-in-Begin-clause-turns
returns-in-Begin-clause-turns g c = c.begin_row.ensures.turns

pub returns-in-Searching-clause-kept : goal.returns-in-Searching-clause-kept
returns-in-Searching-clause-kept g c =
    let w = c.args.self.now in
    subst (λ s. OnErr c.search.result (c.search.new.self ≡ record w { stage = s })) c.in-Searching.ensures.after c.search.ensures.kept

pub returns-in-Searching-clause-keeps : goal.returns-in-Searching-clause-keeps
returns-in-Searching-clause-keeps g c =
    let w = c.args.self.now in
    let p = known_in g.R.Rows.known g.R.Rows.ending c.args.rows.now in
    subst (λ s. IfOk c.search.result (λ r. KeepsGoing r.1 c.args.query.now p w.state s c.search.new.self r.0)) c.in-Searching.ensures.value c.search.ensures.keeps

pub returns-in-Searching-clause-works : goal.returns-in-Searching-clause-works
returns-in-Searching-clause-works g c =
    let w = c.args.self.now in
    let p = known_in g.R.Rows.known g.R.Rows.ending c.args.rows.now in
    subst (λ s. IfOk c.search.result (λ r. StepSpends r.1 c.args.query.now p w.state s c.search.new.self r.0)) c.in-Searching.ensures.value c.search.ensures.works

pub returns-in-Searching-clause-taken : goal.returns-in-Searching-clause-taken
returns-in-Searching-clause-taken g c = c.search.ensures.taken

pub returns-in-Searching-clause-turns : goal.returns-in-Searching-clause-turns
returns-in-Searching-clause-turns g c = c.search.ensures.turns

pub returns-in_ok-step-in-Giving-clause-keeps : goal.returns-in_ok-step-in-Giving-clause-keeps
returns-in_ok-step-in-Giving-clause-keeps g c =
    let w = c.args.self.now in
    let p = known_in g.R.Rows.known g.R.Rows.ending c.args.rows.now in
    subst (λ s. KeepsGoing 1 c.args.query.now p w.state s c.give.new.self c.in_ok-step-in-Giving.step) c.in-Giving.ensures.value c.in_ok-step-in-Giving.ensures.keeps

pub returns-in_ok-step-in-Giving-clause-works : goal.returns-in_ok-step-in-Giving-clause-works
returns-in_ok-step-in-Giving-clause-works g c =
    let w = c.args.self.now in
    let p = known_in g.R.Rows.known g.R.Rows.ending c.args.rows.now in
    subst (λ s. StepSpends 1 c.args.query.now p w.state s c.give.new.self c.in_ok-step-in-Giving.step) c.in-Giving.ensures.value c.in_ok-step-in-Giving.ensures.works

pub returns-in_ok-step-in-Giving-clause-taken : goal.returns-in_ok-step-in-Giving-clause-taken
returns-in_ok-step-in-Giving-clause-taken g c = (omega arith, c.give.ensures.steps)

pub returns-in_ok-step-in-Giving-clause-turns : goal.returns-in_ok-step-in-Giving-clause-turns
returns-in_ok-step-in-Giving-clause-turns g c = (omega (arith, c.requires.some, c.give.ensures.steps), omega (arith, c.give.ensures.steps), omega arith)

pub returns-in_err-step-in-Giving-clause-keeps : goal.returns-in_err-step-in-Giving-clause-keeps
returns-in_err-step-in-Giving-clause-keeps g c = IfOk-from_err c.from_residual.result _ c.from_residual.ensures.0

pub returns-in_err-step-in-Giving-clause-works : goal.returns-in_err-step-in-Giving-clause-works
returns-in_err-step-in-Giving-clause-works g c = IfOk-from_err c.from_residual.result _ c.from_residual.ensures.0

pub returns-in_err-step-in-Giving-clause-taken : goal.returns-in_err-step-in-Giving-clause-taken
returns-in_err-step-in-Giving-clause-taken g c = IfOk-from_err c.from_residual.result _ c.from_residual.ensures.0
