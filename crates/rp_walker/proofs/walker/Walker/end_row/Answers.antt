use Rattle.std.proofs.Common.{Some, refl, sym, ap, ◌∙◌, subst, arith}
use Rattle.rp_search.specs.Bound.{MovesWork}
use Rattle.rp_query.specs.declared.item.Item.TheVariants.{Fault as FaultItem}
use Rattle.rp_known.specs.declared.place.Place.{Place}
use Rattle.rp_known.specs.Known.{known_in}
use Rattle.rp_known.specs.Walk.{after_found}
use Rattle.rp_walker.specs.declared.run.Run.{Run}
use Rattle.rp_walker.specs.declared.stage.Stage.TheVariants.{Begin as BeginStage, Giving as GivingStage}
use Rattle.rp_walker.specs.declared.walker.Walker.{Walker}
use Rattle.rp_walker.specs.Bound.{Spends, StepSpends, WorksBy}
use Rattle.rp_walker.specs.Given.{result_of}
use Rattle.rp_walker.specs.Records.{at_place, place_of}
use Rattle.rp_walker.specs.Stages.{Serves}
use Rattle.rp_walker.specs.Walking.{KeepsGoing}
use Rattle.rp_walker.proofs.Steps.{left_going}
use Rattle.rp_walker.proofs.Ends.{goes_to, leads_later, adds_all, ends_with}
use Rattle.rp_walker.proofs.Working.{last_spends, row_spends}
use Rattle.rp_walker.proofs.walker.Walker.end_row.Goals as goal

pub move_to-run-requires : goal.move_to-run-requires
move_to-run-requires g c =
    let w = c.args.self.now in
    let q = c.args.query.now in
    let follows = ap (λ (x : Place). after_found q x (result_of c.args.found)) (sym c.place_of-place.ensures) ∙ c.in-Ok.ensures in
    omega (arith, leads_later c.law_legs.ensures.searches q w.state (result_of c.args.found) c.in-Ok.next follows)

pub returns-in-Ok-clause-keeps : goal.returns-in-Ok-clause-keeps
returns-in-Ok-clause-keeps g c =
    let w = c.args.self.now in
    let q = c.args.query.now in
    let p = known_in g.R.Rows.known g.R.Rows.ending c.args.rows.now in
    let follows = ap (λ (x : Place). after_found q x (result_of c.args.found)) (sym c.place_of-place.ensures) ∙ c.in-Ok.ensures in
    subst (λ s. KeepsGoing 1 q p w.state (GivingStage c.args.found c.args.ahead) c.go_to.new.self s) (sym c.go_to.ensures.went)
    (subst (λ n. KeepsGoing 1 q p w.state (GivingStage c.args.found c.args.ahead) n _) (sym c.go_to.ensures.now)
    (goes_to c.law_legs.ensures.searches c.law_legs.ensures.searches_in_rows q p w c.args.found c.args.ahead c.requires.going c.requires.gives c.move_to-run.result c.requires.not_past c.requires.all c.in-Ok.next follows
    (c.move_to-run.ensures.ready q p w.state.at (subst (λ r. Serves q p w.state.at r) (sym c.into_run.ensures) c.requires.serves))))

pub returns-in-Err-clause-keeps : goal.returns-in-Err-clause-keeps
returns-in-Err-clause-keeps g c =
    let w = c.args.self.now in
    let q = c.args.query.now in
    let p = known_in g.R.Rows.known g.R.Rows.ending c.args.rows.now in
    let a = c.args.ahead in
    let x = FaultItem c.in-Err.fault in
    let follows = ap (λ (x : Place). after_found q x (result_of c.args.found)) (sym c.place_of-place.ensures) ∙ c.in-Err.ensures in
    ends_with q p w (GivingStage c.args.found a) _ x a.seen c.requires.going (omega (arith, left_going q p w.state (GivingStage c.args.found a) c.requires.going.going c.requires.gives.known)) c.requires.not_past
    (λ within.
    let adds = adds_all q p (place_of w.state) (result_of c.args.found) a c.requires.gives c.requires.all w.state.here c.requires.not_past within in
    record { items = adds.items; many = adds.many; is = adds.ends x follows })
    c.end_with.new.self c.end_with.result c.end_with.ensures.given c.end_with.ensures.gives

pub returns-in-Ok-clause-works : goal.returns-in-Ok-clause-works
returns-in-Ok-clause-works g c =
    let w = c.args.self.now in
    let q = c.args.query.now in
    let p = known_in g.R.Rows.known g.R.Rows.ending c.args.rows.now in
    let next = c.in-Ok.next in
    let run = c.move_to-run.result in
    let follows = ap (λ (x : Place). after_found q x (result_of c.args.found)) (sym c.place_of-place.ensures) ∙ c.in-Ok.ensures in
    let moves = subst (λ (r : Run). MovesWork r.search.value run.search.value) c.into_run.ensures c.move_to-run.ensures.works in
    let going = c.requires.going.going in
    subst (λ s. StepSpends 1 q p w.state (GivingStage c.args.found c.args.ahead) c.go_to.new.self s) (sym c.go_to.ensures.went)
    (subst (λ (n : Walker). Spends 1 0 q p w.state (GivingStage c.args.found c.args.ahead) n.state n.stage) (sym c.go_to.ensures.now)
    (row_spends q p w.state (at_place next w.state) run c.args.ahead going going c.requires.gives.known c.args.found next moves c.requires.serves.begins c.move_to-run.ensures.start refl refl follows))

pub returns-in-Err-clause-works : goal.returns-in-Err-clause-works
returns-in-Err-clause-works g c =
    let w = c.args.self.now in
    let q = c.args.query.now in
    let p = known_in g.R.Rows.known g.R.Rows.ending c.args.rows.now in
    let run = c.into_run-in-Err in
    last_spends q p w c.end_with.new.self (GivingStage c.args.found c.args.ahead) (BeginStage (Some run.result)) (FaultItem c.in-Err.fault) c.args.ahead.seen c.end_with.result c.requires.going.going
    (λ first row by. subst (λ (r : Run). WorksBy first row r.search.value) run.ensures by)
    c.end_with.ensures.given c.end_with.ensures.gives
