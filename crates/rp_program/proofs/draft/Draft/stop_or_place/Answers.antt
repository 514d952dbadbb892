use Rattle.std.proofs.Common.{Some}
use Rattle.rp_program.specs.declared.place.Place.TheVariants.{Split}
use Rattle.rp_program.specs.Drafts.{Pushes, StopsOr}
use Rattle.rp_program.proofs.Making.{IfOk-map, stops_lazy, stops_greedy}
use Rattle.rp_program.proofs.draft.Draft.stop_or_place.Goals as goal

pub returns-then-reluctant : goal.returns-then-reluctant
returns-then-reluctant c =
    let a = c.args in
    let old = a.self.now.places.items in
    let new = c.push.new.self.places.items in
    IfOk-map (Pushes (Split a.stop c.in-Some.another) old new) (λ place. StopsOr a.reluctant a.another (Some a.stop) old new (Some place))
    (λ place h. stops_lazy old new a.reluctant a.another c.in-Some.another a.stop place c.if-reluctant.true c.in-Some.is c.requires.another c.requires.stop h) c.push.result c.push.ensures

pub returns : goal.returns
returns c =
    let a = c.args in
    let old = a.self.now.places.items in
    let new = c.push-2.new.self.places.items in
    IfOk-map (Pushes (Split c.in-Some.another a.stop) old new) (λ place. StopsOr a.reluctant a.another (Some a.stop) old new (Some place))
    (λ place h. stops_greedy old new a.reluctant a.another c.in-Some.another a.stop place c.if-reluctant.false c.in-Some.is c.requires.another c.requires.stop h) c.push-2.result c.push-2.ensures
