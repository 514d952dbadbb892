use Rattle.rp_program.proofs.Making.{choose_some}
use Rattle.rp_program.proofs.draft.Draft.choose_place.Goals as goal

pub returns-in_ok-place-in-Some-Some : goal.returns-in_ok-place-in-Some-Some
returns-in_ok-place-in-Some-Some c =
    choose_some c.args.self.now.places.items c.push.new.self.places.items c.args.preferred c.args.other c.in-Some-Some.preferred c.in-Some-Some.other c.in_ok-place-in-Some-Some.place
    c.in-Some-Some.is-0 c.in-Some-Some.is-1 c.requires.preferred c.requires.other c.in_ok-place-in-Some-Some.ensures
