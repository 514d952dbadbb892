use Rattle.rp_program.proofs.Making.{start_some}
use Rattle.rp_program.proofs.draft.Draft.start_place.Goals as goal

pub returns : goal.returns
returns c = start_some c.args.self.now.places.items c.push.new.self.places.items c.args.next c.in-Some.next c.in_ok-place.place c.in-Some.is c.requires c.in_ok-place.ensures
