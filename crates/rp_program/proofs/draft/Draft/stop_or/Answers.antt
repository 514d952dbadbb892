use Rattle.rp_program.proofs.Making.{stops_pair}
use Rattle.rp_program.proofs.draft.Draft.stop_or.Goals as goal

pub returns : goal.returns
returns c =
    stops_pair c.args.self.now.places.items c.stop_or_place.new.self.places.items c.stop_or_none.new.self.places.items c.args.reluctant c.args.another c.args.next c.in_ok-unmoved.unmoved c.in_ok-moved.moved
    c.requires.another c.requires.next c.in_ok-moved.ensures c.in_ok-unmoved.ensures
