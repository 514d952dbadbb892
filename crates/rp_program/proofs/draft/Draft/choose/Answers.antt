use Rattle.std.proofs.Common.{refl}
use Rattle.rp_program.proofs.Making.{chooses_same, chooses_pair}
use Rattle.rp_program.proofs.draft.Draft.choose.Goals as goal

pub returns-then-is_same-2 : goal.returns-then-is_same-2
returns-then-is_same-2 c =
    chooses_same c.args.self.now.places.items c.push.new.self.places.items c.args.preferred c.args.other c.same.result c.in_ok-place.place
    (c.if-is_same.ensures refl) (c.if-is_same-2.ensures refl) c.requires.preferred c.requires.other c.in_ok-place.ensures c.same.ensures

pub returns : goal.returns
returns c =
    chooses_pair c.args.self.now.places.items c.choose_place.new.self.places.items c.push-2.new.self.places.items c.args.preferred c.args.other c.in_ok-unmoved.unmoved c.in_ok-moved.moved
    c.requires.preferred c.requires.other c.in_ok-unmoved.ensures c.in_ok-moved.ensures
