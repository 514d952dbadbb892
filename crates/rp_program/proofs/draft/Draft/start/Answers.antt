use Rattle.std.proofs.Common.{refl}
use Rattle.rp_program.proofs.Making.{start_same, start_pair}
use Rattle.rp_program.proofs.draft.Draft.start.Goals as goal

pub returns-then-is_same : goal.returns-then-is_same
returns-then-is_same c =
    start_same c.args.self.now.places.items c.push.new.self.places.items c.args.next c.same.result c.in_ok-place.place c.requires (c.if-is_same.ensures refl) c.in_ok-place.ensures c.same.ensures

pub returns : goal.returns
returns c =
    start_pair c.args.self.now.places.items c.start_place.new.self.places.items c.push-2.new.self.places.items c.args.next c.in_ok-unmoved.unmoved c.in_ok-moved.moved c.requires c.in_ok-unmoved.ensures c.in_ok-moved.ensures
