use Rattle.rp_program.proofs.Making.{row_leads}
use Rattle.rp_program.proofs.draft.Draft.variable.Goals as goal

pub returns : goal.returns
returns c =
    row_leads c.args.self.now.places.items c.push.new.self.places.items c.args.var c.args.excluded c.args.next c.same.result c.in_ok-place.place c.requires c.in_ok-place.ensures c.same.ensures
