use Rattle.rp_program.proofs.Running.{begins}
use Rattle.rp_program.proofs.draft.Draft.whole.Goals as goal

pub returns : goal.returns
returns c =
    begins c.args.form.now c.args.self.now.places.items c.push.new.self.places.items c.before-2.new.self.places.items c.in_ok-end.end c.same.result c.in_ok-first.first c.requires c.in_ok-end.ensures c.same.ensures c.in_ok-first.ensures
