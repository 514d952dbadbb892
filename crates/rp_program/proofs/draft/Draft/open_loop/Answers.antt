use Rattle.rp_program.specs.declared.place.Place.TheVariants.{Loop}
use Rattle.rp_program.specs.Drafts.{Pushes, Opens}
use Rattle.rp_program.proofs.Making.{IfOk-map}
use Rattle.rp_program.proofs.Closing.{opens}
use Rattle.rp_program.proofs.draft.Draft.open_loop.Goals as goal

pub returns : goal.returns
returns c =
    let a = c.args in
    let copy = c.in_ok-clone.field-0 in
    let old = a.self.now.places.items in
    let new = c.push.new.self.places.items in
    IfOk-map (Pushes (Loop a.next a.next copy a.excluded a.reluctant a.next) old new) (Opens a.body.now.value a.excluded a.reluctant a.next old new)
    (λ number h. opens a.body.now.value copy a.excluded a.reluctant a.next a.next a.next number old new c.in_ok-clone.ensures.cases h) c.push.result c.push.ensures
