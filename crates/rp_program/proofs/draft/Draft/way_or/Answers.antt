use Rattle.std.proofs.Common.{Some}
use Rattle.rp_program.specs.declared.place.Place.TheVariants.{RowSplit}
use Rattle.rp_program.specs.Places.{parts}
use Rattle.rp_program.specs.Drafts.{Pushes, Puts}
use Rattle.rp_program.specs.Sets.{way_or}
use Rattle.rp_program.proofs.Making.{IfOk-map}
use Rattle.rp_program.proofs.Setting.{row_alone, row_or_place}
use Rattle.rp_program.proofs.draft.Draft.way_or.Goals as goal

pub returns-in_default : goal.returns-in_default
returns-in_default c =
    let a = c.args in
    row_alone a.self.now.places.items c.push.new.self.places.items a.var a.excluded a.others a.next a.other c.in_ok-place.place c.in_default.is c.requires.next c.in_ok-place.ensures

pub returns : goal.returns
returns c =
    let a = c.args in
    let old = a.self.now.places.items in
    let mid = c.push.new.self.places.items in
    let new = c.push-2.new.self.places.items in
    IfOk-map (Pushes (RowSplit c.in_ok-place.place c.in-Some.other a.others) mid new) (λ place. Puts (λ n e i. way_or n e (parts n e old) a.excluded a.others (a.var, a.next) a.other) old new (Some place))
    (λ number h. row_or_place old mid new a.var a.excluded a.others a.next a.other c.in_ok-place.place c.in-Some.other number c.in-Some.is c.requires.next c.requires.other c.in_ok-place.ensures h)
    c.push-2.result c.push-2.ensures
