use Rattle.rp_program.proofs.Setting.{SetsPut}
use Rattle.rp_program.proofs.draft.Draft.any_order.Given as goal

abbrev pub invariant-loop-set : goal.invariant-loop-set
invariant-loop-set l = SetsPut l.vars l.excluded l.fn.next.moved l.fn.self.places.items l.self.places.items l.table.items l.place l._set
