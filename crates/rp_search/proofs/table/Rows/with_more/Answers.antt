use Rattle.std.proofs.Common.{◌≡◌, ◌∙◌, length, arith}
use Rattle.rp_search.proofs.Tables.{taken_next, only_next}
use Rattle.rp_search.proofs.table.Rows.with_more.Goals as goal

pub loop-at-preserved : goal.loop-at-preserved
loop-at-preserved c =
    let slots : length c.take_over.new.self.slots.items ≡ length c.loop-at.rows.slots.items = c.take_over.ensures.slots in
    let some = c.loop-at.invariant.0 in (
      omega (arith, slots, some),
      (λ any. slots ∙ c.loop-at.invariant.1 any),
      taken_next c.args.self.now c.loop-at.rows c.take_over.new.self c.args.from c.loop-at.at c.loop-at.invariant.2 c.take_over.ensures.taken,
      only_next c.args.self.now c.loop-at.rows c.take_over.new.self c.loop-at.invariant.3 c.take_over.ensures.only,
    )
