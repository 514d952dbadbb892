use Rattle.std.proofs.Common.{◌≡◌, ◌∙◌, [], refl, ap, arith}
use Rattle.std.proofs.lemmas.Grind.{common_steps}
use Rattle.std.specs.Vec.Iter.{into_iter_items, into_iter_len}
use Rattle.std.specs.declared.vec.IntoIter.{IntoIter}
use Rattle.rp_io.proofs.Cutting.{on_err_from}
use Rattle.rp_whole.specs.Answers.{limit_of}
use Rattle.rp_whole.proofs.InOrder.{all_front, all_written, none_written, part_front, part_written, stopped_front}
use Rattle.rp_whole.proofs.parts.write_parts.Goals as goal

-- An iterator of length 0 has no elements left.
none_left : {X Z : Type 0} (it : IntoIter X Z) → into_iter_len it ≡ 0 → into_iter_items it ≡ []
none_left it none = grind (arith, common_steps, none)

pub loop-key-init : goal.loop-key-init
loop-key-init g c = record {
  written = none_written c.into_iter-key-iterator.ensures.into_iter_gives.0 c.new-halted.ensures.items;
  limit = c.new-turns.ensures;
  failures = refl;
}

pub returns-in_err-order_rows-clause-front : goal.returns-in_err-order_rows-clause-front
returns-in_err-order_rows-clause-front g c = on_err_from _ (stopped_front c.loop-key.invariant.written c.law_orders.ensures)

pub returns-in_err-given_up-clause-front : goal.returns-in_err-given_up-clause-front
returns-in_err-given_up-clause-front g c =
    on_err_from _ (part_front (g.W.Outlet.contents c.write_part.new.writer) c.order_rows.new.rows.items c.loop-key.invariant.written c.in-Some.ensures.steps.0 c.in_ok-order_rows.ensures.ok
    c.law_orders.ensures c.in_err-given_up.ensures.front)

pub returns-in_err-push_halted-clause-front : goal.returns-in_err-push_halted-clause-front
returns-in_err-push_halted-clause-front g c =
    on_err_from _ (stopped_front
    (part_written (g.W.Outlet.contents c.write_part.new.writer) c.order_rows.new.rows.items c.loop-key.invariant.written c.in-Some.ensures.steps.0 c.in_ok-order_rows.ensures.ok
    c.in_ok-given_up.ensures.written (ap limit_of c.loop-key.invariant.limit) refl) c.law_orders.ensures)

pub loop-key-preserved : goal.loop-key-preserved
loop-key-preserved g c = record {
  written = part_written (g.W.Outlet.contents c.write_part.new.writer) c.order_rows.new.rows.items c.loop-key.invariant.written c.in-Some.ensures.steps.0 c.in_ok-order_rows.ensures.ok
      c.in_ok-given_up.ensures.written (ap limit_of c.loop-key.invariant.limit) c.in_ok-push_halted.ensures;
  limit = c.write_part.ensures.limit ∙ c.loop-key.invariant.limit;
  failures = c.in_ok-given_up.ensures.failures ∙ c.loop-key.invariant.failures;
}

pub returns-in_err-write_gathered-clause-front : goal.returns-in_err-write_gathered-clause-front
returns-in_err-write_gathered-clause-front g c =
    on_err_from _ (all_front (g.W.Outlet.contents c.write_gathered.new.writer) c.loop-key.invariant.written (none_left c.loop-key.key-iterator c.in-None.ensures.steps.0)
    c.in_err-write_gathered.ensures.front)

pub returns-clause-written : goal.returns-clause-written
returns-clause-written g c =
    all_written (g.W.Outlet.contents c.write_gathered.new.writer) c.loop-key.invariant.written (none_left c.loop-key.key-iterator c.in-None.ensures.steps.0)
    c.in_ok-write_gathered.ensures.stopped c.in_ok-write_gathered.ensures.written
