use Rattle.std.proofs.Common.{◌++◌, ap, subst, sym}
use Rattle.std.proofs.lemmas.Result.{IfOk-from_err}
use Rattle.rp_io.proofs.Cutting.{on_err_from}
use Rattle.rp_io.proofs.Writes.{front_longer, front_none}
use Rattle.rp_io.specs.Devices.{Moves}
use Rattle.rp_walker.specs.Walking.{record_of}
use Rattle.rp_whole.specs.Answers.{limit_of}
use Rattle.rp_whole.specs.Writing.{bytes_to_come, part_of}
use Rattle.rp_whole.proofs.Items.{item_front, item_written, moves_all, none_moved, none_written}
use Rattle.rp_whole.proofs.Nexts.{after_item, after_pause, answer_is, walks_on}
use Rattle.rp_whole.proofs.ToCome.{none_to_come}
use Rattle.rp_whole.proofs.part.write_next.Goals as goal

-- an item

pub returns-in_ok-write_block-in-Item-clause-walks : goal.returns-in_ok-write_block-in-Item-clause-walks
returns-in_ok-write_block-in-Item-clause-walks g c = walks_on c.requires.can_be_polled.walks c.poll.ensures.stands c.poll.ensures.moves

pub returns-in_ok-write_block-in-Item-clause-written : goal.returns-in_ok-write_block-in-Item-clause-written
returns-in_ok-write_block-in-Item-clause-written g c =
    let is = answer_is c.requires.can_be_polled.walks c.poll.new.self c.in-Item.is c.in_ok-place.ensures.answers in
    item_written c.in-Item.place c.in-Item.item is c.in_ok-push-in-Item.ensures.bytes c.in_ok-write_block-in-Item.ensures.moves
    c.in_ok-push-in-Item.ensures.stopped c.in_ok-write_block-in-Item.ensures.stopped

pub returns-in_ok-write_block-in-Item-clause-next : goal.returns-in_ok-write_block-in-Item-clause-next
returns-in_ok-write_block-in-Item-clause-next g c =
    let walks = walks_on c.requires.can_be_polled.walks c.poll.ensures.stands c.poll.ensures.moves in
    let is = answer_is c.requires.can_be_polled.walks c.poll.new.self c.in-Item.is c.in_ok-place.ensures.answers in
    after_item c.requires.can_be_polled walks c.in-Item.place c.in-Item.item is (rw c.in-Item.is at c.in_ok-place.ensures.given) (rw c.in-Item.is at c.in_ok-place.ensures.lowers)

pub returns-in_ok-write_block-in-Item-clause-failures : goal.returns-in_ok-write_block-in-Item-clause-failures
returns-in_ok-write_block-in-Item-clause-failures g c = c.in_ok-write_block-in-Item.ensures.failures

-- a pause

pub returns-in_ok-write_gathered-in-Paused-clause-walks : goal.returns-in_ok-write_gathered-in-Paused-clause-walks
returns-in_ok-write_gathered-in-Paused-clause-walks g c = walks_on c.requires.can_be_polled.walks c.poll.ensures.stands c.poll.ensures.moves

pub returns-in_ok-write_gathered-in-Paused-clause-written : goal.returns-in_ok-write_gathered-in-Paused-clause-written
returns-in_ok-write_gathered-in-Paused-clause-written g c =
    let same = answer_is c.requires.can_be_polled.walks c.poll.new.self c.in-Paused.is c.in_ok-place.ensures.answers in
    let before = g.W.Outlet.contents c.args.writer.now in
    let after = g.W.Outlet.contents c.write_gathered.new.writer in
    let gathered = g.G.Gathered.bytes c.args.gathered.now in
    let wrote = c.in_ok-write_gathered-in-Paused.ensures in
    none_moved same (subst (Moves before gathered after) (sym wrote.none) (moves_all before after gathered wrote.written)) wrote.stopped

pub returns-in_ok-write_gathered-in-Paused-clause-next : goal.returns-in_ok-write_gathered-in-Paused-clause-next
returns-in_ok-write_gathered-in-Paused-clause-next g c =
    let walks = walks_on c.requires.can_be_polled.walks c.poll.ensures.stands c.poll.ensures.moves in
    let same = answer_is c.requires.can_be_polled.walks c.poll.new.self c.in-Paused.is c.in_ok-place.ensures.answers in
    after_pause c.requires.can_be_polled walks c.law_search.ensures.bounded (limit_of c.args.turns.now.limit) g.G.Gathered.form c.after_pause.result c.args.turns.now.some same
    (rw c.in-Paused.is at c.in_ok-place.ensures.lowers) (ap (λ r. r.at) c.state-row.ensures) c.after_pause.ensures.counts c.after_pause.ensures.next

pub returns-in_ok-write_gathered-in-Paused-clause-limit : goal.returns-in_ok-write_gathered-in-Paused-clause-limit
returns-in_ok-write_gathered-in-Paused-clause-limit g c = c.after_pause.ensures.limit

pub returns-in_ok-write_gathered-in-Paused-clause-failures : goal.returns-in_ok-write_gathered-in-Paused-clause-failures
returns-in_ok-write_gathered-in-Paused-clause-failures g c = c.in_ok-write_gathered-in-Paused.ensures.failures

-- no item is left

pub returns-in-Idle-clause-walks : goal.returns-in-Idle-clause-walks
returns-in-Idle-clause-walks g c = walks_on c.requires.can_be_polled.walks c.poll.ensures.stands c.poll.ensures.moves

pub returns-in-Idle-clause-written : goal.returns-in-Idle-clause-written
returns-in-Idle-clause-written g c =
    let is = answer_is c.requires.can_be_polled.walks c.poll.new.self c.in-Idle.is c.in_ok-place.ensures.answers in
    none_written is.0

pub returns-in-Idle-clause-next : goal.returns-in-Idle-clause-next
returns-in-Idle-clause-next g c =
    let part = part_of c.args.part.now in
    let is = answer_is c.requires.can_be_polled.walks c.poll.new.self c.in-Idle.is c.in_ok-place.ensures.answers in
    none_to_come g.G.Gathered.form c.args.query.now part (record_of c.args.walker.now) (record_of c.poll.new.self) is

-- a fault: a front is written, perhaps nothing, and the walker goes over the partition

pub returns-in_err-place-clause-walks : goal.returns-in_err-place-clause-walks
returns-in_err-place-clause-walks g c = walks_on c.requires.can_be_polled.walks c.poll.ensures.stands c.poll.ensures.moves

pub returns-in_err-place-clause-front : goal.returns-in_err-place-clause-front
returns-in_err-place-clause-front g c =
    on_err_from _ (front_none (g.W.Outlet.contents c.args.writer.now) (g.G.Gathered.bytes c.args.gathered.now
    ++ bytes_to_come g.G.Gathered.form c.args.query.now (part_of c.args.part.now) (record_of c.args.walker.now)))

pub returns-in_err-push-in-Item-clause-walks : goal.returns-in_err-push-in-Item-clause-walks
returns-in_err-push-in-Item-clause-walks g c = walks_on c.requires.can_be_polled.walks c.poll.ensures.stands c.poll.ensures.moves

pub returns-in_err-push-in-Item-clause-front : goal.returns-in_err-push-in-Item-clause-front
returns-in_err-push-in-Item-clause-front g c =
    on_err_from _ (front_none (g.W.Outlet.contents c.args.writer.now) (g.G.Gathered.bytes c.args.gathered.now
    ++ bytes_to_come g.G.Gathered.form c.args.query.now (part_of c.args.part.now) (record_of c.args.walker.now)))

pub returns-in_err-write_block-in-Item-clause-walks : goal.returns-in_err-write_block-in-Item-clause-walks
returns-in_err-write_block-in-Item-clause-walks g c = walks_on c.requires.can_be_polled.walks c.poll.ensures.stands c.poll.ensures.moves

pub returns-in_err-write_block-in-Item-clause-front : goal.returns-in_err-write_block-in-Item-clause-front
returns-in_err-write_block-in-Item-clause-front g c =
    let q = c.args.query.now in
    let part = part_of c.args.part.now in
    let is = answer_is c.requires.can_be_polled.walks c.poll.new.self c.in-Item.is c.in_ok-place.ensures.answers in
    on_err_from _ (item_front g.G.Gathered.form q part (record_of c.args.walker.now) (record_of c.poll.new.self) c.in-Item.place c.in-Item.item is
    (g.W.Outlet.contents c.args.writer.now) (g.W.Outlet.contents c.write_block.new.writer)
    (g.G.Gathered.bytes c.args.gathered.now) (g.G.Gathered.bytes c.push.new.self) c.in_ok-push-in-Item.ensures.bytes c.in_err-write_block-in-Item.ensures.front)

pub returns-in_err-write_gathered-in-Paused-clause-walks : goal.returns-in_err-write_gathered-in-Paused-clause-walks
returns-in_err-write_gathered-in-Paused-clause-walks g c = walks_on c.requires.can_be_polled.walks c.poll.ensures.stands c.poll.ensures.moves

pub returns-in_err-write_gathered-in-Paused-clause-front : goal.returns-in_err-write_gathered-in-Paused-clause-front
returns-in_err-write_gathered-in-Paused-clause-front g c =
    let come = bytes_to_come g.G.Gathered.form c.args.query.now (part_of c.args.part.now) (record_of c.args.walker.now) in
    on_err_from _ (front_longer (g.W.Outlet.contents c.args.writer.now) (g.W.Outlet.contents c.write_gathered.new.writer)
    (g.G.Gathered.bytes c.args.gathered.now) come c.in_err-write_gathered-in-Paused.ensures.front)

-- and it says nothing of what comes next

pub returns-in_err-place-clause-written : goal.returns-in_err-place-clause-written
returns-in_err-place-clause-written g c = IfOk-from_err c.from_residual.result _ c.from_residual.ensures.0

pub returns-in_err-place-clause-next : goal.returns-in_err-place-clause-next
returns-in_err-place-clause-next g c = IfOk-from_err c.from_residual.result _ c.from_residual.ensures.0

pub returns-in_err-push-in-Item-clause-written : goal.returns-in_err-push-in-Item-clause-written
returns-in_err-push-in-Item-clause-written g c = IfOk-from_err c.from_residual-in_err-push-in-Item.result _ c.from_residual-in_err-push-in-Item.ensures.0

pub returns-in_err-push-in-Item-clause-next : goal.returns-in_err-push-in-Item-clause-next
returns-in_err-push-in-Item-clause-next g c = IfOk-from_err c.from_residual-in_err-push-in-Item.result _ c.from_residual-in_err-push-in-Item.ensures.0

pub returns-in_err-write_block-in-Item-clause-written : goal.returns-in_err-write_block-in-Item-clause-written
returns-in_err-write_block-in-Item-clause-written g c = IfOk-from_err c.from_residual-in_err-write_block-in-Item.result _ c.from_residual-in_err-write_block-in-Item.ensures.0

pub returns-in_err-write_block-in-Item-clause-next : goal.returns-in_err-write_block-in-Item-clause-next
returns-in_err-write_block-in-Item-clause-next g c = IfOk-from_err c.from_residual-in_err-write_block-in-Item.result _ c.from_residual-in_err-write_block-in-Item.ensures.0

pub returns-in_err-write_gathered-in-Paused-clause-written : goal.returns-in_err-write_gathered-in-Paused-clause-written
returns-in_err-write_gathered-in-Paused-clause-written g c = IfOk-from_err c.from_residual-in_err-write_gathered-in-Paused.result _ c.from_residual-in_err-write_gathered-in-Paused.ensures.0

pub returns-in_err-write_gathered-in-Paused-clause-next : goal.returns-in_err-write_gathered-in-Paused-clause-next
returns-in_err-write_gathered-in-Paused-clause-next g c = IfOk-from_err c.from_residual-in_err-write_gathered-in-Paused.result _ c.from_residual-in_err-write_gathered-in-Paused.ensures.0
