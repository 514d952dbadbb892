use Rattle.std.proofs.Common.{◌≡◌, ◌+◌, Ok, Err, false, sym, ap, ◌∙◌, length, arith, rules}
use Rattle.std.specs.VecDeque.{deque_len}
use Rattle.rp_feed.specs.declared.answer.FeedFault.TheVariants.{OutOfMemory}
use Rattle.rp_feed.specs.declared.answer.Taken.TheVariants.{New}
use Rattle.rp_feed.specs.Consistent.{fed_of}
use Rattle.rp_feed.specs.Fed.{first_missing, with_row}
use Rattle.rp_feed.specs.Answers.{is_past, memory_aside}
use Rattle.rp_feed.proofs.Places.{below_within}
use Rattle.rp_feed.proofs.Answering.{due_held, held_row, too_far, new_row, row_put, run_at_least, limit_put, room_put}
use Rattle.rp_feed.proofs.feed.Feed.take.Goals as goal

pub returns-in-Some-clause-answer : goal.returns-in-Some-clause-answer
returns-in-Some-clause-answer c =
    let unpast : is_past c.self.inside.closed c.args.number ≡ false = cc in
    rw (← c.self.view_is) (ap memory_aside c.repeat_if.ensures ∙ due_held c.in-Some.same (Ok New)
    ∙ held_row c.self.inside.first c.self.inside.ready c.self.inside.rows.items c.self.inside.closed c.self.invariant _ c.args.number c.args.row _ c.place_of-place.ensures
    c.if-number-eq0.false c.if-number-gt-MAX_NUMBER.false unpast c.if-number-self.false c.in-Some.same (Ok New) (sym c.in-Some.is ∙ c.compare_at.ensures))

pub returns-then-number-self-2-clause-answer : goal.returns-then-number-self-2-clause-answer
returns-then-number-self-2-clause-answer c =
    let unpast : is_past c.self.inside.closed c.args.number ≡ false = cc in
    rw (← c.self.view_is) (too_far c.self.inside.first c.self.inside.ready c.self.inside.rows.items c.self.inside.closed c.self.invariant _ c.args.number c.args.row _ c.place_of-place.ensures
    c.if-number-eq0.false c.if-number-gt-MAX_NUMBER.false unpast c.if-number-self.false (sym c.in_default.is ∙ c.compare_at.ensures) c.if-number-self-2.true)

pub insert-requires : goal.insert-requires
insert-requires c =
    let p = c.place_of-place.ensures in
    let w = below_within c.args.number c.self.inside.rows.items in
    let e : length c.self.inside.rows.items ≡ deque_len c.self.inside.rows = search rules in
    omega (arith, p, w, e)

pub returns-in_err-insert-clause-answer : goal.returns-in_err-insert-clause-answer
returns-in_err-insert-clause-answer c =
    let unpast : is_past c.self.inside.closed c.args.number ≡ false = cc in
    let fault : c.from_residual.result ≡ Err OutOfMemory = search rules in
    rw (fault, ← c.self.view_is) (new_row c.self.inside.first c.self.inside.ready c.self.inside.rows.items c.self.inside.closed c.self.invariant _ c.args.number c.args.row _ c.place_of-place.ensures
    c.if-number-eq0.false c.if-number-gt-MAX_NUMBER.false unpast c.if-number-self.false (sym c.in_default.is ∙ c.compare_at.ensures) c.if-number-self-2.false)

pub run_on-self-inside-requires-clause-known : goal.run_on-self-inside-requires-clause-known
run_on-self-inside-requires-clause-known c =
    let unpast : is_past c.self.inside.closed c.args.number ≡ false = cc in
    let is : c.insert.new.self.items ≡ with_row c.args.number c.args.row c.self.inside.rows.items = c.in_ok-insert.ensures.items ∙ row_put c.self.inside.first c.self.inside.ready c.self.inside.rows.items c.self.inside.closed c.self.invariant _ c.args.number c.args.row _ c.place_of-place.ensures
    c.if-number-eq0.false c.if-number-gt-MAX_NUMBER.false unpast c.if-number-self.false (sym c.in_default.is ∙ c.compare_at.ensures) in
    rw is (run_at_least c.self.inside.first c.self.inside.ready c.self.inside.rows.items c.self.inside.closed c.self.invariant _ c.args.number c.args.row _ c.place_of-place.ensures
    c.if-number-eq0.false c.if-number-gt-MAX_NUMBER.false unpast c.if-number-self.false (sym c.in_default.is ∙ c.compare_at.ensures))

pub run_on-self-inside-requires-clause-limit : goal.run_on-self-inside-requires-clause-limit
run_on-self-inside-requires-clause-limit c =
    let unpast : is_past c.self.inside.closed c.args.number ≡ false = cc in
    let is : c.insert.new.self.items ≡ with_row c.args.number c.args.row c.self.inside.rows.items = c.in_ok-insert.ensures.items ∙ row_put c.self.inside.first c.self.inside.ready c.self.inside.rows.items c.self.inside.closed c.self.invariant _ c.args.number c.args.row _ c.place_of-place.ensures
    c.if-number-eq0.false c.if-number-gt-MAX_NUMBER.false unpast c.if-number-self.false (sym c.in_default.is ∙ c.compare_at.ensures) in
    rw is (limit_put c.self.inside.first c.self.inside.ready c.self.inside.rows.items c.self.inside.closed c.self.invariant _ c.args.number c.args.row _ c.place_of-place.ensures
    c.if-number-eq0.false c.if-number-gt-MAX_NUMBER.false unpast c.if-number-self.false (sym c.in_default.is ∙ c.compare_at.ensures))

pub invariant_of-self-2 : goal.invariant_of-self-2
invariant_of-self-2 c =
    let unpast : is_past c.self.inside.closed c.args.number ≡ false = cc in
    let is : c.insert.new.self.items ≡ with_row c.args.number c.args.row c.self.inside.rows.items = c.in_ok-insert.ensures.items ∙ row_put c.self.inside.first c.self.inside.ready c.self.inside.rows.items c.self.inside.closed c.self.invariant _ c.args.number c.args.row _ c.place_of-place.ensures
    c.if-number-eq0.false c.if-number-gt-MAX_NUMBER.false unpast c.if-number-self.false (sym c.in_default.is ∙ c.compare_at.ensures) in
    let run : c.self.inside.first + c.run_on-self-inside.result ≡ first_missing c.self.inside.first (with_row c.args.number c.args.row c.self.inside.rows.items) = c.run_on-self-inside.ensures ∙ ap (first_missing c.self.inside.first) is in
    rw is (room_put c.self.inside.first c.self.inside.ready c.self.inside.rows.items c.self.inside.closed c.self.invariant _ c.args.number c.args.row _ c.place_of-place.ensures
    c.if-number-eq0.false c.if-number-gt-MAX_NUMBER.false unpast c.if-number-self.false (sym c.in_default.is ∙ c.compare_at.ensures) _ run c.if-number-self-2.false)

pub returns-clause-answer : goal.returns-clause-answer
returns-clause-answer c =
    let unpast : is_past c.self.inside.closed c.args.number ≡ false = cc in
    rw (← c.self.view_is) (new_row c.self.inside.first c.self.inside.ready c.self.inside.rows.items c.self.inside.closed c.self.invariant _ c.args.number c.args.row _ c.place_of-place.ensures
    c.if-number-eq0.false c.if-number-gt-MAX_NUMBER.false unpast c.if-number-self.false (sym c.in_default.is ∙ c.compare_at.ensures) c.if-number-self-2.false)

pub returns-clause-changes : goal.returns-clause-changes
returns-clause-changes c =
    let unpast : is_past c.self.inside.closed c.args.number ≡ false = cc in
    let is : c.insert.new.self.items ≡ with_row c.args.number c.args.row c.self.inside.rows.items = c.in_ok-insert.ensures.items ∙ row_put c.self.inside.first c.self.inside.ready c.self.inside.rows.items c.self.inside.closed c.self.invariant _ c.args.number c.args.row _ c.place_of-place.ensures
    c.if-number-eq0.false c.if-number-gt-MAX_NUMBER.false unpast c.if-number-self.false (sym c.in_default.is ∙ c.compare_at.ensures) in
    rw (← c.self.view_is) (ap (λ z. fed_of c.self.inside.first z c.self.inside.closed) is)
