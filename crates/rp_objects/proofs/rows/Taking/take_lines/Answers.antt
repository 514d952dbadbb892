use Rattle.std.proofs.Common.{◌≡◌, ◌≤◌, ◌+◌, Err, rules, subst, sym, arith}
use Rattle.rp_value.specs.RowLists.{rows_added}
use Rattle.rp_objects.specs.ObjectRows.{most_objects}
use Rattle.rp_objects.proofs.LinesTaken.{Taken, all_taken, fault_taken, taken_more, too_many}
use Rattle.rp_objects.proofs.rows.Taking.take_lines.Goals as goal

pub returns-in-None-clause-ok : goal.returns-in-None-clause-ok
returns-in-None-clause-ok c =
    let small : c.loop-number.number ≤ most_objects + 1 = omega arith in
    all_taken c.args.nulls.now c.args.columns.now c.args.text.now (rows_added c.loop-number.self.rows) c.loop-number.number
    c.loop-number.lines.rest.now c.loop-number.lines.taken c.loop-number.invariant c.in-None.ensures.none small

pub returns-in_err-take-clause-err : goal.returns-in_err-take-clause-err
returns-in_err-take-clause-err c =
    let small : c.loop-number.number ≤ most_objects = omega arith in
    let fault = c.in_err-take.field-0.0 in
    let is : c.from_residual.result ≡ Err fault = search rules in
    rw is (fault_taken c.args.nulls.now c.args.columns.now c.args.text.now (rows_added c.loop-number.self.rows) c.loop-number.number
    c.loop-number.lines.rest.now c.loop-number.lines.taken c.loop-number.invariant
    c.next_full.new.self.rest.now c.next_full.new.self.taken c.in-Some.line.now c.in-Some.ensures.full fault small c.in_err-take.ensures.err)

pub loop-number-preserved : goal.loop-number-preserved
loop-number-preserved c =
    let one = c.in_ok-take.ensures.ok in
    let more : Taken c.args.nulls.now c.args.columns.now c.args.text.now _ (c.loop-number.number + 1) c.next_full.new.self.rest.now c.next_full.new.self.taken =
    taken_more c.args.nulls.now c.args.columns.now c.args.text.now (rows_added c.loop-number.self.rows) c.loop-number.number
    c.loop-number.lines.rest.now c.loop-number.lines.taken c.loop-number.invariant
    c.next_full.new.self.rest.now c.next_full.new.self.taken c.in-Some.line.now c.in-Some.ensures.full one.0 one.1 c.in-Some.ensures.fewer in
    subst (λ rows. Taken c.args.nulls.now c.args.columns.now c.args.text.now rows (c.loop-number.number + 1) c.next_full.new.self.rest.now c.next_full.new.self.taken) (sym one.2) more

pub returns-in-Some-next_full-clause-err : goal.returns-in-Some-next_full-clause-err
returns-in-Some-next_full-clause-err c =
    let last : c.loop-number.number ≡ most_objects + 1 = omega arith in
    too_many c.args.nulls.now c.args.columns.now c.args.text.now (rows_added c.loop-number.self.rows) c.loop-number.number
    c.loop-number.lines.rest.now c.loop-number.lines.taken c.loop-number.invariant
    c.next_full-2.new.self.rest.now c.next_full-2.new.self.taken c.in-Some-next_full._line.now c.in-Some-next_full.ensures.full last

pub returns-in-None-next_full-clause-ok : goal.returns-in-None-next_full-clause-ok
returns-in-None-next_full-clause-ok c =
    let small : c.loop-number.number ≤ most_objects + 1 = omega arith in
    all_taken c.args.nulls.now c.args.columns.now c.args.text.now (rows_added c.loop-number.self.rows) c.loop-number.number
    c.loop-number.lines.rest.now c.loop-number.lines.taken c.loop-number.invariant c.in-None-next_full.ensures.none small
