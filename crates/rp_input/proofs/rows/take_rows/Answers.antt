use Rattle.std.proofs.Common.{◌≡◌, ◌≤◌, ◌+◌, ◌∷◌, true, false, rules, arith}
use Rattle.csv.specs.Records.{fields_of}
use Rattle.rp_value.specs.RowLists.{rows_added}
use Rattle.rp_input.specs.CsvRows.{IsTextFault, most_records}
use Rattle.rp_input.proofs.TakenRecords.{all_taken, fault_taken, first_taken, limit_taken, taken_more}
use Rattle.rp_input.proofs.rows.take_rows.Goals as goal

pub loop-number-init : goal.loop-number-init
loop-number-init c = λ text begins.
    rw c.requires (first_taken c.args.table.now text c.args.reader.now begins)

pub returns-then-not-branch-clause-ok : goal.returns-then-not-branch-clause-ok
returns-then-not-branch-clause-ok c = λ text begins.
    let t = c.loop-number.invariant text begins in
    let found : c.in_ok-take_record.field-0 ≡ false = search rules in
    let all = rw found at (c.in_ok-take_record.ensures 44 text (t.header ∷ t.records) t.stands) in
    let small : c.loop-number.number ≤ most_records + 1 = omega arith in
    all_taken c.args.table.now text (rows_added c.loop-number.taking.rows) c.loop-number.number c.loop-number.reader t small all

pub returns-in_err-take-clause-err : goal.returns-in_err-take-clause-err
returns-in_err-take-clause-err c = λ text begins.
    let t = c.loop-number.invariant text begins in
    let found : c.in_ok-take_record.field-0 ≡ true = search rules in
    let at = rw found at (c.in_ok-take_record.ensures 44 text (t.header ∷ t.records) t.stands) in
    let small : c.loop-number.number ≤ most_records = omega arith in
    let is : IsTextFault c.args.table.now text c.in_err-take.field-0.0 = fault_taken c.args.table.now text (rows_added c.loop-number.taking.rows) c.loop-number.number c.loop-number.reader t c.take_record.new.reader (fields_of c.take_record.new.fields) c.in_err-take.field-0.0 small at c.in_err-take.ensures.err in
    search (rules, is)

pub loop-number-preserved : goal.loop-number-preserved
loop-number-preserved c = λ text begins.
    let t = c.loop-number.invariant text begins in
    let found : c.in_ok-take_record.field-0 ≡ true = search rules in
    let at = rw found at (c.in_ok-take_record.ensures 44 text (t.header ∷ t.records) t.stands) in
    let one = c.in_ok-take.ensures.ok in
    rw one.2 (taken_more c.args.table.now text (rows_added c.loop-number.taking.rows) c.loop-number.number c.loop-number.reader t c.take_record.new.reader (fields_of c.take_record.new.fields) one.0 at one.1)

pub returns-then-branch-clause-err : goal.returns-then-branch-clause-err
returns-then-branch-clause-err c = λ text begins.
    let t = c.loop-number.invariant text begins in
    let found : c.in_ok-take_record-2.field-0 ≡ true = search rules in
    let at = rw found at (c.in_ok-take_record-2.ensures 44 text (t.header ∷ t.records) t.stands) in
    let last : c.loop-number.number ≡ most_records + 1 = omega arith in
    limit_taken c.args.table.now text (rows_added c.loop-number.taking.rows) c.loop-number.number c.loop-number.reader t c.take_record-2.new.reader (fields_of c.take_record-2.new.fields) at last

pub returns-clause-ok : goal.returns-clause-ok
returns-clause-ok c = λ text begins.
    let t = c.loop-number.invariant text begins in
    let found : c.in_ok-take_record-2.field-0 ≡ false = search rules in
    let all = rw found at (c.in_ok-take_record-2.ensures 44 text (t.header ∷ t.records) t.stands) in
    let small : c.loop-number.number ≤ most_records + 1 = omega arith in
    all_taken c.args.table.now text (rows_added c.loop-number.taking.rows) c.loop-number.number c.loop-number.reader t small all
