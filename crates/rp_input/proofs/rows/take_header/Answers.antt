use Rattle.std.proofs.Common.{◌≡◌, [], true, false, rules}
use Rattle.csv.specs.Records.{fields_of}
use Rattle.rp_input.specs.Headers.{NamesColumns}
use Rattle.rp_input.proofs.TakenRecords.{no_header, other_header}
use Rattle.rp_input.proofs.rows.take_header.Goals as goal

pub returns-then-not-branch-clause-err : goal.returns-then-not-branch-clause-err
returns-then-not-branch-clause-err c = λ text stands.
    let found : c.in_ok-take_record.field-0 ≡ false = search rules in
    no_header c.args.table.now text (rw found at (c.in_ok-take_record.ensures 44 text [] stands))

pub returns-then-not-branch-2-clause-err : goal.returns-then-not-branch-2-clause-err
returns-then-not-branch-2-clause-err c = λ text stands.
    let found : c.in_ok-take_record.field-0 ≡ true = search rules in
    let at = rw found at (c.in_ok-take_record.ensures 44 text [] stands) in
    let told : c.in_ok-names_columns.field-0 ≡ false = search rules in
    let other = rw (told, c.columns.ensures.columns) at c.in_ok-names_columns.ensures in
    other_header c.args.table.now text c.take_record.new.reader (fields_of c.take_record.new.fields) at other

pub returns-clause-ok : goal.returns-clause-ok
returns-clause-ok c = λ text stands.
    let found : c.in_ok-take_record.field-0 ≡ true = search rules in
    let at = rw found at (c.in_ok-take_record.ensures 44 text [] stands) in
    let told : c.in_ok-names_columns.field-0 ≡ true = search rules in
    let named : NamesColumns c.args.table.now (fields_of c.take_record.new.fields) = rw (told, c.columns.ensures.columns) at c.in_ok-names_columns.ensures in
    record { header = fields_of c.take_record.new.fields; stands = at; named = named }
