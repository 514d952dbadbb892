use Rattle.std.proofs.Common.{rules}
use Rattle.rp_input.specs.CsvRows.{IsTextFault}
use Rattle.rp_input.proofs.rows.take_all.Goals as goal

pub returns-in_err-take_header-clause-err : goal.returns-in_err-take_header-clause-err
returns-in_err-take_header-clause-err c = λ text stands.
    let is : IsTextFault c.args.table.now text c.in_err-take_header.field-0.0 = c.in_err-take_header.ensures.err text stands in
    search (rules, is)

pub returns-in_err-take_rows-clause-err : goal.returns-in_err-take_rows-clause-err
returns-in_err-take_rows-clause-err c = λ text stands.
    let is : IsTextFault c.args.table.now text c.in_err-take_rows.field-0.0 = c.in_err-take_rows.ensures.err text (c.in_ok-take_header.ensures.ok text stands) in
    search (rules, is)
