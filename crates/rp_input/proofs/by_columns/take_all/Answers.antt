use Rattle.std.proofs.Common.{rules}
use Rattle.rp_input.specs.ByColumns.{IsByColumnsFault}
use Rattle.rp_input.proofs.by_columns.take_all.Goals as goal

pub returns-in_err-places-clause-err : goal.returns-in_err-places-clause-err
returns-in_err-places-clause-err c = λ text stands.
    let is : IsByColumnsFault c.args.nulls.now c.args.layout c.args.columns.now text c.in_err-places.field-0.0 =
    rw c.as_slice.ensures at (c.in_err-places.ensures.err c.args.nulls.now text stands) in
    search (rules, is)

pub returns-in_err-take_rows-clause-err : goal.returns-in_err-take_rows-clause-err
returns-in_err-take_rows-clause-err c = λ text stands.
    let is : IsByColumnsFault c.args.nulls.now c.args.layout c.args.columns.now text c.in_err-take_rows.field-0.0 =
    c.in_err-take_rows.ensures.err c.args.layout c.args.columns.now text (rw c.as_slice.ensures at (c.in_ok-places.ensures.ok text stands)) in
    search (rules, is)
