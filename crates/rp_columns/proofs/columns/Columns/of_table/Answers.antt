use Rattle.std.proofs.Common.{◌≡◌, ◌∙◌, ap, sym}
use Rattle.rp_columns.specs.Headings.{columns_for, headings}
use Rattle.rp_columns.proofs.TableColumns.{same_table}
use Rattle.rp_columns.proofs.columns.Columns.of_table.Goals as goal

pub returns-clause-table : goal.returns-clause-table
returns-clause-table c =
    let read : c.in_ok-columns.columns.items ≡ columns_for c.args.table.now = c.in_ok-columns.ensures ∙ ap columns_for c.columns.ensures.columns in
    ap headings read ∙ same_table c.args.table.now

pub invariant_of-result : goal.invariant_of-result
invariant_of-result c =
    let read : c.in_ok-columns.columns.items ≡ columns_for c.args.table.now = c.in_ok-columns.ensures ∙ ap columns_for c.columns.ensures.columns in
    c.in_ok-table.ensures ∙ sym (ap headings read ∙ same_table c.args.table.now)
