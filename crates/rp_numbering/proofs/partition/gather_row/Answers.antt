use Rattle.std.proofs.Common.{◌≡◌, subst}
use Rattle.std.specs.Prelude.{OnOk}
use Rattle.rp_query.specs.Keys.{values_in}
use Rattle.rp_numbering.specs.Gathering.{parts_added, with_row}
use Rattle.rp_numbering.proofs.partition.gather_row.Goals as goal

pub returns : goal.returns
returns c =
    let before = parts_added c.args.parts.now.entries in
    let after = parts_added c.add_row.new.parts.entries in
    let key = values_in c.args.columns.now c.args.row.now in
    subst (λ row. OnOk c.add_row.result (after ≡ with_row before key row)) c.in_ok-copy_cells.ensures
    (subst (λ key. OnOk c.add_row.result (after ≡ with_row before key c.copy_cells.new.cells.items)) c.in_ok-key.ensures c.add_row.ensures)
