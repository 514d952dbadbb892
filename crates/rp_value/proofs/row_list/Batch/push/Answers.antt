use Rattle.std.proofs.Common.{rules, ◌≡◌, ◌∙◌, ◌+◌, ◌*◌, ◌++◌, length, ap}
use Rattle.rp_value.specs.Blocks.{cut_apart}
use Rattle.rp_value.specs.RowLists.{batch_rows}
use Rattle.rp_value.proofs.Blocks.{row_added}
use Rattle.rp_value.proofs.row_list.Batch.push.Goals as goal

pub returns-clause-ok : goal.returns-clause-ok
unfolding batch_rows
returns-clause-ok c =
    let batch = c.args.self.now in
    let more = c.args.cells.now.items in
    let appended : c.append.new.self.items ≡ batch.cells.items ++ more = search rules in
    let many : length batch.cells.items ≡ batch.count * batch.width = search rules in
    let wide : length more ≡ batch.width = search rules in
    ap (λ cells. cut_apart batch.width (batch.count + 1) cells) appended
    ∙ row_added batch.width batch.count batch.cells.items more many wide
