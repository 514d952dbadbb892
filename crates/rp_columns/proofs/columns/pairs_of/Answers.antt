use Rattle.std.proofs.Common.{◌≡◌, ◌∙◌, ap, rules}
use Rattle.std.proofs.lemmas.List.{map_push}
use Rattle.rp_value.specs.Tables.{column_of, columns_of}
use Rattle.rp_columns.specs.Headings.{heading}
use Rattle.rp_columns.proofs.Mapped.{made_all, made_more}
use Rattle.rp_columns.proofs.columns.pairs_of.Goals as goal

pub loop-column-preserved : goal.loop-column-preserved
loop-column-preserved c =
    let column = c.column-item.result in
    let pairs = c.loop-column.pairs.items in
    let made_of : column_of (c.in_ok-name.name, c.kind.result) ≡ heading column = search rules in
    made_more heading c.args.columns.now c.loop-column.column-index column (column_of (c.in_ok-name.name, c.kind.result)) (columns_of pairs) (columns_of c.push.new.self.items)
    c.loop-column-test.true c.column-item.is made_of (ap columns_of c.in_ok-push.ensures.items ∙ map_push column_of pairs (c.in_ok-name.name, c.kind.result)) c.loop-column.invariant

pub returns : goal.returns
returns c = made_all heading c.args.columns.now c.loop-column.column-index (columns_of c.loop-column.pairs.items) c.loop-column-test.false c.loop-column.invariant
