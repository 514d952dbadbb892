use Rattle.std.proofs.Common.{◌≡◌, ◌∙◌, ◌+◌, Some, None, take, drop, map, sym, refl}
use Rattle.rp_columns.specs.ColumnsGrammar.{written_tree}
use Rattle.rp_columns.specs.Resolved.{column_of}
use Rattle.rp_columns.proofs.Mapped.{map_more}
use Rattle.rp_columns.proofs.Resolving.{columns_more, trees_round}
use Rattle.rp_columns.proofs.columns_text.resolved.Goals as goal

pub returns-in-None-clause-fault : goal.returns-in-None-clause-fault
returns-in-None-clause-fault c =
    let i = c.loop-column.column-index in
    let w = c.column-item.result in
    let none : column_of (written_tree w) ≡ None = sym c.in_ok-found.ensures ∙ c.in-None.is in
    (map written_tree (take i c.args.written.now), written_tree w, map written_tree (drop (i + 1) c.args.written.now), c.loop-column.columns.items, trees_round c.args.written.now i w c.loop-column-test.true c.column-item.is, c.loop-column.invariant, none, refl)

pub loop-column-preserved : goal.loop-column-preserved
loop-column-preserved c =
    let i = c.loop-column.column-index in
    let w = c.column-item.result in
    let is : column_of (written_tree w) ≡ Some c.in-Some.found = sym c.in_ok-found.ensures ∙ c.in-Some.is in
    rw (map_more written_tree c.args.written.now i w c.loop-column-test.true c.column-item.is, c.in_ok-push-in-Some.ensures.items) (columns_more (map written_tree (take i c.args.written.now)) c.loop-column.columns.items (written_tree w) c.in-Some.found c.loop-column.invariant is)
