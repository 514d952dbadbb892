use Rattle.std.proofs.Common.{◌≡◌, ◌∙◌, ◌++◌, ◌≤◌, min, length, ap, sym, arith}
use Rattle.std.proofs.lemmas.List.{append-nil}
use Rattle.std.specs.List.{flat_map}
use Rattle.rp_protocol.specs.Tokens.{field_tokens}
use Rattle.rp_protocol.proofs.Objects.{no_pair}
use Rattle.rp_protocol.proofs.object.write_fields.Goals as goal

pub returns-clause-ok : goal.returns-clause-ok
returns-clause-ok c =
    let written = c.loop-index.writer.tokens in
    let columns = c.args.columns.now in
    let cells = c.args.cells.now in
    let low : min (length columns) (length cells) ≤ c.loop-index.index = omega (arith, c.loop-index-test.false, c.min-count.ensures) in
    sym (append-nil written) ∙ (ap (λ fs. written ++ flat_map field_tokens fs) (sym (no_pair columns cells c.loop-index.index low)) ∙ c.loop-index.invariant.written)
