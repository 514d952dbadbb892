use Rattle.std.proofs.Common.{rules, ◌≡◌, ◌∙◌, ◌*◌, ◌++◌, [], ◌∷◌, take, drop, ap, sym}
use Rattle.std.proofs.lemmas.List.{append_assoc, append-nil}
use Rattle.rp_value.specs.Blocks.{cut_apart}
use Rattle.rp_value.proofs.Blocks.{one_row_more}
use Rattle.rp_value.proofs.row.add_rows.Goals as goal

pub returns-then-count-eq0 : goal.returns-then-count-eq0
unfolding cut_apart
returns-then-count-eq0 c =
    let none : c.args.count ≡ 0 = search rules in
    sym (append-nil c.args.rows.now.items) ∙ ap (λ count. c.args.rows.now.items ++ cut_apart c.args.width count c.args.cells.items) (sym none)

pub loop-index-init : goal.loop-index-init
unfolding cut_apart
loop-index-init c = record { block = search rules; rows = sym (append-nil _) }

pub loop-index-preserved : goal.loop-index-preserved
loop-index-preserved c =
    let cells = c.args.cells.items in
    let row = take c.args.width (drop (c.loop-index.index * c.args.width) cells) in
    let pushed : c.push.new.self.items ≡ c.loop-index.rows.items ++ row ∷ [] = search rules in
    record {
      block = search rules;
      rows = pushed
          ∙ ap (λ rows. rows ++ row ∷ []) c.loop-index.invariant.rows
          ∙ append_assoc c.args.rows.now.items (cut_apart c.args.width c.loop-index.index cells) (row ∷ [])
          ∙ ap (λ rows. c.args.rows.now.items ++ rows) (sym (one_row_more c.args.width c.loop-index.index cells));
    }
