use Rattle.std.proofs.Common.{◌≡◌, ◌∙◌, ◌++◌, ◌∷◌, [], ap}
use Rattle.indexmap.proofs.CallerLemmas.{insert_entry-new}
use Rattle.rp_value.specs.RowLists.{rows_added}
use Rattle.rp_numbering.specs.Gathering.{parts_added}
use Rattle.rp_query.specs.Keys.{same_key}
use Rattle.rp_numbering.proofs.Gathering.{parts_push}
use Rattle.rp_numbering.proofs.partition.add_part.Goals as goal

pub returns-in-Ok : goal.returns-in-Ok
returns-in-Ok c =
    let row = c.args.cells.now.items in
    let first : rows_added c.push.new.self ≡ row ∷ [] = c.in_ok-push.ensures.ok ∙ ap (λ l. l ++ row ∷ []) c.new-rows.ensures in
    ap parts_added (c.in-Ok.ensures.entries ∙ insert_entry-new same_key c.args.parts.now c.args.key c.push.new.self c.requires)
    ∙ parts_push c.args.parts.now.entries c.args.key c.push.new.self row first
