use Rattle.std.proofs.Common.{◌≡◌, Bool, List, [], ◌∷◌, ◌&&◌, refl, sym, ap, ◌∙◌, subst, drop, ◌+◌}
use Rattle.std.proofs.lemmas.List.{drop_all, drop_more}
use Rattle.rp_checkpoint.specs.declared.node_data.HeldRow.{HeldRow}
use Rattle.rp_node.specs.Resuming.{fits_all}
use Rattle.rp_node.proofs.resume.fits_all.Goals as goal

pub loop-row-init : goal.loop-row-init
loop-row-init c = refl

pub loop-row-preserved : goal.loop-row-preserved
loop-row-preserved c =
    let rows = c.as_slice-row-items.result.now in
    let i = c.loop-row.row-index in
    let one = c.row-item.result in
    let fits = fits_all c.args.query.now c.args.kept.now.key in
    let next = drop_more rows i one c.loop-row-test.true ∙ ap (λ (r : HeldRow). r ∷ drop (i + 1) rows) (sym c.row-item.is) in
    c.loop-row.invariant ∙ ap fits (subst (λ (rs : List HeldRow). drop i rs ≡ one ∷ drop (i + 1) rs) c.as_slice-row-items.ensures.rows next)
    ∙ ap (λ (b : Bool). b && fits (drop (i + 1) c.args.kept.now.rows)) (sym c.in_ok-fits_table.ensures ∙ c.if-not-branch.false)

pub returns-then-not-branch : goal.returns-then-not-branch
returns-then-not-branch c =
    let rows = c.as_slice-row-items.result.now in
    let i = c.loop-row.row-index in
    let one = c.row-item.result in
    let fits = fits_all c.args.query.now c.args.kept.now.key in
    let next = drop_more rows i one c.loop-row-test.true ∙ ap (λ (r : HeldRow). r ∷ drop (i + 1) rows) (sym c.row-item.is) in
    sym (c.loop-row.invariant ∙ ap fits (subst (λ (rs : List HeldRow). drop i rs ≡ one ∷ drop (i + 1) rs) c.as_slice-row-items.ensures.rows next)
    ∙ ap (λ (b : Bool). b && fits (drop (i + 1) c.args.kept.now.rows)) (sym c.in_ok-fits_table.ensures ∙ c.if-not-branch.true))

pub returns : goal.returns
returns c =
    let i = c.loop-row.row-index in
    let none = subst (λ (rs : List HeldRow). drop i rs ≡ []) c.as_slice-row-items.ensures.rows (drop_all i c.as_slice-row-items.result.now c.loop-row-test.false) in
    sym (c.loop-row.invariant ∙ ap (fits_all c.args.query.now c.args.kept.now.key) none)
