use Rattle.std.proofs.Common.{◌≡◌, ◌∙◌, ap, sym, subst, Some, codes}
use Rattle.serde_json.specs.Data.{array, object}
use Rattle.serde_json.proofs.Views.{view-Array}
use Rattle.rp_json.specs.Forms.{cell_data, cell_of, list_in, list_items, optional_of, place_of}
use Rattle.rp_checkpoint.specs.Checkpoints.{partition_of, rows_of}
use Rattle.rp_checkpoint.proofs.ReadBack.{partition_back, put_into, view-Bool}
use Rattle.rp_checkpoint.proofs.write_checkpoint.put_partition.Goals as goal

pub returns-clause-data : goal.returns-clause-data
returns-clause-data c =
    let cells = view-Array c.in_ok-key.key ∙ ap array (c.in_ok-key.ensures.data ∙ ap (list_items cell_data) c.as_slice.ensures) in
    let at = put_into (codes "at") c.in_ok-put.ensures.ok c.from.ensures c.requires in
    let close = put_into (codes "close") c.in_ok-put-2.ensures.ok c.json_of_optional.ensures.data at in
    let covered = put_into (codes "covered") c.in_ok-put-3.ensures.ok c.from-2.ensures close in
    let first = put_into (codes "first") c.in_ok-put-4.ensures.ok c.from-3.ensures covered in
    let given = put_into (codes "given") c.in_ok-put-5.ensures.ok c.in_ok-given.ensures.data first in
    let here = put_into (codes "here") c.in_ok-put-6.ensures.ok c.from-4.ensures given in
    let key = put_into (codes "key") c.in_ok-put-7.ensures.ok cells here in
    let matches = put_into (codes "matches") c.in_ok-put-8.ensures.ok c.from-5.ensures key in
    let over = put_into (codes "over") c.in_ok-put-9.ensures.ok (view-Bool c.args.partition.now.over) matches in
    ap object (put_into (codes "rows") c.in_ok-put-10.ensures.ok c.in_ok-rows.ensures.data over)

pub returns-clause-back : goal.returns-clause-back
returns-clause-back c =
    let p = c.args.partition.now in
    let close = ap optional_of (sym c.json_of_optional.ensures.data) ∙ c.json_of_optional.ensures.back in
    let given = ap place_of (sym c.in_ok-given.ensures.data) ∙ c.in_ok-given.ensures.back in
    let key = ap (list_in cell_of) (sym c.in_ok-key.ensures.data) ∙ c.in_ok-key.ensures.back in
    let rows = ap rows_of (sym c.in_ok-rows.ensures.data) ∙ c.in_ok-rows.ensures.back in
    ap (partition_of 2) (returns-clause-data c) ∙ partition_back p close given (subst (λ vs. list_in cell_of (list_items cell_data vs) ≡ Some vs) c.as_slice.ensures key) rows
