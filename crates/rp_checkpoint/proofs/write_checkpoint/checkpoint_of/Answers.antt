use Rattle.std.proofs.Common.{◌≡◌, ◌≤◌, ap, ◌∙◌, false, true}
use Rattle.std.specs.Prelude.{is_some}
use Rattle.std.proofs.lemmas.Result.{IfOk-weaker}
use Rattle.serde_json.specs.Data.{depth}
use Rattle.serde_json.specs.Find.{as_object}
use Rattle.serde_json.specs.View.{view}
use Rattle.serde_json.specs.Written.{compact_text, has_float}
use Rattle.rp_seal.specs.Sealed.{opened, sealed}
use Rattle.rp_seal.proofs.Sealing.{opened-sealed}
use Rattle.rp_checkpoint.proofs.NodeObjects.{node_depth, node_has_no_float, node_is_object}
use Rattle.rp_checkpoint.proofs.NodeTexts.{node_written}
use Rattle.rp_checkpoint.proofs.Opening.{restored_from}
use Rattle.rp_checkpoint.proofs.write_checkpoint.checkpoint_of.Goals as goal

pub returns-clause-bytes : goal.returns-clause-bytes
returns-clause-bytes c =
    let whole : has_float (view c.in_ok-json.json) ≡ false = rw c.in_ok-json.ensures.data (node_has_no_float c.args.node.now) in
    IfOk-weaker c.seal.result _ _ (λ b h. h ∙ ap sealed (c.as_slice.ensures.value ∙ c.in_ok-object.ensures.text whole ∙ ap compact_text c.in_ok-json.ensures.data ∙ node_written c.args.node.now)) c.seal.ensures

pub returns-clause-back : goal.returns-clause-back
returns-clause-back c =
    let d = view c.in_ok-json.json in
    let shallow : depth d ≤ 127 = rw c.in_ok-json.ensures.data (node_depth c.args.node.now) in
    let object : is_some (as_object d) ≡ true = rw c.in_ok-json.ensures.data (node_is_object c.args.node.now) in
    IfOk-weaker c.seal.result _ _ (λ b h. restored_from b.items c.in_ok-object.object.items d c.args.node.now (ap opened (h ∙ ap sealed c.as_slice.ensures.value) ∙ opened-sealed c.in_ok-object.object.items) c.in_ok-object.ensures.utf8 (c.in_ok-object.ensures.reads_back shallow) object c.in_ok-json.ensures.back) c.seal.ensures
