-- What is restored from bytes that open.
use Rattle.std.proofs.Common.{◌≡◌, ℕ, List, refl, true}
use Rattle.std.specs.Prelude.{Some, Ok, is_some, IsUtf8}
use Rattle.serde_json.specs.Data.{Data}
use Rattle.serde_json.specs.Read.{read}
use Rattle.serde_json.specs.Find.{as_object}
use Rattle.rp_json.proofs.Reading.{object_read}
use Rattle.rp_seal.specs.Sealed.{opened}
use Rattle.rp_checkpoint.specs.Checkpoints.{restored, restored_object}
use Rattle.rp_checkpoint.specs.declared.node_data.NodeData.{NodeData}

pub restored_from : (bytes object : List ℕ) (d : Data) (n : NodeData) → opened bytes ≡ Some object → IsUtf8 object → read object ≡ Some d → is_some (as_object d) ≡ true → restored_object d ≡ Ok n → restored bytes ≡ Ok n
restored_from bytes object d n opens text is whole back = rw (opens, object_read object d text is whole, back) refl
