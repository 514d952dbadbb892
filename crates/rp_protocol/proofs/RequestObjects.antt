-- The object of a request, as it is written.
use Rattle.std.proofs.Common.{◌≡◌, ◌≤◌, List, ℕ, refl, true, false, length, arith}
use Rattle.std.specs.Prelude.{Some, Ok, is_some, IsUtf8}
use Rattle.std.proofs.lemmas.Bool.{le-ltb}
use Rattle.serde_json.specs.Data.{Data, depth}
use Rattle.serde_json.specs.Read.{read}
use Rattle.serde_json.specs.Find.{as_object}
use Rattle.serde_json.specs.Written.{has_float}
use Rattle.rp_feed.specs.declared.packet.Packet.TheVariants as packet
use Rattle.rp_protocol.specs.declared.request.Request.{Request}
use Rattle.rp_protocol.specs.declared.request.Request.TheVariants as request
use Rattle.rp_protocol.specs.Lines.{longest_line}
use Rattle.rp_protocol.specs.Requests.{asked, request_data, request_in}
use Rattle.rp_json.proofs.Reading.{object_read}
use Rattle.rp_json.proofs.Steps.{flat, no_float}

pub request_has_no_float : (r : Request) → has_float (request_data r) ≡ false
request_has_no_float (request.Packet (packet.Row n cells)) = rw (no_float cells) refl
request_has_no_float (request.Packet (packet.Close key count)) = rw (no_float key) refl
request_has_no_float (request.Poll key budget) = rw (no_float key) refl

pub request_depth : (r : Request) → depth (request_data r) ≤ 127
request_depth (request.Packet (packet.Row n cells)) = rw (flat cells) (omega arith)
request_depth (request.Packet (packet.Close key count)) = rw (flat key) (omega arith)
request_depth (request.Poll key budget) = rw (flat key) (omega arith)

pub request_is_object : (r : Request) → is_some (as_object (request_data r)) ≡ true
request_is_object (request.Packet (packet.Row n cells)) = refl
request_is_object (request.Packet (packet.Close key count)) = refl
request_is_object (request.Poll key budget) = refl

pub asked_line : (line : List ℕ) (d : Data) (r : Request) → IsUtf8 line → read line ≡ Some d → d ≡ request_data r → request_in d ≡ Ok r → length line ≤ longest_line → asked line ≡ Ok r
asked_line line d r text is written back short =
    let object : is_some (as_object d) ≡ true = rw written (request_is_object r) in
    rw (le-ltb longest_line (length line) short, object_read line d text is object, back) refl
