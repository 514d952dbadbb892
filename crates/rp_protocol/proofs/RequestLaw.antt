-- What is written of a request is read as the request.
use Rattle.std.proofs.Common.{◌≡◌, ◌≤◌, ◌<◌, ℕ, List, refl, ap, sym, ◌∙◌, arith, length}
use Rattle.std.specs.Prelude.{Option, Some, None, Result, Ok, Err, IfOk, IfSome, ◌^◌, IsUtf8}
use Rattle.std.proofs.lemmas.Bool.{lt-ltb}
use Rattle.json.specs.Tree.{HasNumbers}
use Rattle.json.specs.Tree as tree
use Rattle.json.proofs.Printed.Decimals.{IsNumber-decimal}
use Rattle.serde_json.specs.Read.{read, of_json}
use Rattle.serde_json.specs.Written.{compact_text, outline}
use Rattle.serde_json.proofs.Numbers.{number_of-decimal}
use Rattle.serde_json.proofs.OnLiterals.{serde_json_on_literals}
use Rattle.rp_feed.specs.declared.packet.Packet.TheVariants as packet
use Rattle.rp_protocol.specs.Compact.{IsAsked, IsLineOf}
use Rattle.rp_protocol.specs.Lines.{longest_line}
use Rattle.rp_protocol.specs.Requests.{asked, request_data, request_in}
use Rattle.rp_protocol.specs.declared.request.Request.{Request}
use Rattle.rp_protocol.specs.declared.request.Request.TheVariants as request
use Rattle.rp_protocol.proofs.Back.{cells_in}
use Rattle.rp_protocol.proofs.Law.{from_text, items_back, items_flat, items_numbers}
use Rattle.rp_protocol.proofs.LineTexts.{request_written}
use Rattle.rp_protocol.proofs.RequestObjects.{asked_line}

request_numbers : (r : Request) → IsAsked r → HasNumbers (outline (request_data r))
request_numbers (request.Packet (packet.Row n cells)) h = (items_numbers cells h.1, (IsNumber-decimal n h.0, tt))
request_numbers (request.Packet (packet.Close key count)) h = (IsNumber-decimal count h.0, (items_numbers key h.1, tt))
request_numbers (request.Poll key budget) h =
    let small : budget < 2 ^ 32 = h.0 in
    (IsNumber-decimal budget (omega (arith, small)), (items_numbers key h.1, tt))

request_flat : (r : Request) → tree.depth (outline (request_data r)) ≤ 127
request_flat (request.Packet (packet.Row n cells)) = rw (items_flat cells) (omega arith)
request_flat (request.Packet (packet.Close key count)) = rw (items_flat key) (omega arith)
request_flat (request.Poll key budget) = rw (items_flat key) (omega arith)

request_json : (r : Request) → IsAsked r → of_json (outline (request_data r)) ≡ Some (request_data r)
unfolding serde_json_on_literals
request_json (request.Packet (packet.Row n cells)) h = rw (items_back cells h.1, number_of-decimal n h.0) refl
request_json (request.Packet (packet.Close key count)) h = rw (items_back key h.1, number_of-decimal count h.0) refl
request_json (request.Poll key budget) h =
    let small : budget < 2 ^ 32 = h.0 in
    rw (items_back key h.1, number_of-decimal budget (omega (arith, small))) refl

request_read : (r : Request) → IsAsked r → read (compact_text (request_data r)) ≡ Some (request_data r)
request_read r h = from_text (request_data r) (request_numbers r h) (request_flat r) (request_json r h)

request_back : (r : Request) → IsAsked r → request_in (request_data r) ≡ Ok r
unfolding serde_json_on_literals
request_back (request.Packet (packet.Row n cells)) h = rw (cells_in cells h.1) refl
request_back (request.Packet (packet.Close key count)) h = rw (cells_in key h.1) refl
request_back (request.Poll key budget) h = rw (cells_in key h.1, lt-ltb budget (2 ^ 32) h.0) refl

-- a line that is the text of a request asks it
pub asked_text : (line : List ℕ) (r : Request) → IsUtf8 line → IsLineOf line r → length line ≤ longest_line → asked line ≡ Ok r
asked_text line r utf8 h short =
    let whole : read line ≡ Some (request_data r) = ap read (h.0 ∙ sym (request_written r)) ∙ request_read r h.1 in
    asked_line line (request_data r) r utf8 whole refl (request_back r h.1) short

-- the same of what was found, if it was
pub asked_line_of : {E : Type 0} (line text : List ℕ) (found : Result (Option Request) E) → IsUtf8 line → line ≡ text → IfOk found (λ o. IfSome o (IsLineOf text)) → IfOk found (λ o. IfSome o (λ r. length line ≤ longest_line → asked line ≡ Ok r))
asked_line_of line text (Ok (Some r)) utf8 is h = λ short. asked_text line r utf8 (is ∙ h.0, h.1) short
asked_line_of line text (Ok None) utf8 is h = tt
asked_line_of line text (Err e) utf8 is h = tt
