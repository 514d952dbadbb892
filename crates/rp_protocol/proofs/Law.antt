-- What is written of a reply is read as its object.
use Rattle.std.proofs.Common.{◌≡◌, ◌≤◌, ◌<◌, List, [], ◌∷◌, refl, ap, sym, ◌∙◌, arith, append-nil}
use Rattle.std.specs.Prelude.{Option, Some, None, option_and_then, pos, negsuc, ◌^◌}
use Rattle.std.proofs.lemmas.List.Elements.{All-head, All-tail}
use Rattle.json.specs.Tree.{HasNumbers, ItemsHaveNumbers}
use Rattle.json.specs.Tree as tree
use Rattle.json.proofs.Printed.Decimals.{IsNumber-decimal, IsNumber-signed_decimal}
use Rattle.json.specs.Json as json
use Rattle.json.specs.Lex.{tokens}
use Rattle.json.specs.Token.{Token}
use Rattle.json.specs.Tree.{json_tokens}
use Rattle.json.proofs.Printed.Tokens.{tokens-print}
use Rattle.json.proofs.Printed.Trees.{ArePrintable-json_tokens, value-json_tokens}
use Rattle.serde_json.specs.Data.{Data}
use Rattle.serde_json.specs.Read.{read, max_depth, of_json, of_items}
use Rattle.serde_json.specs.Written.{compact_text, outline, items_outline}
use Rattle.serde_json.proofs.Numbers.{number_of-decimal, number_of-negative}
use Rattle.serde_json.proofs.OnLiterals.{serde_json_on_literals}
use Rattle.serde_json.proofs.Texts.{print-outline}
use Rattle.rp_value.specs.declared.value.Value.{Value}
use Rattle.rp_value.specs.declared.value.Value.TheVariants.{Null, Int, Text}
use Rattle.rp_query.specs.declared.item.Item.TheVariants as item
use Rattle.rp_protocol.specs.Within.{AreCells, IsCell, IsWithin}
use Rattle.rp_protocol.specs.declared.reply.Reply.{Reply}
use Rattle.rp_protocol.specs.declared.reply.Reply.TheVariants as reply
use Rattle.rp_json.specs.Forms.{cell_data, cells_data, list_items}
use Rattle.rp_protocol.specs.Replies.{reply_data}

pub items_back : (cs : List Value) → AreCells cs → of_items (items_outline (list_items cell_data cs)) ≡ Some (list_items cell_data cs)
items_back [] h = refl
items_back (Null ∷ cs) h = rw (items_back cs (All-tail IsCell _ cs h)) refl
items_back (Int (pos n) ∷ cs) h =
    let small : n < 2 ^ 63 = All-head IsCell _ cs h in
    rw (number_of-decimal n (omega (arith, small)), items_back cs (All-tail IsCell _ cs h)) refl
items_back (Int (negsuc n) ∷ cs) h =
    let small : n < 2 ^ 63 = All-head IsCell _ cs h in
    rw (number_of-negative n small, items_back cs (All-tail IsCell _ cs h)) refl
items_back (Text s ∷ cs) h = rw (items_back cs (All-tail IsCell _ cs h)) refl

cells_back : (cs : List Value) → AreCells cs → of_json (outline (cells_data cs)) ≡ Some (cells_data cs)
cells_back cs h = rw (items_back cs h) refl

pub items_numbers : (cs : List Value) → AreCells cs → ItemsHaveNumbers (items_outline (list_items cell_data cs))
items_numbers [] h = tt
items_numbers (Null ∷ cs) h = (tt, items_numbers cs (All-tail IsCell _ cs h))
items_numbers (Int (pos n) ∷ cs) h =
    let small : n < 2 ^ 63 = All-head IsCell _ cs h in
    (IsNumber-decimal n (omega (arith, small)), items_numbers cs (All-tail IsCell _ cs h))
items_numbers (Int (negsuc n) ∷ cs) h =
    let small : n < 2 ^ 63 = All-head IsCell _ cs h in
    (IsNumber-signed_decimal (negsuc n) small, items_numbers cs (All-tail IsCell _ cs h))
items_numbers (Text s ∷ cs) h = (tt, items_numbers cs (All-tail IsCell _ cs h))

pub items_flat : (cs : List Value) → tree.items_depth (items_outline (list_items cell_data cs)) ≡ 0
items_flat [] = refl
items_flat (Null ∷ cs) = rw (items_flat cs) refl
items_flat (Int z ∷ cs) = rw (items_flat cs) refl
items_flat (Text s ∷ cs) = rw (items_flat cs) refl

-- what the JSON that was read stands for
abbrev whole : Option (json.Json × List Token) → Option Data
whole o = option_and_then of_json (option_and_then (λ p. json.if_last p.0 p.1) o)

-- an object that is its own JSON is read from its text
pub from_text : (d : Data) → HasNumbers (outline d) → tree.depth (outline d) ≤ max_depth → of_json (outline d) ≡ Some d → read (compact_text d) ≡ Some d
from_text d numbers shallow back =
    let ts = json_tokens (outline d) in
    let same : tokens (compact_text d) ≡ ts = ap tokens (sym (print-outline d)) ∙ tokens-print ts (ArePrintable-json_tokens (outline d) numbers) in
    ap whole (ap (json.value max_depth) (same ∙ sym (append-nil ts)) ∙ value-json_tokens (outline d) max_depth [] shallow) ∙ back

reply_numbers : (r : Reply) → IsWithin r → HasNumbers (outline (reply_data r))
reply_numbers (reply.Taken taken) h = (tt, tt)
reply_numbers (reply.Item key place (item.Row None cells)) h = (items_numbers cells h.2.1, (items_numbers key h.0, (tt, (tt, tt))))
reply_numbers (reply.Item key place (item.Row (Some n) cells)) h = (items_numbers cells h.2.1, (items_numbers key h.0, (IsNumber-decimal n h.2.0, (tt, tt))))
reply_numbers (reply.Item key place (item.Fault fault)) h = (tt, (items_numbers key h.0, (tt, tt)))
reply_numbers (reply.Item key place item.End) h = (tt, (items_numbers key h.0, (tt, tt)))
reply_numbers (reply.Idle key) h = (items_numbers key h, tt)
reply_numbers (reply.Paused key) h = (items_numbers key h, tt)
reply_numbers (reply.Refused refusal) h = (tt, tt)

reply_flat : (r : Reply) → tree.depth (outline (reply_data r)) ≤ 127
reply_flat (reply.Taken taken) = omega arith
reply_flat (reply.Item key place (item.Row None cells)) = rw (items_flat cells, items_flat key) (omega arith)
reply_flat (reply.Item key place (item.Row (Some n) cells)) = rw (items_flat cells, items_flat key) (omega arith)
reply_flat (reply.Item key place (item.Fault fault)) = rw (items_flat key) (omega arith)
reply_flat (reply.Item key place item.End) = rw (items_flat key) (omega arith)
reply_flat (reply.Idle key) = rw (items_flat key) (omega arith)
reply_flat (reply.Paused key) = rw (items_flat key) (omega arith)
reply_flat (reply.Refused refusal) = omega arith

reply_json : (r : Reply) → IsWithin r → of_json (outline (reply_data r)) ≡ Some (reply_data r)
unfolding serde_json_on_literals
reply_json (reply.Taken taken) h = refl
reply_json (reply.Item key place (item.Row None cells)) h = rw (items_back cells h.2.1, items_back key h.0) refl
reply_json (reply.Item key place (item.Row (Some n) cells)) h = rw (items_back cells h.2.1, items_back key h.0, number_of-decimal n h.2.0) refl
reply_json (reply.Item key place (item.Fault fault)) h = rw (items_back key h.0) refl
reply_json (reply.Item key place item.End) h = rw (items_back key h.0) refl
reply_json (reply.Idle key) h = rw (items_back key h) refl
reply_json (reply.Paused key) h = rw (items_back key h) refl
reply_json (reply.Refused refusal) h = refl

pub reply_read : (r : Reply) → IsWithin r → read (compact_text (reply_data r)) ≡ Some (reply_data r)
reply_read r h = from_text (reply_data r) (reply_numbers r h) (reply_flat r) (reply_json r h)
