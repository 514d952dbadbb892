-- The text of a line is that of its object.
use Rattle.std.proofs.Common.{◌≡◌, ◌<◌, ◌∙◌, ℕ, true, List, [], ◌∷◌, ◌++◌, refl, ap, sym, append_assoc, arith}
use Rattle.std.specs.Prelude.{codes, decimal, pos, negsuc, Some, None, ◌^◌}
use Rattle.std.specs.Fmt.{signed_decimal}
use Rattle.json.specs.Print.{quoted}
use Rattle.serde_json.specs.Written.{compact_text, items_text}
use Rattle.serde_json.proofs.OnLiterals.{serde_json_on_literals}
use Rattle.rp_value.specs.declared.value.Value.{Value}
use Rattle.rp_value.specs.declared.value.Value.TheVariants.{Null, Int, Text}
use Rattle.rp_feed.specs.declared.packet.Packet.TheVariants as packet
use Rattle.rp_protocol.specs.ReplyLines.{key_text, more_values, place_text, reply_text, values_text}
use Rattle.rp_protocol.specs.Within.{IsRefusal, IsWithin}
use Rattle.rp_protocol.specs.declared.refusal.Field.TheVariants as f
use Rattle.rp_protocol.specs.declared.refusal.Refusal.{Refusal}
use Rattle.rp_protocol.specs.declared.refusal.Refusal.TheVariants as r
use Rattle.rp_protocol.specs.declared.reply.Reply.{Reply}
use Rattle.rp_protocol.specs.declared.reply.Reply.TheVariants as reply
use Rattle.rp_protocol.proofs.Texts.{digits_plain}
use Rattle.rp_feed.specs.declared.answer.Taken.TheVariants.{New, Repeat, Old}
use Rattle.rp_query.specs.declared.item.Item.{Item}
use Rattle.rp_query.specs.declared.item.Item.TheVariants as item
use Rattle.rp_query.specs.declared.item.SkipFault.TheVariants.{SkipNoRow, SkipSame}
use Rattle.rp_json.specs.Forms.{cell_data, cells_data, list_items}
use Rattle.rp_protocol.specs.declared.request.Request.{Request}
use Rattle.rp_protocol.specs.declared.request.Request.TheVariants as request
use Rattle.rp_protocol.specs.Replies.{reply_data}
use Rattle.rp_protocol.specs.Requests.{request_data, request_text}

more_text : (cs : List Value) → items_text true (list_items cell_data cs) ≡ more_values cs
more_text [] = refl
more_text (Null ∷ cs) = ap (λ t. codes ",null" ++ t) (more_text cs)
more_text (Int (pos n) ∷ cs) = ap (λ t. codes "," ++ (decimal n ++ t)) (more_text cs)
more_text (Int (negsuc n) ∷ cs) = ap (λ t. codes "," ++ (signed_decimal (negsuc n) ++ t)) (more_text cs)
more_text (Text s ∷ cs) = ap (λ t. codes "," ++ (quoted s ++ t)) (more_text cs)

pub cells_text : (cs : List Value) → compact_text (cells_data cs) ≡ values_text cs
cells_text [] = refl
cells_text (Null ∷ cs) = ap (λ t. codes "[null" ++ t) (more_text cs)
cells_text (Int (pos n) ∷ cs) = ap (λ t. codes "[" ++ (decimal n ++ t)) (more_text cs)
cells_text (Int (negsuc n) ∷ cs) = ap (λ t. codes "[" ++ (signed_decimal (negsuc n) ++ t)) (more_text cs)
cells_text (Text s ∷ cs) = ap (λ t. codes "[" ++ (quoted s ++ t)) (more_text cs)

pub request_written : (r : Request) → compact_text (request_data r) ≡ request_text r
unfolding serde_json_on_literals
request_written (request.Packet (packet.Row n cells)) = ap (λ t. codes "{\"cells\":" ++ (t ++ (codes ",\"row\":" ++ (decimal n ++ codes "}")))) (cells_text cells)
request_written (request.Packet (packet.Close key count)) = ap (λ t. codes "{\"close\":" ++ (decimal count ++ (codes ",\"key\":" ++ (t ++ codes "}")))) (cells_text key)
request_written (request.Poll key budget) = ap (λ t. codes "{\"budget\":" ++ (decimal budget ++ (codes ",\"poll\":" ++ (t ++ codes "}")))) (cells_text key)

-- a place, and the end of the object
place_written : (place : ℕ) → place < 10 ^ 64 → quoted (decimal place) ++ codes "}" ≡ codes "\"" ++ (decimal place ++ codes "\"}")
unfolding serde_json_on_literals
place_written place small = ap (λ t. codes "\"" ++ ((t ++ 34 ∷ []) ++ codes "}")) (digits_plain place small) ∙ ap (λ t. codes "\"" ++ t) (append_assoc (decimal place) (34 ∷ []) (codes "}"))

-- the key, other fields, the place and the end of the object
abbrev from_key : List Value → List ℕ → ℕ → List ℕ
from_key key between place = codes ",\"key\":" ++ (compact_text (cells_data key) ++ (between ++ (codes ",\"place\":" ++ (quoted (decimal place) ++ codes "}"))))

key_written : (key : List Value) (between : List ℕ) (place : ℕ) → place < 10 ^ 64 → from_key key between place ≡ key_text key (between ++ place_text place)
key_written key between place small =
    ap (λ t. codes ",\"key\":" ++ (t ++ (between ++ (codes ",\"place\":" ++ (quoted (decimal place) ++ codes "}"))))) (cells_text key)
    ∙ ap (λ t. codes ",\"key\":" ++ (values_text key ++ (between ++ (codes ",\"place\":" ++ t)))) (place_written place small)

item_written : (key : List Value) (place : ℕ) (given : Item) → place < 10 ^ 64 → compact_text (reply_data (reply.Item key place given)) ≡ reply_text (reply.Item key place given)
unfolding serde_json_on_literals
item_written key place (item.Row None cells) small =
    ap (λ t. codes "{\"cells\":" ++ (t ++ from_key key (codes ",\"number\":null") place)) (cells_text cells)
    ∙ ap (λ t. codes "{\"cells\":" ++ (values_text cells ++ t)) (key_written key (codes ",\"number\":null") place small)
item_written key place (item.Row (Some n) cells) small =
    ap (λ t. codes "{\"cells\":" ++ (t ++ from_key key (codes ",\"number\":" ++ decimal n) place)) (cells_text cells)
    ∙ ap (λ t. codes "{\"cells\":" ++ (values_text cells ++ t)) (key_written key (codes ",\"number\":" ++ decimal n) place small)
item_written key place (item.Fault SkipNoRow) small = ap (λ t. codes "{\"fault\":\"SkipNoRow\"" ++ t) (key_written key [] place small)
item_written key place (item.Fault SkipSame) small = ap (λ t. codes "{\"fault\":\"SkipSame\"" ++ t) (key_written key [] place small)
item_written key place item.End small = ap (λ t. codes "{\"end\":true" ++ t) (key_written key [] place small)

refused_written : (refusal : Refusal) → IsRefusal refusal → reply_text (reply.Refused refusal) ≡ compact_text (reply_data (reply.Refused refusal))
unfolding serde_json_on_literals
refused_written r.TooLong h = refl
refused_written r.NotJson h = refl
refused_written (r.BadField f.Row) h = refl
refused_written (r.BadField f.Cells) h = refl
refused_written (r.BadField f.Close) h = refl
refused_written (r.BadField f.Key) h = refl
refused_written (r.BadField f.Poll) h = refl
refused_written (r.BadField f.Budget) h = refl
refused_written (r.BadField f.Other) h = refl
refused_written r.BadRowWidth h = refl
refused_written (r.BadRowKind n) h = sym (rw (digits_plain n (omega (arith, h)), append_assoc (decimal n) (34 ∷ []) (125 ∷ [])) refl)
refused_written r.NumberRange h = refl
refused_written r.PastClose h = refl
refused_written r.Conflict h = refl
refused_written r.TooFar h = refl
refused_written r.CloseDiffers h = refl
refused_written r.CloseBelow h = refl
refused_written r.UnknownPartition h = refl

pub reply_written : (given : Reply) → IsWithin given → reply_text given ≡ compact_text (reply_data given)
unfolding serde_json_on_literals
reply_written (reply.Taken New) h = refl
reply_written (reply.Taken Repeat) h = refl
reply_written (reply.Taken Old) h = refl
reply_written (reply.Item key place given) h = let small = h.1 in sym (item_written key place given (omega (arith, small)))
reply_written (reply.Idle key) h = ap (λ t. codes "{\"idle\":" ++ (t ++ codes "}")) (sym (cells_text key))
reply_written (reply.Paused key) h = ap (λ t. codes "{\"paused\":" ++ (t ++ codes "}")) (sym (cells_text key))
reply_written (reply.Refused refusal) h = refused_written refusal h
