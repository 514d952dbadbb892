-- The text of the tokens of a packet's line, and of a poll's.
use Rattle.std.proofs.Common.{◌≡◌, ℕ, List, [], ◌∷◌, ◌++◌, refl, ap, ◌∙◌}
use Rattle.std.specs.Prelude.{codes, decimal}
use Rattle.json.specs.Token.{end_object, key, number}
use Rattle.json.specs.Print.{print}
use Rattle.json.proofs.OnLiterals.{json_on_literals}
use Rattle.rp_value.specs.declared.value.Value.{Value}
use Rattle.rp_feed.specs.declared.packet.Packet.{Packet}
use Rattle.rp_feed.specs.declared.packet.Packet.TheVariants.{Row, Close}
use Rattle.rp_protocol.specs.PacketLines.{packet_text, poll_text}
use Rattle.rp_protocol.specs.PacketTokens.{packet_tokens, poll_tokens}
use Rattle.rp_protocol.proofs.Texts.{all_values_print, cells_print}

row_print : (n : ℕ) (cells : List Value) → print (packet_tokens (Row n cells)) ≡ packet_text (Row n cells)
unfolding json_on_literals
row_print n cells = cells_print cells (key (codes "row") ∷ number (decimal n) ∷ end_object ∷ [])

close_print : (of : List Value) (count : ℕ) → print (packet_tokens (Close of count)) ≡ packet_text (Close of count)
unfolding json_on_literals
close_print of count = ap (λ t. codes "{\"close\":" ++ (decimal count ++ (codes ",\"key\":" ++ t))) (all_values_print of (end_object ∷ []))

pub packet_print : (p : Packet) → print (packet_tokens p) ≡ packet_text p
packet_print (Row n cells) = row_print n cells
packet_print (Close of count) = close_print of count

pub poll_print : (of : List Value) (budget : ℕ) → print (poll_tokens of budget) ≡ poll_text of budget
unfolding json_on_literals
poll_print of budget = ap (λ t. codes "{\"budget\":" ++ (decimal budget ++ (codes ",\"poll\":" ++ t))) (all_values_print of (end_object ∷ []))
