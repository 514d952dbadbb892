-- Inside: the tokens of the lines of packets and polls.
use Rattle.std.specs.Prelude.{ℕ, ◌++◌, List, [], ◌∷◌, codes, decimal}
use Rattle.json.specs.Token.{Token, begin_object, end_object, key, number}
use Rattle.rp_value.specs.declared.value.Value.{Value}
use Rattle.rp_feed.specs.declared.packet.Packet.{Packet}
use Rattle.rp_feed.specs.declared.packet.Packet.TheVariants.{Row, Close}
use Rattle.rp_protocol.specs.Tokens.{values_tokens}

abbrev pub packet_tokens : Packet → List Token
packet_tokens (Row n cells) = begin_object ∷ key (codes "cells") ∷ (values_tokens cells ++ key (codes "row") ∷ number (decimal n) ∷ end_object ∷ [])
packet_tokens (Close of count) = begin_object ∷ key (codes "close") ∷ number (decimal count) ∷ key (codes "key") ∷ (values_tokens of ++ end_object ∷ [])

abbrev pub poll_tokens : List Value → ℕ → List Token
poll_tokens of budget = begin_object ∷ key (codes "budget") ∷ number (decimal budget) ∷ key (codes "poll") ∷ (values_tokens of ++ end_object ∷ [])
