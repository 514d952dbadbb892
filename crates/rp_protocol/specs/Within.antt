-- Inside: a reply whose numbers are in the ranges of their types, as each reply's are.
use Rattle.std.specs.Prelude.{ℕ, ◌<◌, ◌^◌, List, Option, Some, None, All, ⊤}
use Rattle.std.specs.Int.Signed.{mag}
use Rattle.rp_value.specs.declared.value.Value.{Value}
use Rattle.rp_value.specs.declared.value.Value.TheVariants.{Null, Int, Text}
use Rattle.rp_query.specs.declared.item.Item.{Item as Given}
use Rattle.rp_query.specs.declared.item.Item.TheVariants.{Row, Fault, End}
use Rattle.rp_protocol.specs.declared.refusal.Refusal.{Refusal}
use Rattle.rp_protocol.specs.declared.refusal.Refusal.TheVariants.{BadRowKind}
use Rattle.rp_protocol.specs.declared.reply.Reply.{Reply}
use Rattle.rp_protocol.specs.declared.reply.Reply.TheVariants.{Taken, Item, Idle, Paused, Refused}

-- a whole number has 64 bits with sign
abbrev pub IsCell : Value → Type 0
IsCell Null = ⊤
IsCell (Int z) = mag z < 2 ^ 63
IsCell (Text s) = ⊤

abbrev pub AreCells : List Value → Type 0
AreCells values = All IsCell values

abbrev pub IsCount : Option ℕ → Type 0
IsCount None = ⊤
IsCount (Some n) = n < 2 ^ 64

abbrev pub IsItem : Given → Type 0
IsItem (Row number cells) = IsCount number × AreCells cells
IsItem (Fault fault) = ⊤
IsItem End = ⊤

abbrev pub IsRefusal : Refusal → Type 0
IsRefusal (BadRowKind n) = n < 2 ^ 64
IsRefusal _ = ⊤

abbrev pub IsWithin : Reply → Type 0
IsWithin (Taken taken) = ⊤
IsWithin (Item key place given) = AreCells key × (place < 2 ^ 128) × IsItem given
IsWithin (Idle key) = AreCells key
IsWithin (Paused key) = AreCells key
IsWithin (Refused refusal) = IsRefusal refusal
