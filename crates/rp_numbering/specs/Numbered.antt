-- The packets of rows: partitions by first appearance, each in order, numbered from 1, and closed.
use Rattle.std.specs.Prelude.{◌≡◌, ⊤, ℕ, suc, List, [], ◌∷◌, ◌++◌, length}
use Rattle.std.specs.List.{flat_map}
use Rattle.rp_query.specs.declared.query.OrderColumn.{OrderColumn}
use Rattle.rp_feed.specs.declared.packet.Packet.{Packet}
use Rattle.rp_feed.specs.declared.packet.Packet.TheVariants.{Row, Close}
use Rattle.rp_value.specs.declared.value.Value.{Value}
use Rattle.rp_numbering.specs.Orders.{IsOrdered}
use Rattle.rp_numbering.specs.Partitions.{Part, partitions}

-- the same partitions, the rows of each put into order
abbrev pub AreOrdered : List OrderColumn → List Part → List Part → Type 0
AreOrdered order [] [] = ⊤
AreOrdered order (part ∷ parts) (ordered ∷ others) =
    (ordered.0 ≡ part.0) × IsOrdered order part.1 ordered.1 × AreOrdered order parts others
AreOrdered order _ _ = ⊥

-- the partitions of rows by these partition columns, each in this order
abbrev pub AreOrderedParts : List ℕ → List OrderColumn → List (List Value) → List Part → Type 0
AreOrderedParts columns order rows parts = AreOrdered order (partitions columns rows) parts

-- rows numbered from n on
abbrev pub numbered_from : ℕ → List (List Value) → List Packet
numbered_from n [] = []
numbered_from n (row ∷ rows) = Row n row ∷ numbered_from (suc n) rows

-- the packets of a partition whose rows are in order: each row with its number, and then the close with their count
abbrev pub part_packets : Part → List Packet
part_packets part = numbered_from 1 part.1 ++ Close part.0 (length part.1) ∷ []

-- the packets of rows: those of their partitions, one after another, each in order
abbrev pub AreNumbered : List ℕ → List OrderColumn → List (List Value) → List Packet → Type 0
AreNumbered columns order rows packets =
    (parts : List Part) × AreOrderedParts columns order rows parts × (packets ≡ flat_map part_packets parts)
