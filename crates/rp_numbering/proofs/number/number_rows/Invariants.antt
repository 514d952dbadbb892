use Rattle.std.proofs.Common.{◌≡◌, List, ◌++◌}
use Rattle.std.specs.List.{flat_map}
use Rattle.std.specs.Vec.Iter.{into_iter_items}
use Rattle.rp_numbering.specs.Gathering.{parts_of}
use Rattle.rp_numbering.specs.Numbered.{AreOrdered, AreOrderedParts, part_packets}
use Rattle.rp_numbering.specs.Partitions.{Part}
use Rattle.rp_numbering.proofs.number.number_rows.Given as goal

-- the packets of the partitions so far, which with those that are left, in order, are all of them
abbrev pub invariant-loop-key : goal.invariant-loop-key
invariant-loop-key l =
    (done : List Part) × (l.packets.items ≡ flat_map part_packets done)
    × ((later : List Part) → AreOrdered l.query.order.items (parts_of (into_iter_items l.key-iterator)) later
    → AreOrderedParts l.fn.query.partition.items l.fn.query.order.items l.fn.rows.items (done ++ later))
