-- One more row, or one more partition, that is numbered.
use Rattle.std.proofs.Common.{◌≡◌, ◌∙◌, ◌+◌, ℕ, suc, List, [], ◌∷◌, ◌++◌, length, refl, sym, ap, subst, arith, append-nil, append_assoc}
use Rattle.std.proofs.lemmas.Grind.{flat_map-append}
use Rattle.std.specs.List.{flat_map}
use Rattle.rp_query.specs.declared.query.OrderColumn.{OrderColumn}
use Rattle.rp_value.specs.declared.value.Value.{Value}
use Rattle.rp_numbering.specs.Numbered.{AreOrdered, numbered_from, part_packets}
use Rattle.rp_numbering.specs.Orders.{IsOrdered}
use Rattle.rp_numbering.specs.Partitions.{Part}
use Rattle.rp_feed.specs.declared.packet.Packet.TheVariants.{Row}

pub numbered_more : (n k : ℕ) (rows : List (List Value)) (row : List Value) → k ≡ n + length rows → numbered_from n (rows ++ row ∷ []) ≡ numbered_from n rows ++ Row k row ∷ []
numbered_more n k [] row is = let e : n ≡ k = omega arith in ap (λ m. Row m row ∷ []) e
numbered_more n k (r ∷ rows) row is = ap (λ t. Row n r ∷ t) (numbered_more (suc n) k rows row (omega arith))

-- the packets of one more partition, which the later ones follow
pub packets_more : (parts : List Part) (part : Part) → flat_map part_packets (parts ++ part ∷ []) ≡ flat_map part_packets parts ++ part_packets part
packets_more parts part = flat_map-append part_packets parts (part ∷ []) ∙ ap (λ t. flat_map part_packets parts ++ t) (append-nil (part_packets part))

-- Of partitions whose rows are put in order one after another, those so far and those to come are all of them.
pub order_next : (order : List OrderColumn) (Are : List Part → Type 0) (done left : List Part) (key : List Value) (rows ordered : List (List Value)) → IsOrdered order rows ordered
    → ((later : List Part) → AreOrdered order ((key, rows) ∷ left) later → Are (done ++ later))
    → (later : List Part) → AreOrdered order left later → Are ((done ++ (key, ordered) ∷ []) ++ later)
order_next order Are done left key rows ordered is all later h = subst Are (sym (append_assoc done ((key, ordered) ∷ []) later)) (all ((key, ordered) ∷ later) (refl, is, h))
