-- The text of a refusal that names no column is its word.
use Rattle.std.proofs.Common.{◌≡◌, ℕ, refl, append-nil}
use Rattle.rp_protocol.specs.Refusals.{refusal_text, refusal_word}
use Rattle.rp_protocol.specs.declared.refusal.Refusal.{Refusal}
use Rattle.rp_protocol.specs.declared.refusal.Refusal.TheVariants.{TooLong, NotJson, BadField, BadRowWidth, BadRowKind, NumberRange, PastClose, Conflict, TooFar, CloseDiffers, CloseBelow, UnknownPartition}

pub plain-text : (r : Refusal) → ((n : ℕ) → r ≡ BadRowKind n → ⊥) → refusal_text r ≡ refusal_word r
plain-text (BadRowKind n) other = absurd (other n refl)
plain-text TooLong other = append-nil _
plain-text NotJson other = append-nil _
plain-text (BadField field) other = append-nil _
plain-text BadRowWidth other = append-nil _
plain-text NumberRange other = append-nil _
plain-text PastClose other = append-nil _
plain-text Conflict other = append-nil _
plain-text TooFar other = append-nil _
plain-text CloseDiffers other = append-nil _
plain-text CloseBelow other = append-nil _
plain-text UnknownPartition other = append-nil _
