-- The refusal of a text.
use Rattle.std.specs.Prelude.{ℕ, ◌==◌, Bool, List, [], ◌∷◌, nat_eq, take, drop, Option, Some, None, option_map, option_and_then, codes, if◌then◌else◌}
use Rattle.std.specs.Cmp.Lexicographic.{pointwise}
use Rattle.rp_protocol.specs.Refusals.{refusal_word}
use Rattle.rp_protocol.specs.declared.refusal.Field.TheVariants as f
use Rattle.rp_protocol.specs.declared.refusal.Refusal.{Refusal}
use Rattle.rp_protocol.specs.declared.refusal.Refusal.TheVariants.{TooLong, NotJson, BadField, BadRowWidth, BadRowKind, NumberRange, PastClose, Conflict, TooFar, CloseDiffers, CloseBelow, UnknownPartition}
use Rattle.rp_json.specs.Digits.{short_digits_of}
use Rattle.rp_json.specs.Forms.{named}

-- all that name no column
abbrev pub plain_refusals : List Refusal
plain_refusals =
    TooLong ∷ NotJson ∷ BadField f.Row ∷ BadField f.Cells ∷ BadField f.Close ∷ BadField f.Key ∷ BadField f.Poll ∷ BadField f.Budget ∷ BadField f.Other
    ∷ BadRowWidth ∷ NumberRange ∷ PastClose ∷ Conflict ∷ TooFar ∷ CloseDiffers ∷ CloseBelow ∷ UnknownPartition ∷ []

-- the text begins so
abbrev pub begins_with_kind : List ℕ → Bool
begins_with_kind text = pointwise nat_eq (take 12 text) (codes "BadRow kind ")

-- columns count from 1
abbrev pub from_one : ℕ → Option ℕ
from_one n = if n == 0 then None else Some n

-- the column of a text of digits
abbrev pub column_of : List ℕ → Option ℕ
column_of text = option_and_then from_one (short_digits_of text)

abbrev pub refusal_of : List ℕ → Option Refusal
refusal_of text = if begins_with_kind text then option_map BadRowKind (column_of (drop 12 text)) else named refusal_word plain_refusals text
