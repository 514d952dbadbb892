-- The texts of refusals.
use Rattle.std.specs.Prelude.{ℕ, List, [], ◌++◌, codes, decimal}
use Rattle.rp_protocol.specs.declared.refusal.Field.TheVariants as f
use Rattle.rp_protocol.specs.declared.refusal.Refusal.{Refusal}
use Rattle.rp_protocol.specs.declared.refusal.Refusal.TheVariants.{TooLong, NotJson, BadField, BadRowWidth, BadRowKind, NumberRange, PastClose, Conflict, TooFar, CloseDiffers, CloseBelow, UnknownPartition}

-- what its text begins with
abbrev pub refusal_word : Refusal → List ℕ
refusal_word TooLong = codes "TooLong"
refusal_word NotJson = codes "NotJson"
refusal_word (BadField f.Row) = codes "BadField row"
refusal_word (BadField f.Cells) = codes "BadField cells"
refusal_word (BadField f.Close) = codes "BadField close"
refusal_word (BadField f.Key) = codes "BadField key"
refusal_word (BadField f.Poll) = codes "BadField poll"
refusal_word (BadField f.Budget) = codes "BadField budget"
refusal_word (BadField f.Other) = codes "BadField other"
refusal_word BadRowWidth = codes "BadRow width"
refusal_word (BadRowKind n) = codes "BadRow kind "
refusal_word NumberRange = codes "NumberRange"
refusal_word PastClose = codes "PastClose"
refusal_word Conflict = codes "Conflict"
refusal_word TooFar = codes "TooFar"
refusal_word CloseDiffers = codes "CloseDiffers"
refusal_word CloseBelow = codes "CloseBelow"
refusal_word UnknownPartition = codes "UnknownPartition"

-- and the column that it names
abbrev pub refusal_number : Refusal → List ℕ
refusal_number (BadRowKind n) = decimal n
refusal_number _ = []

abbrev pub refusal_text : Refusal → List ℕ
refusal_text r = refusal_word r ++ refusal_number r
