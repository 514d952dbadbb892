-- The replies that are still to come of a reader, and what was read for those that came.
use Rattle.std.specs.Prelude.{◌≡◌, ◌⊎◌, ⊤, ℕ, suc, Bool, true, false, List, [], ◌∷◌, Option, Some, None, option_map, if◌then◌else◌, Result, Err}
use Rattle.rp_protocol.specs.declared.reply.Reply.{Reply}
use Rattle.rp_io.specs.Pending.{coming, most_lines_to_come}
use Rattle.rp_io.specs.Reading.{ReadsSoFar, ReadsStop, Told}
use Rattle.rp_io.specs.Reading.Told.{NoReadsLeft, Other, ReadFailed}
use Rattle.rp_io.specs.State.{IntakeState}
use Rattle.rp_drive.specs.Lines.{replies_within}
use Rattle.rp_drive.specs.declared.fault.DriveFault.{DriveFault}
use Rattle.rp_drive.specs.declared.fault.DriveFault.TheVariants.{Read, Turns, OutOfMemory}
use Rattle.rp_drive.specs.declared.replies.Replies.{Replies}

-- the replies that are still to come, where the bytes that the reader has still to give are known
abbrev pub replies_left : Replies → IntakeState → Option (List (Option Reply))
replies_left replies reader = if replies.over then option_map (λ bytes. []) reader.remaining else replies_within replies.limit (coming replies.lines reader)

-- no more lines than this can still come
abbrev pub lines_left : Replies → ℕ
lines_left replies = if replies.over then 0 else suc (most_lines_to_come replies.lines)

-- This reply came, or none was left and so none came.
abbrev pub Comes : Option (List (Option Reply)) → Option (List (Option Reply)) → Option Reply → Type 0
Comes None left reply = ⊤
Comes (Some all) None reply = ⊥
Comes (Some all) (Some left) reply = (all ≡ reply ∷ left) ⊎ ((all ≡ []) × (left ≡ []) × (reply ≡ None))

-- how a fault cut reading short, if one did: one of another kind leaves the reader as the last reply left it
abbrev pub cut_by : {X : Type 0} → Result X DriveFault → Option Told
cut_by (Err Read) = Some ReadFailed
cut_by (Err Turns) = Some NoReadsLeft
cut_by (Err OutOfMemory) = Some Other
cut_by _ = None

-- What was read of a reader in a part of a run, by what cut it short, and by whether the input had ended before and has ended after.
-- Once it has ended nothing is read, so a read can neither fail nor be one too many.
abbrev pub HearsBy : Option Told → Bool → Bool → ℕ → ℕ → IntakeState → IntakeState → Type 0
HearsBy None over false reads left old new = (over ≡ false) × ReadsSoFar reads left old new
HearsBy None over true reads left old new = ReadsStop Other reads left old new
HearsBy (Some Other) over over' reads left old new = ReadsStop Other reads left old new
HearsBy (Some told) over over' reads left old new = (over ≡ false) × ReadsStop told reads left old new

-- the same of the replies of a reader, before and after
abbrev pub Hears : Option Told → Replies → Replies → IntakeState → IntakeState → Type 0
Hears cut replies replies' old new = HearsBy cut replies.over replies'.over replies.lines.reads replies'.lines.reads old new
