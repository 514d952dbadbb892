-- The line by which a node says what it has saved. It is this project's own: {"saved":N}, N lines of this connection were answered, and
-- what they did is in the node's file.
use Rattle.std.specs.Prelude.{ℕ, List, [], ◌++◌, length, Option, None, Some, Result, Ok, Err, if◌then◌else◌, nat_lt, codes, decimal}
use Rattle.serde_json.specs.Data.{Data}
use Rattle.rp_protocol.specs.declared.refusal.Field.TheVariants as f
use Rattle.rp_json.specs.Forms.{whole_of}
use Rattle.rp_json.specs.Objects.{field, object_of, only}
use Rattle.rp_protocol.specs.Lines.{longest_line}
use Rattle.rp_protocol.specs.declared.fault.LineFault.{LineFault}
use Rattle.rp_protocol.specs.declared.fault.LineFault.TheVariants.{TooLong, NotJson, BadField}

-- the number that the object has, where it has no other field
abbrev pub saved_in : Data → Option ℕ
saved_in d = only 1 d (field (codes "saved") whole_of d)

abbrev pub number_or_fault : Option ℕ → Result ℕ LineFault
number_or_fault None = Err (BadField f.Other)
number_or_fault (Some n) = Ok n

abbrev pub saved_of_object : Option Data → Result ℕ LineFault
saved_of_object None = Err NotJson
saved_of_object (Some d) = number_or_fault (saved_in d)

-- how many lines are saved, by a line, or the first fault of the line
abbrev pub saved : List ℕ → Result ℕ LineFault
saved line = if nat_lt longest_line (length line) then Err TooLong else saved_of_object (object_of line)
