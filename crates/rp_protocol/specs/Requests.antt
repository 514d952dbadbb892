-- The line of a request, and the request of a line. A line is written without its line feed.
use Rattle.std.specs.Prelude.{ℕ, List, length, Option, Some, None, is_some, Result, Ok, Err, if◌then◌else◌, nat_lt, codes}
use Rattle.serde_json.specs.Data.{Data, object, no_members, member}
use Rattle.serde_json.specs.Find.{get}
use Rattle.rp_feed.specs.declared.packet.Packet.TheVariants as packet
use Rattle.rp_protocol.specs.PacketLines.{packet_text, poll_text}
use Rattle.rp_protocol.specs.declared.refusal.Field.{Field}
use Rattle.rp_protocol.specs.declared.refusal.Field.TheVariants as f
use Rattle.rp_json.specs.Forms.{cells_data, cells_of, short_of, whole_data, whole_of}
use Rattle.rp_json.specs.Objects.{field, has_fields, object_of}
use Rattle.rp_protocol.specs.Lines.{longest_line}
use Rattle.rp_protocol.specs.declared.request.Request.{Request}
use Rattle.rp_protocol.specs.declared.request.Request.TheVariants as request
use Rattle.rp_protocol.specs.declared.fault.LineFault.{LineFault}
use Rattle.rp_protocol.specs.declared.fault.LineFault.TheVariants.{TooLong, NotJson, BadField}

-- ---- how a request is written

-- the line of a packet, or that of a poll
abbrev pub request_text : Request → List ℕ
request_text (request.Packet sent) = packet_text sent
request_text (request.Poll key budget) = poll_text key budget

-- the same as an object
abbrev pub request_data : Request → Data
request_data (request.Packet (packet.Row n cells)) = object (member (codes "cells") (cells_data cells) (member (codes "row") (whole_data n) no_members))
request_data (request.Packet (packet.Close key count)) = object (member (codes "close") (whole_data count) (member (codes "key") (cells_data key) no_members))
request_data (request.Poll key budget) = object (member (codes "budget") (whole_data budget) (member (codes "poll") (cells_data key) no_members))

-- ---- how a line is read

abbrev pub Asked : Type 0
Asked = Result Request LineFault

-- with the value of a field, or the fault of that field
abbrev pub need : {A : Type 0} → Option A → Field → (A → Asked) → Asked
need None name next = Err (BadField name)
need (Some a) name next = next a

-- the object has no field but its own and its partner
abbrev pub only_two : Data → Request → Asked
only_two d asked = if has_fields 2 d then Ok asked else Err (BadField f.Other)

abbrev pub row_in : Data → Asked
row_in d =
    need (field (codes "row") whole_of d) f.Row λ n.
    need (field (codes "cells") cells_of d) f.Cells λ cells.
    only_two d (request.Packet (packet.Row n cells))

abbrev pub close_in : Data → Asked
close_in d =
    need (field (codes "close") whole_of d) f.Close λ count.
    need (field (codes "key") cells_of d) f.Key λ key.
    only_two d (request.Packet (packet.Close key count))

abbrev pub poll_in : Data → Asked
poll_in d =
    need (field (codes "poll") cells_of d) f.Poll λ key.
    need (field (codes "budget") short_of d) f.Budget λ budget.
    only_two d (request.Poll key budget)

-- the first of the three that is there names the kind
abbrev pub request_in : Data → Asked
request_in d =
    if is_some (get (codes "row") d) then row_in d
    else (if is_some (get (codes "close") d) then close_in d
    else (if is_some (get (codes "poll") d) then poll_in d
    else Err (BadField f.Row)))

abbrev pub in_object : Option Data → (Data → Asked) → Asked
in_object None asked = Err NotJson
in_object (Some d) asked = asked d

-- what a line asks, or its first fault
abbrev pub asked : List ℕ → Asked
asked line = if nat_lt longest_line (length line) then Err TooLong else in_object (object_of line) request_in
