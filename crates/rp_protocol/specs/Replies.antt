-- The line of a reply, and the reply of a line.
use Rattle.std.specs.Prelude.{ℕ, ◌<◌, ⊤, Bool, true, List, [], ◌∷◌, length, Option, Some, None, is_some, option_map, option_and_then, Result, Ok, Err, if◌then◌else◌, nat_lt, codes}
use Rattle.serde_json.specs.Data.{Data, boolean, string, object, no_members, member}
use Rattle.serde_json.specs.Find.{get, as_bool, as_str}
use Rattle.rp_feed.specs.declared.answer.Taken.{Taken}
use Rattle.rp_feed.specs.declared.answer.Taken.TheVariants.{New, Repeat, Old}
use Rattle.rp_query.specs.declared.item.Item.{Item}
use Rattle.rp_query.specs.declared.item.Item.TheVariants as item
use Rattle.rp_query.specs.declared.item.SkipFault.{SkipFault}
use Rattle.rp_query.specs.declared.item.SkipFault.TheVariants.{SkipNoRow, SkipSame}
use Rattle.rp_protocol.specs.ReplyLines.{name_of_fault, name_of_taken}
use Rattle.rp_protocol.specs.Refusals.{refusal_text}
use Rattle.rp_protocol.specs.declared.refusal.Field.TheVariants as f
use Rattle.rp_protocol.specs.declared.refusal.Refusal.TheVariants.{BadRowKind}
use Rattle.rp_protocol.specs.declared.reply.Reply.{Reply}
use Rattle.rp_protocol.specs.declared.reply.Reply.TheVariants as reply
use Rattle.rp_json.specs.Forms.{cells_data, cells_of, named, optional_data, optional_of, place_data, place_of}
use Rattle.rp_json.specs.Objects.{field, object_of, only}
use Rattle.rp_protocol.specs.Lines.{longest_line}
use Rattle.rp_protocol.specs.RefusalTexts.{refusal_of}
use Rattle.rp_protocol.specs.declared.fault.LineFault.{LineFault}
use Rattle.rp_protocol.specs.declared.fault.LineFault.TheVariants.{TooLong, NotJson, BadField}

-- ---- forms

abbrev pub true_of : Data → Option Bool
true_of d = option_and_then (λ b. if b then Some b else None) (as_bool d)

abbrev pub taken_of : Data → Option Taken
taken_of d = option_and_then (named name_of_taken (New ∷ Repeat ∷ Old ∷ [])) (as_str d)

abbrev pub fault_of : Data → Option SkipFault
fault_of d = option_and_then (named name_of_fault (SkipNoRow ∷ SkipSame ∷ [])) (as_str d)

abbrev pub refused_of : Data → Option Reply
refused_of d = option_map reply.Refused (option_and_then refusal_of (as_str d))

-- ---- a reply as an object

abbrev pub item_data : Item → Data → Data → Data
item_data (item.Row n cells) key place = object (member (codes "cells") (cells_data cells) (member (codes "key") key (member (codes "number") (optional_data n) (member (codes "place") place no_members))))
item_data (item.Fault fault) key place = object (member (codes "fault") (string (name_of_fault fault)) (member (codes "key") key (member (codes "place") place no_members)))
item_data item.End key place = object (member (codes "end") (boolean true) (member (codes "key") key (member (codes "place") place no_members)))

abbrev pub reply_data : Reply → Data
reply_data (reply.Taken taken) = object (member (codes "taken") (string (name_of_taken taken)) no_members)
reply_data (reply.Item key place given) = item_data given (cells_data key) (place_data place)
reply_data (reply.Idle key) = object (member (codes "idle") (cells_data key) no_members)
reply_data (reply.Paused key) = object (member (codes "paused") (cells_data key) no_members)
reply_data (reply.Refused refusal) = object (member (codes "refused") (string (refusal_text refusal)) no_members)

-- ---- how an object is read

abbrev pub row_item_in : Data → Option Item
row_item_in d =
    option_and_then (λ cells. option_and_then (λ n. only 4 d (Some (item.Row n cells)))
    (field (codes "number") optional_of d))
    (field (codes "cells") cells_of d)

abbrev pub item_in : Data → Option Item
item_in d =
    if is_some (get (codes "cells") d) then row_item_in d
    else (if is_some (get (codes "fault") d) then option_and_then (λ fault. only 3 d (Some (item.Fault fault))) (field (codes "fault") fault_of d)
    else option_and_then (λ b. only 3 d (Some item.End)) (field (codes "end") true_of d))

abbrev pub placed_in : Data → Option Reply
placed_in d =
    option_and_then (λ key. option_and_then (λ place. option_and_then (λ given. Some (reply.Item key place given))
    (item_in d))
    (field (codes "place") place_of d))
    (field (codes "key") cells_of d)

abbrev pub reply_in : Data → Option Reply
reply_in d =
    if is_some (get (codes "taken") d) then only 1 d (option_map reply.Taken (field (codes "taken") taken_of d))
    else (if is_some (get (codes "idle") d) then only 1 d (option_map reply.Idle (field (codes "idle") cells_of d))
    else (if is_some (get (codes "paused") d) then only 1 d (option_map reply.Paused (field (codes "paused") cells_of d))
    else (if is_some (get (codes "refused") d) then only 1 d (field (codes "refused") refused_of d)
    else placed_in d)))

-- ---- lines

abbrev pub option_ok_or : Option Reply → LineFault → Result Reply LineFault
option_ok_or None fault = Err fault
option_ok_or (Some r) fault = Ok r

abbrev pub answer_of : Option Data → Result Reply LineFault
answer_of None = Err NotJson
answer_of (Some d) = option_ok_or (reply_in d) (BadField f.Other)

-- a refusal names a column by its number from 1, since what names column 0 is no refusal
abbrev pub NamesColumn : Reply → Type 0
NamesColumn (reply.Taken taken) = ⊤
NamesColumn (reply.Item key place given) = ⊤
NamesColumn (reply.Idle key) = ⊤
NamesColumn (reply.Paused key) = ⊤
NamesColumn (reply.Refused (BadRowKind n)) = 0 < n
NamesColumn (reply.Refused _) = ⊤

-- the reply that a line of at most `limit` bytes is, or its first fault
abbrev pub answered_within : ℕ → List ℕ → Result Reply LineFault
answered_within limit line = if nat_lt limit (length line) then Err TooLong else answer_of (object_of line)

-- the reply that a line is, or its first fault
abbrev pub answered : List ℕ → Result Reply LineFault
answered line = answered_within longest_line line
