-- What a node answers to a packet, and what the packet leaves behind.
use Rattle.std.specs.Prelude.{◌≡◌, ◌⊎◌, ◌-◌, ℕ, List, Option, Result, Ok, Err}
use Rattle.std.specs.Option.{option_map_or}
use Rattle.std.specs.Cmp.Lexicographic.{pointwise}
use Rattle.rp_value.specs.declared.value.Value.{Value}
use Rattle.rp_value.specs.declared.row.RowFault.{RowFault}
use Rattle.rp_value.specs.contracts.value.ValuePartialEq.TheImpl.{eq-value}
use Rattle.rp_value.specs.Rows.{row_fault}
use Rattle.rp_value.specs.Tables.{kinds_of}
use Rattle.rp_query.specs.declared.query.QueryData.{QueryData}
use Rattle.rp_query.specs.Keys.{key_kinds, key_of}
use Rattle.rp_feed.specs.declared.answer.Taken.{Taken}
use Rattle.rp_feed.specs.declared.answer.FeedFault.{FeedFault}
use Rattle.rp_feed.specs.declared.answer.FeedFault.TheVariants as feed
use Rattle.rp_feed.specs.Fed.{Fed, front_of, with_taken, with_close}
use Rattle.rp_feed.specs.Answers.{Answer, row_answer, close_answer}
use Rattle.rp_feed.specs.declared.packet.Packet.{Packet}
use Rattle.rp_feed.specs.declared.packet.Packet.TheVariants.{Row, Close}
use Rattle.rp_walker.specs.Bound.{SearchSeen, SeenRises}
use Rattle.rp_schedules.specs.Records.{Held, with_fed, or_fresh}
use Rattle.rp_node.specs.declared.fault.NodeFault.{NodeFault}
use Rattle.rp_node.specs.declared.fault.NodeFault.TheVariants as node
use Rattle.rp_node.specs.NodeSeen.{NodeSeen, entry_at, with_entry, work_at}

-- ---- the key of a packet

abbrev pub packet_key : QueryData → Packet → List Value
packet_key q (Row number cells) = key_of q cells
packet_key q (Close key count) = key

-- why the cells of a row are none of the table, or the values of a close's key none of PARTITION BY's columns
abbrev pub packet_fault : QueryData → Packet → Option RowFault
packet_fault q (Row number cells) = row_fault (kinds_of q.table) cells
packet_fault q (Close key count) = row_fault (key_kinds q) key

-- ---- the answer

-- a feed's refusal as the node's
abbrev pub named : FeedFault → NodeFault
named feed.NumberRange = node.NumberRange
named feed.PastClose = node.PastClose
named feed.Conflict = node.Conflict
named feed.TooFar = node.TooFar
named feed.CloseDiffers = node.CloseDiffers
named feed.CloseBelow = node.CloseBelow
named feed.OutOfMemory = node.OutOfMemory

abbrev pub told : Answer → Result Taken NodeFault
told (Ok taken) = Ok taken
told (Err fault) = Err (named fault)

-- what a feed answers to the packet: rows are the same where their cells are
abbrev pub feed_answer : Fed → Packet → Answer
feed_answer fed (Row number cells) = row_answer (pointwise eq-value.it) fed number cells
feed_answer fed (Close key count) = close_answer fed count

-- what it holds once the packet is taken
abbrev pub fed_with : Packet → Fed → Fed
fed_with (Row number cells) fed = with_taken number cells fed
fed_with (Close key count) fed = with_close count fed

-- how many rows more are known once the packet is taken
abbrev pub rows_taken : Fed → Packet → ℕ
rows_taken fed packet = front_of (fed_with packet fed) - front_of fed

-- the record of the packet's key, fresh where nothing of that key was accepted
abbrev pub record_for : NodeSeen → Packet → Held
record_for n packet = or_fresh (entry_at n.records (packet_key n.query packet))

-- the answer to a packet: BadRow where its cells or its key don't fit, else the feed's
abbrev pub packet_answer : NodeSeen → Packet → Result Taken NodeFault
packet_answer n packet =
    option_map_or (λ fault. Err (node.BadRow fault)) (packet_fault n.query packet)
    (told (feed_answer (record_for n packet).feed packet))

-- what is answered to the packet, or that no memory was left
abbrev pub IsAnswered : NodeSeen → Packet → Result Taken NodeFault → Type 0
IsAnswered n packet result = (result ≡ Err node.OutOfMemory) ⊎ (result ≡ packet_answer n packet)

-- What a packet that is New leaves behind: its key's record has taken it, and the turns left of that partition
-- may have risen, those that are seen of its search by so many a row.
pub record Accepted (old : NodeSeen) (packet : Packet) (new : NodeSeen) : Type 0 where
  pub query : new.query ≡ old.query
  pub records : new.records ≡ with_entry (packet_key old.query packet)
      (with_fed (record_for old packet) (fed_with packet (record_for old packet).feed)) old.records
  pub left : ℕ
  pub search : Option SearchSeen
  pub rises : SeenRises (rows_taken (record_for old packet).feed packet) (work_at old (packet_key old.query packet)).search search
  pub work : new.work ≡ with_entry (packet_key old.query packet) (record {
    left =
        left;
    entered = (work_at old (packet_key old.query packet)).entered;
    search = search;
  }) old.work
