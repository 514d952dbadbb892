-- Which replies leave what answers as it was.
use Rattle.std.specs.Prelude.{Bool, true, false}
use Rattle.rp_feed.specs.declared.answer.Taken.TheVariants.{New, Repeat, Old}
use Rattle.rp_protocol.specs.declared.reply.Reply.{Reply}
use Rattle.rp_protocol.specs.declared.reply.Reply.TheVariants.{Taken, Item, Idle, Paused, Refused}

-- What answers may be another after this reply: not where a packet was taken before, or a line is refused.
abbrev pub may_change : Reply → Bool
may_change (Taken New) = true
may_change (Taken Repeat) = false
may_change (Taken Old) = false
may_change (Item key place item) = true
may_change (Idle key) = true
may_change (Paused key) = true
may_change (Refused why) = false
