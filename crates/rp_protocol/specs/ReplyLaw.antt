-- What is written of a reply reads back as that reply.
use Rattle.std.specs.Prelude.{◌≡◌, ◌≤◌, ℕ, Ok, length, IsUtf8}
use Rattle.rp_protocol.specs.ReplyLines.{reply_text}
use Rattle.rp_protocol.specs.Within.{IsWithin}
use Rattle.rp_protocol.specs.declared.reply.Reply.{Reply}
use Rattle.rp_protocol.specs.Lines.{longest_line}
use Rattle.rp_protocol.specs.Replies.{NamesColumn, answered, answered_within}

-- the line of a reply, where it is text and no longer than a line may be, is that reply again; a reply's numbers are in the
-- ranges of their types, and a refusal names a column from 1 on
abbrev pub RepliesReadBack : Type 0
RepliesReadBack = (reply : Reply) → IsWithin reply → NamesColumn reply
    → IsUtf8 (reply_text reply) → length (reply_text reply) ≤ longest_line → answered (reply_text reply) ≡ Ok reply

-- the same for whoever reads lines of any other greatest length
abbrev pub RepliesReadBackWithin : Type 0
RepliesReadBackWithin = (limit : ℕ) (reply : Reply) → IsWithin reply → NamesColumn reply
    → IsUtf8 (reply_text reply) → length (reply_text reply) ≤ limit → answered_within limit (reply_text reply) ≡ Ok reply
