-- The lines of requests, of replies, and of items that are told.
use Rattle.std.specs.Prelude.{ℕ, List, ◌++◌, map, codes, decimal, Option, Some, None, option_map, Result, Ok, Err}
use Rattle.std.specs.List.{flat_map}
use Rattle.rp_io.specs.Lines.{lines_of}
use Rattle.rp_protocol.specs.ReplyLines.{reply_text}
use Rattle.rp_protocol.specs.declared.reply.Reply.{Reply}
use Rattle.rp_protocol.specs.Replies.{answered_within}
use Rattle.rp_protocol.specs.Requests.{request_text}
use Rattle.rp_protocol.specs.declared.fault.LineFault.{LineFault}
use Rattle.rp_protocol.specs.declared.request.Request.{Request}

-- the line of a request, with its line feed
abbrev pub line_of : Request → List ℕ
line_of request = request_text request ++ codes "\n"

abbrev pub request_lines : List Request → List ℕ
request_lines requests = flat_map line_of requests

-- the line of a reply that gives an item, after the node's number and a space
abbrev pub item_line : ℕ → Reply → List ℕ
item_line number reply = decimal number ++ (codes " " ++ (reply_text reply ++ codes "\n"))

abbrev pub item_lines : ℕ → List Reply → List ℕ
item_lines number replies = flat_map (item_line number) replies

abbrev pub if_ok : Result Reply LineFault → Option Reply
if_ok (Ok reply) = Some reply
if_ok (Err fault) = None

-- the reply that a line of at most `limit` bytes is
abbrev pub reply_within : ℕ → List ℕ → Option Reply
reply_within limit line = if_ok (answered_within limit line)

-- the replies of an input, a line of at most `limit` bytes each, where its bytes are known
abbrev pub replies_within : ℕ → Option (List ℕ) → Option (List (Option Reply))
replies_within limit input = option_map (λ bytes. map (reply_within limit) (lines_of bytes)) input
