-- Inside: lines that are the compact text of a request.
use Rattle.std.specs.Prelude.{◌≡◌, ◌<◌, ◌^◌, ℕ, List}
use Rattle.rp_feed.specs.declared.packet.Packet.TheVariants as packet
use Rattle.rp_protocol.specs.Within.{AreCells}
use Rattle.rp_protocol.specs.Requests.{request_text}
use Rattle.rp_protocol.specs.declared.request.Request.{Request}
use Rattle.rp_protocol.specs.declared.request.Request.TheVariants as request

-- the numbers of a request are in the ranges of their types, as each request's are
abbrev pub IsAsked : Request → Type 0
IsAsked (request.Packet (packet.Row n cells)) = (n < 2 ^ 64) × AreCells cells
IsAsked (request.Packet (packet.Close key count)) = (count < 2 ^ 64) × AreCells key
IsAsked (request.Poll key budget) = (budget < 2 ^ 32) × AreCells key

-- the line is what is written for the request
abbrev pub IsLineOf : List ℕ → Request → Type 0
IsLineOf line r = (line ≡ request_text r) × IsAsked r
