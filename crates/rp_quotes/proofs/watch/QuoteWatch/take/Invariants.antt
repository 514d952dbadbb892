use Rattle.std.proofs.Common.{ℕ, List, ◌++◌, take}
use Rattle.rp_quotes.specs.Watching.{HasSeen}
use Rattle.rp_quotes.proofs.watch.QuoteWatch.take.Given as goal

abbrev pub invariant-loop-byte : goal.invariant-loop-byte
invariant-loop-byte l = (delimiter : ℕ) (text : List ℕ) → HasSeen delimiter text l.fn.self → HasSeen delimiter (text ++ take l.byte-index l.piece) l.self
