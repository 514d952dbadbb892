use Rattle.std.proofs.Common.{◌≡◌, length}
use Rattle.rp_words.specs.declared.word.End.TheVariants.{Open}
use Rattle.rp_example.proofs.matching.run.Given as goal

-- further rows may come, and as many came as the loop went round
abbrev pub invariant-loop-index : goal.invariant-loop-index
invariant-loop-index l = (l.matcher.known.end ≡ Open) × (length l.matcher.known.rows ≡ l.index)
