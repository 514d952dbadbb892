use Rattle.std.proofs.Common.{◌+◌, ◌*◌, length}
use Rattle.rp_trace.proofs.grammar.+grammar.Given as goal

abbrev pub decreases-alternatives : goal.decreases-alternatives
decreases-alternatives l = 4 * length l.symbols.now + 3

abbrev pub decreases-sequence : goal.decreases-sequence
decreases-sequence l = 4 * length l.symbols.now + 2

abbrev pub decreases-factor : goal.decreases-factor
decreases-factor l = 4 * length l.symbols.now + 1

abbrev pub decreases-primary : goal.decreases-primary
decreases-primary l = 4 * length l.symbols.now
