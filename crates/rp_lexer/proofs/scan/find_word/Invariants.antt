use Rattle.std.proofs.Common.{◌≡◌, length}
use Rattle.rp_lexer.specs.Scan.{entries, word_in}
use Rattle.rp_lexer.proofs.scan.find_word.Given as goal

abbrev pub invariant-loop-table : goal.invariant-loop-table
invariant-loop-table l = word_in (entries l.table) l.name ≡ word_in (entries l.initial.table) l.name

abbrev pub decreases-loop-table : goal.decreases-loop-table
decreases-loop-table l = length l.table
