use Rattle.std.proofs.Common.{◌≡◌, length}
use Rattle.rp_lexer.specs.Scan.{entries, mark_in}
use Rattle.rp_lexer.proofs.scan.find_mark.Given as goal

abbrev pub invariant-loop-table : goal.invariant-loop-table
invariant-loop-table l = mark_in (entries l.table) l.rest ≡ mark_in (entries l.initial.table) l.rest

abbrev pub decreases-loop-table : goal.decreases-loop-table
decreases-loop-table l = length l.table
