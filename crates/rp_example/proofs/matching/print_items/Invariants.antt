use Rattle.std.proofs.Common.{◌≡◌, length}
use Rattle.rp_example.proofs.matching.print_items.Given as goal

-- giving items neither brings rows nor closes
abbrev pub invariant-loop-poll : goal.invariant-loop-poll
invariant-loop-poll l =
    (l.matcher.known.end ≡ l.fn.matcher.known.end) × (length l.matcher.known.rows ≡ length l.fn.matcher.known.rows)
