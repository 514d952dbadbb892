use Rattle.std.proofs.Common.{◌≡◌, take}
use Rattle.rp_value.specs.Sums.{exact_sum}
use Rattle.rp_value.proofs.sum.total.Given as goal

abbrev pub invariant-loop-number : goal.invariant-loop-number
invariant-loop-number l =
    l.sum ≡ record { count = l.number-index; sum = exact_sum (take l.number-index l.numbers) }
