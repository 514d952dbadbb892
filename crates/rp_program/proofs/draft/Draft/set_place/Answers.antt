use Rattle.std.proofs.Common.{arith}
use Rattle.rp_words.proofs.OrdersAt.{factorial_positive, factorial_small}
use Rattle.rp_program.proofs.draft.Draft.set_place.Goals as goal

pub overflow_sub-orders : goal.overflow_sub-orders
overflow_sub-orders c = omega (arith, c.factorial-orders.ensures, factorial_positive c.set_size.result)

pub overflow_cast-orders : goal.overflow_cast-orders
overflow_cast-orders c =
    let small = factorial_small c.set_size.result (omega (arith, c.set_size.ensures.few, c.requires.few)) in
    omega (arith, c.factorial-orders.ensures, small)
