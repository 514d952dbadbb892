use Rattle.std.proofs.Common.{◌≡◌, ◌+◌, ◌-◌, ◌<◌, ap, ◌∙◌, length, arith, rules}
use Rattle.std.specs.VecDeque.{deque_len}
use Rattle.rp_feed.specs.Fed.{Numbered}
use Rattle.rp_feed.specs.Limits.{greatest_number}
use Rattle.rp_feed.proofs.Places.{last_read, up_to_read}
use Rattle.rp_feed.proofs.held_rows.above_all.Goals as goal

pub overflow_add-result : goal.overflow_add-result
overflow_add-result c =
    let within : deque_len c.args.rows.now - 1 < length c.args.rows.now.items = search rules in
    let at = ap (λ (e : Numbered). e.0) c.in-Some.ensures.lookup in
    let low = up_to_read greatest_number (deque_len c.args.rows.now - 1) c.args.rows.now.items c.in-Some.held.now c.requires within in
    omega (arith, at, low)

pub returns-in-Some : goal.returns-in-Some
returns-in-Some c =
    let long : length c.args.rows.now.items ≡ deque_len c.args.rows.now - 1 + 1 = search rules in
    ap (λ (e : Numbered). e.0 + 1) c.in-Some.ensures.lookup
    ∙ last_read c.args.first (deque_len c.args.rows.now - 1) c.args.rows.now.items c.in-Some.held.now long
