use Rattle.std.proofs.Common.{◌≡◌, sym, length, arith, rules}
use Rattle.rp_feed.proofs.Places.{ascend_wide, below_run, below_within, run_below}
use Rattle.rp_feed.proofs.held_rows.place_of.Goals as goal

pub returns-then-distance-ready : goal.returns-then-distance-ready
returns-then-distance-ready c =
    let r = c.requires.run in
    let k = c.requires.kept in
    sym (below_run c.args.first c.args.number c.args.rows.now.items c.requires.ascend c.requires.kept (omega arith))

pub place_between-requires-clause-ascend : goal.place_between-requires-clause-ascend
place_between-requires-clause-ascend c = ascend_wide 0 c.args.first c.args.rows.now.items (omega arith) c.requires.ascend

pub place_between-requires-clause-low : goal.place_between-requires-clause-low
place_between-requires-clause-low c =
    let r = c.requires.run in
    let far = c.if-distance-ready.false in
    let b = run_below c.args.first c.args.number c.args.rows.now.items (omega (arith, r, far)) in
    omega (arith, r, b)

pub place_between-requires-clause-high : goal.place_between-requires-clause-high
place_between-requires-clause-high c =
    let w = below_within c.args.number c.args.rows.now.items in
    let e : length c.args.rows.now.items ≡ c.len.result = search rules in
    omega (arith, w, e)
