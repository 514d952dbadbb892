use Rattle.std.proofs.Common.{◌≡◌, ◌+◌, ◌≤◌, false, IfOk, subst, arith}
use Rattle.rp_known.specs.Walk.{found_at}
use Rattle.rp_search.specs.Search.{labels_of_search}
use Rattle.rp_why.specs.Seeking.{IsFoundAt, LooksAt, closed_by}
use Rattle.rp_why.specs.Sought.{NoneFrom, is_wanted}
use Rattle.rp_why.proofs.Looking.{none_yet, one_more, sought_of}
use Rattle.rp_why.proofs.seeking.counted.Goals as goal

pub rows-init : goal.rows-init
rows-init g c =
    let p = closed_by c.args.rows.now.rows.items in
    let within : c.args.wanted.first ≤ c.args.wanted.last = omega (arith, c.if-wanted.false) in
    record {
      begun = omega arith;
      within = within;
      searches = c.in_ok-run.ensures p (omega (arith, within, c.requires.known));
      none = none_yet c.args.query.now p c.args.wanted.with_rows c.args.wanted.first;
    }

pub returns-in-Wanted : goal.returns-in-Wanted
returns-in-Wanted g c =
    let q = c.args.query.now in
    let p = closed_by c.args.rows.now.rows.items in
    let looked = subst (λ look. LooksAt q p c.rows.start c.args.wanted.with_rows c.in_ok-look.ran look) c.in-Wanted.is c.in_ok-look.ensures.looked in
    sought_of q p c.args.wanted c.rows.start (labels_of_search c.in_ok-look.ran.search) c.found.result looked.0 looked.1
    c.rows.invariant.begun c.rows.invariant.within c.rows.invariant.none
    (subst (λ ls. IfOk c.found.result (IsFoundAt c.rows.start ls)) c.labels.ensures c.found.ensures)

pub returns-then-start-wanted : goal.returns-then-start-wanted
returns-then-start-wanted g c =
    let q = c.args.query.now in
    let p = closed_by c.args.rows.now.rows.items in
    let w = c.args.wanted in
    let here : is_wanted w.with_rows (found_at q p c.rows.start) ≡ false =
    subst (λ look. LooksAt q p c.rows.start w.with_rows c.in_ok-look.ran look) c.in-Unwanted.is c.in_ok-look.ensures.looked in
    let last : c.rows.start ≡ w.last = omega (arith, c.if-start-wanted.true, c.rows.invariant.within) in
    subst (λ n. NoneFrom q p w.with_rows w.first (n + 1)) last (one_more q p w.with_rows w.first c.rows.start c.rows.invariant.none here)

pub rows-preserved : goal.rows-preserved
rows-preserved g c =
    let q = c.args.query.now in
    let p = closed_by c.args.rows.now.rows.items in
    let w = c.args.wanted in
    let here : is_wanted w.with_rows (found_at q p c.rows.start) ≡ false =
    subst (λ look. LooksAt q p c.rows.start w.with_rows c.in_ok-look.ran look) c.in-Unwanted.is c.in_ok-look.ensures.looked in
    let within : c.rows.start + 1 ≤ w.last = omega (arith, c.if-start-wanted.false, c.rows.invariant.within) in
    record {
      begun = omega (arith, c.rows.invariant.begun);
      within = within;
      searches = c.move_to-run.ensures q p c.rows.start c.in_ok-look.ensures.serves (omega (arith, within, c.requires.known));
      none = one_more q p w.with_rows w.first c.rows.start c.rows.invariant.none here;
    }
