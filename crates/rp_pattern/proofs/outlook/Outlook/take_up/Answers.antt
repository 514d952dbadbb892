use Rattle.std.proofs.Common.{◌≡◌, ◌+◌, inl, refl, subst, sym, ◌∙◌, IsTrue, drop}
use Rattle.rp_pattern.specs.declared.outlook.Outlook.{Outlook}
use Rattle.rp_pattern.specs.Rests.{Way, rises}
use Rattle.rp_pattern.specs.Ways.{kept_of, stack_of}
use Rattle.rp_pattern.proofs.Outlooks.{preferred_within, nothing_ahead, all_within, further_drop, seen_ok, alike}
use Rattle.rp_pattern.proofs.Serving.{KeepsServing, drop_keeps, served_later, still_served, visited_served, visited_takes}
use Rattle.rp_pattern.proofs.outlook.Outlook.take_up.Goals as goal

pub returns-in_default : goal.returns-in_default
returns-in_default c = (refl, nothing_ahead c.args.self.now c.in_default.ensures)

pub invariant_of-self : goal.invariant_of-self
invariant_of-self c =
    let a = c.args in
    let old = a.self.now in
    let h = c.in-Some.ensures in
    let d = c.in-Some.depth in
    let t : Way = record { depth = d; rest = h.rest } in
    let ws = stack_of old.ways in
    let k = kept_of old.ways in
    let mid = c.go_on.new.self in
    let new = c.drop_top.new.self in
    let dropped : stack_of new ≡ drop 1 ws = c.drop_top.ensures.dropped in
    let w = preferred_within old t (drop 1 ws) h.is in
    let served = served_later old.visited mid k old.start ws a.n a.end c.go_on.ensures.known c.go_on.ensures.end c.go_on.ensures.only old.served in
    let others = visited_served mid c.place-place.result d ws k old.start a.n a.end c.go_on.ensures.known c.go_on.ensures.end (sym c.has.ensures ∙ c.if-has.true) c.place-place.ensures.at h served in
    record {
      starts = old.starts;
      within = all_within old.start d (stack_of new) w.0 (subst (λ zs. IsTrue (rises d zs)) (sym dropped) w.1);
      served = still_served mid mid k (kept_of new) old.start ws (stack_of new) a.n a.end c.go_on.ensures.known c.go_on.ensures.end refl refl c.drop_top.ensures.kept (λ q d at. inl at)
          (subst (λ zs. KeepsServing a.n a.end old.start ws zs) (sym dropped) (drop_keeps a.n a.end old.start t (drop 1 ws) ws h.is others)) served;
    }

pub returns-then-has : goal.returns-then-has
returns-then-has c =
    let a = c.args in
    let old = a.self.now in
    let h = c.in-Some.ensures in
    let d = c.in-Some.depth in
    let t : Way = record { depth = d; rest = h.rest } in
    let ws = stack_of old.ways in
    let k = kept_of old.ways in
    let mid = c.go_on.new.self in
    let was = sym c.has.ensures ∙ c.if-has.true in
    let served = served_later old.visited mid k old.start ws a.n a.end c.go_on.ensures.known c.go_on.ensures.end c.go_on.ensures.only old.served in
    let others = visited_served mid c.place-place.result d ws k old.start a.n a.end c.go_on.ensures.known c.go_on.ensures.end was c.place-place.ensures.at h served in
    further_drop old _ t (drop 1 ws) a.n a.end h.is refl c.drop_top.ensures.dropped (λ n' e' later. visited_takes mid c.place-place.result d ws k was c.place-place.ensures.at h n' e' (old.start + d)) others

pub returns : goal.returns
returns c =
    let old = c.args.self.now in
    let mid : Outlook = record { start = old.start; ways = old.ways; visited = c.go_on.new.self; starts = _; within = _; served = _ } in
    seen_ok old mid c.expand.new.self c.args.n c.args.end c.expand.result (alike old mid refl refl) c.expand.ensures.some c.expand.ensures.seen
