use Rattle.std.proofs.Common.{◌∙◌, inl, sym, ⊎_elim, inr}
use Rattle.rp_pattern.specs.Visited.{has_in, was_at}
use Rattle.rp_pattern.proofs.Visits.{set_keeps, set_noted, set_only}
use Rattle.rp_pattern.proofs.visited.Visited.add.Goals as goal

pub returns-in_err-make_room-clause-keeps : goal.returns-in_err-make_room-clause-keeps
returns-in_err-make_room-clause-keeps c q d h = c.in_err-make_room.ensures.same q d ∙ h

pub returns-in_err-make_room-clause-only : goal.returns-in_err-make_room-clause-only
returns-in_err-make_room-clause-only c q d h = inl (sym (c.in_err-make_room.ensures.same q d) ∙ h)

pub returns-in_err-more-clause-keeps : goal.returns-in_err-more-clause-keeps
unfolding was_at
returns-in_err-more-clause-keeps c q d h =
    set_keeps (λ places. has_in places q) c.make_room.new.self.depths.items c.args.depth c.index_mut.result.now c.add.new.self d c.index_mut.ensures.value (c.in_err-more.ensures.keeps q) (c.in_ok-make_room.ensures.same q d ∙ h)

pub returns-in_err-more-clause-only : goal.returns-in_err-more-clause-only
unfolding was_at
returns-in_err-more-clause-only c q d h =
    ⊎_elim (λ old. inl (sym (c.in_ok-make_room.ensures.same q d) ∙ old)) inr
    (set_only (λ places. has_in places q) c.make_room.new.self.depths.items c.args.depth c.index_mut.result.now c.add.new.self d c.index_mut.ensures.value (c.in_err-more.ensures.only q) h)

pub returns-clause-noted : goal.returns-clause-noted
unfolding was_at
returns-clause-noted c =
    set_noted (λ places. has_in places c.args.place) c.make_room.new.self.depths.items c.args.depth c.add.new.self c.in_ok-make_room.ensures.room ∙ c.in_ok-more.ensures.noted

pub returns-clause-keeps : goal.returns-clause-keeps
unfolding was_at
returns-clause-keeps c q d h =
    set_keeps (λ places. has_in places q) c.make_room.new.self.depths.items c.args.depth c.index_mut.result.now c.add.new.self d c.index_mut.ensures.value (c.in_ok-more.ensures.keeps q) (c.in_ok-make_room.ensures.same q d ∙ h)

pub returns-clause-only : goal.returns-clause-only
unfolding was_at
returns-clause-only c q d h =
    ⊎_elim (λ old. inl (sym (c.in_ok-make_room.ensures.same q d) ∙ old)) inr
    (set_only (λ places. has_in places q) c.make_room.new.self.depths.items c.args.depth c.index_mut.result.now c.add.new.self d c.index_mut.ensures.value (c.in_ok-more.ensures.only q) h)
