use Rattle.std.proofs.Common.{◌∙◌, true, refl, inl, inr, sym, ⊎_elim}
use Rattle.rp_pattern.specs.Visited.{is_set}
use Rattle.rp_pattern.proofs.Visits.{set_keeps, set_noted, set_only}
use Rattle.rp_pattern.proofs.visited.VisitedPlaces.add.Goals as goal

pub returns-in_err-make_room-clause-keeps : goal.returns-in_err-make_room-clause-keeps
returns-in_err-make_room-clause-keeps c q h = c.in_err-make_room.ensures.same q ∙ h

pub returns-in_err-make_room-clause-only : goal.returns-in_err-make_room-clause-only
returns-in_err-make_room-clause-only c q h = inl (sym (c.in_err-make_room.ensures.same q) ∙ h)

pub returns-clause-noted : goal.returns-clause-noted
returns-clause-noted c = set_noted is_set c.make_room.new.self.flags.items c.args.place true c.in_ok-make_room.ensures.room

pub returns-clause-keeps : goal.returns-clause-keeps
returns-clause-keeps c q h =
    set_keeps is_set c.make_room.new.self.flags.items c.args.place c.index_mut.result.now true q c.index_mut.ensures.value (λ _. refl) (c.in_ok-make_room.ensures.same q ∙ h)

pub returns-clause-only : goal.returns-clause-only
returns-clause-only c q h =
    let same = c.in_ok-make_room.ensures.same q in
    ⊎_elim (λ old. inl (sym same ∙ old)) (λ p. inr p.1) (set_only is_set c.make_room.new.self.flags.items c.args.place c.index_mut.result.now true q c.index_mut.ensures.value inr h)
