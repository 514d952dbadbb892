use Rattle.std.proofs.Common.{◌≡◌, ◌∷◌, ◌+◌, ◌-◌, ◌^◌, [], inl, refl, subst, sym, ap, ◌∙◌, ℕ, ◌<◌, ◌≤◌, length, IsTrue, arith, drop}
use Rattle.rp_words.specs.Mapping as mapping
use Rattle.rp_pattern.specs.declared.machine.split.Expansion.TheVariants.{Full, Row, Open, Split}
use Rattle.rp_pattern.specs.Rests.{Way, IsPut, any_has_fewer, left_at, rises, first_later}
use Rattle.rp_pattern.specs.Ways.{kept_of, stack_of}
use Rattle.rp_pattern.proofs.ChoiceStacks.{rises_more}
use Rattle.rp_pattern.proofs.Rising.{rises_taken, rises_put, taken_at, way_at}
use Rattle.rp_pattern.proofs.Outlooks.{alike, preferred_within, word_ahead, all_within, further_split, further_row}
use Rattle.rp_pattern.proofs.Serving.{either_served, noted_served, row_keeps, split_keeps, split_serves, still_served}
use Rattle.rp_pattern.proofs.outlook.Outlook.expand.Goals as goal

pub overflow_add-row : goal.overflow_add-row
overflow_add-row c =
    let old = c.args.self.now in
    let h = c.requires.depth in
    omega (arith, (preferred_within old (record { depth = c.args.depth; rest = h.rest }) (drop 1 (stack_of old.ways)) h.is).0)

pub returns-in-Full-clause-seen : goal.returns-in-Full-clause-seen
returns-in-Full-clause-seen c =
    let old = c.args.self.now in
    let h = c.requires.depth in
    let came = taken_at old.ways c.take_up.new.self c.args.depth c.args.n c.args.end (old.start + c.args.depth) c.in-Ok.expansion Full h c.in-Full.is c.in-Ok.ensures.taken in
    (alike old _ refl (ap stack_of came.0), word_ahead old _ _ h.is c.args.n c.args.end (mapping.Full []) [] (came.1 c.args.n c.args.end))

pub returns-in-Open-clause-seen : goal.returns-in-Open-clause-seen
returns-in-Open-clause-seen c =
    let old = c.args.self.now in
    let h = c.requires.depth in
    let came = taken_at old.ways c.take_up.new.self c.args.depth c.args.n c.args.end (old.start + c.args.depth) c.in-Ok.expansion Open h c.in-Open.is c.in-Ok.ensures.taken in
    (alike old _ refl (ap stack_of came.0), word_ahead old _ _ h.is c.args.n c.args.end (mapping.Open []) came.1.more came.1.words)

pub returns-in-Split-clause-seen : goal.returns-in-Split-clause-seen
returns-in-Split-clause-seen c =
    let old = c.args.self.now in
    let h = c.requires.depth in
    let came = taken_at old.ways c.take_up.new.self c.args.depth c.args.n c.args.end (old.start + c.args.depth) c.in-Ok.expansion Split h c.in-Split.is c.in-Ok.ensures.taken in
    further_split old _ _ _ c.args.n c.args.end h.is refl came.preferred came.other came.is came.splits

pub returns-in-Ok-follow-clause-seen : goal.returns-in-Ok-follow-clause-seen
returns-in-Ok-follow-clause-seen c =
    let old = c.args.self.now in
    let h = c.requires.depth in
    let cs = drop 1 (stack_of old.ways) in
    let t = way_at c.args.depth (stack_of old.ways) cs h in
    let came = taken_at old.ways c.take_up.new.self c.args.depth c.args.n c.args.end (old.start + c.args.depth) c.in-Ok.expansion (Row c.in-Row.field-0) h c.in-Row.is c.in-Ok.ensures.taken in
    let on : stack_of c.take_up.new.self ≡ t ∷ cs = ap stack_of came.0 ∙ h.is in
    let put = subst (λ ws. IsPut (first_later ws) (old.start + t.depth + 1) (t.depth + 1) (drop 1 ws) (stack_of c.follow.new.self)) on c.in-Ok-follow.ensures.put in
    further_row old _ t cs c.args.n c.args.end h.is refl c.in-Row.field-0 put.rest put.is came.1 put.stands

pub invariant_of-self-in-Ok-follow : goal.invariant_of-self-in-Ok-follow
invariant_of-self-in-Ok-follow c =
    let old = c.args.self.now in
    let h = c.requires.depth in
    let cs = drop 1 (stack_of old.ways) in
    let t = way_at c.args.depth (stack_of old.ways) cs h in
    let new = c.take_up.new.self in
    let came = taken_at old.ways new c.args.depth c.args.n c.args.end (old.start + c.args.depth) c.in-Ok.expansion (Row c.in-Row.field-0) h c.in-Row.is c.in-Ok.ensures.taken in
    let on : stack_of new ≡ t ∷ cs = ap stack_of came.0 ∙ h.is in
    let put = subst (λ ws. IsPut (first_later ws) (old.start + t.depth + 1) (t.depth + 1) (drop 1 ws) (stack_of c.follow.new.self)) on c.in-Ok-follow.ensures.put in
    let w = preferred_within old t cs h.is in
    let below = subst (λ ws. IsTrue (rises (t.depth + 1) (drop 1 ws))) (sym on) (rises_more t.depth (t.depth + 1) cs (omega arith) w.1) in
    record {
      starts = old.starts;
      within = all_within old.start (t.depth + 1) (stack_of c.follow.new.self) (omega (arith, came.1.known, c.requires.rows))
          (rises_put (first_later (stack_of new)) (old.start + t.depth + 1) (t.depth + 1) (drop 1 (stack_of new)) (stack_of c.follow.new.self) c.follow.result below c.follow.ensures.put c.follow.ensures.refused);
      served = still_served old.visited old.visited (kept_of old.ways) (kept_of c.follow.new.self) old.start (stack_of old.ways) (stack_of c.follow.new.self) c.args.n c.args.end c.requires.known c.requires.end refl refl
          (c.follow.ensures.kept ∙ c.take_up.ensures.kept) (λ q d at. inl at)
          (row_keeps c.args.n c.args.end old.start t cs (stack_of old.ways) (stack_of c.follow.new.self) c.in-Row.field-0 put.rest h.is put.is came.1 put.stands) old.served;
    }

pub invariant_of-self-in-Split : goal.invariant_of-self-in-Split
invariant_of-self-in-Split c =
    let old = c.args.self.now in
    let h = c.requires.depth in
    let cs = drop 1 (stack_of old.ways) in
    let t = way_at c.args.depth (stack_of old.ways) cs h in
    let new = c.take_up.new.self in
    let came = taken_at old.ways new c.args.depth c.args.n c.args.end (old.start + c.args.depth) c.in-Ok.expansion Split h c.in-Split.is c.in-Ok.ensures.taken in
    let w = preferred_within old t cs h.is in
    record {
      starts = old.starts;
      within = all_within old.start t.depth (stack_of new) w.0
          (rises_taken old.ways new t.depth (2 ^ 64 - 1 - old.start) c.args.n c.args.end (old.start + t.depth) c.take_up.result h old.within c.take_up.ensures.taken c.take_up.ensures.refused);
      served = still_served old.visited c.note.new.self (kept_of old.ways) (kept_of new) old.start (stack_of old.ways) (stack_of new) c.args.n c.args.end c.requires.known c.requires.end c.note.ensures.known c.note.ensures.end
          c.take_up.ensures.kept
          (either_served old.visited c.note.new.self c.args.n c.args.end (kept_of old.ways) old.start (stack_of new) c.args.place c.args.depth c.note.ensures.only
          (noted_served c.args.place c.args.depth (stack_of old.ways) (stack_of new) (kept_of old.ways) old.start c.args.n c.args.end c.requires.place h
          (λ n' e' later. subst (λ zs. (b : ℕ) → 0 < length ((h.rest.left n' e').0 (old.start + c.args.depth)) → left_at (h.rest.left n' e') (old.start + c.args.depth) ≤ b → IsTrue (any_has_fewer b n' e' old.start zs)) (sym came.is)
          (split_serves c.args.n c.args.end old.start n' e' t cs came.preferred came.other came.splits later))))
          (split_keeps c.args.n c.args.end old.start t cs (stack_of old.ways) (stack_of new) came.preferred came.other h.is came.is came.splits) old.served;
    }
