use Rattle.std.proofs.Common.{◌≡◌, ◌∷◌, ◌++◌, ◌+◌, [], refl, subst, ap, ◌∙◌, length, IsTrue, arith, drop}
use Rattle.std.proofs.lemmas.List.{length-take-le}
use Rattle.rp_pattern.specs.declared.machine.split.Expansion.TheVariants.{Full, Row, Open, Split}
use Rattle.rp_pattern.specs.Rests.{Way, rises}
use Rattle.rp_pattern.specs.Ways.{stack_of}
use Rattle.rp_pattern.proofs.ChoiceStacks.{height_is, same_whole, rises_first, rises_more, is_nothing}
use Rattle.rp_pattern.proofs.Rising.{rises_taken}
use Rattle.rp_pattern.proofs.Costs.{none_under, same_kept, same_spends}
use Rattle.rp_pattern.proofs.TakenTops.{IsTopTaken, top_came, top_taken_as, top_under, top_spends}
use Rattle.rp_pattern.proofs.choices.Choices.take_up_top.Goals as goal

pub returns-in_default-clause-whole : goal.returns-in_default-clause-whole
returns-in_default-clause-whole c = same_whole _ _ refl refl

pub returns-in_default-clause-taken : goal.returns-in_default-clause-taken
returns-in_default-clause-taken c =
    let a = c.args in
    let old = a.self.now in
    is_nothing old _ old.start old.labels.items a.n a.end
    (record { begun = c.requires.begun; start = refl; labels = refl; choices = c.in_default.ensures })
    (record { begun = c.requires.begun; start = refl; labels = refl; choices = c.in_default.ensures })
    (λ n e. refl)

pub invariant_of-self : goal.invariant_of-self
invariant_of-self c =
    let a = c.args in
    let old = a.self.now in
    let h = c.in-Some.ensures in
    let t : Way = record { depth = c.in-Some.depth; rest = h.rest } in
    let first = rises_first (length old.labels.items) t (drop 1 (stack_of old.ways)) (subst (λ z. IsTrue (rises (length old.labels.items) z)) h.is old.rises) in
    let long : length c.truncate.new.self.items ≡ c.in-Some.depth = ap length c.truncate.ensures.items ∙ length-take-le c.in-Some.depth old.labels.items first.0 in
    record {
      rises = rises_more c.in-Some.depth (length c.truncate.new.self.items) (stack_of c.take_up.new.self) (omega (arith, long))
          (rises_taken old.ways c.take_up.new.self c.in-Some.depth (length old.labels.items) a.n a.end (old.start + c.in-Some.depth) c.take_up.result h old.rises c.take_up.ensures.taken c.take_up.ensures.refused);
      ends = omega (arith, long, first.0, old.ends);
    }

pub returns-in_err-take_up-clause-whole : goal.returns-in_err-take_up-clause-whole
returns-in_err-take_up-clause-whole c = same_whole _ _ refl c.take_up.ensures.kept

pub returns-in_err-push-in-Row-clause-whole : goal.returns-in_err-push-in-Row-clause-whole
returns-in_err-push-in-Row-clause-whole c = same_whole _ _ refl c.take_up.ensures.kept

pub returns-in-Full-clause-whole : goal.returns-in-Full-clause-whole
returns-in-Full-clause-whole c = same_whole _ _ refl c.take_up.ensures.kept

pub returns-in_ok-push-in-Row-clause-whole : goal.returns-in_ok-push-in-Row-clause-whole
returns-in_ok-push-in-Row-clause-whole c = same_whole _ _ refl c.take_up.ensures.kept

pub returns-in-Open-clause-whole : goal.returns-in-Open-clause-whole
returns-in-Open-clause-whole c = same_whole _ _ refl c.take_up.ensures.kept

pub returns-in-Split-clause-whole : goal.returns-in-Split-clause-whole
returns-in-Split-clause-whole c = same_whole _ _ refl c.take_up.ensures.kept

-- the choice is a full word
in_full : (c : goal.After-self-in-Full-1) → IsTopTaken c.args.self.now c.take_up.new.self c.truncate.new.self.items c.args.n c.args.end c.in-Some.depth Full
in_full c =
    top_came c.in_ok-take_up.field-0 Full c.in-Full.is c.requires.begun c.in-Some.ensures c.truncate.ensures.items c.take_up.ensures.kept
    c.in_ok-take_up.ensures.taken c.in_ok-take_up.ensures.costs

-- it runs into the row after the last known one
in_open : (c : goal.After-self-in-Open-1) → IsTopTaken c.args.self.now c.take_up.new.self c.truncate.new.self.items c.args.n c.args.end c.in-Some.depth Open
in_open c =
    top_came c.in_ok-take_up.field-0 Open c.in-Open.is c.requires.begun c.in-Some.ensures c.truncate.ensures.items c.take_up.ensures.kept
    c.in_ok-take_up.ensures.taken c.in_ok-take_up.ensures.costs

-- it gives way to others
in_split : (c : goal.After-self-in-Split-1) → IsTopTaken c.args.self.now c.take_up.new.self c.truncate.new.self.items c.args.n c.args.end c.in-Some.depth Split
in_split c =
    top_came c.in_ok-take_up.field-0 Split c.in-Split.is c.requires.begun c.in-Some.ensures c.truncate.ensures.items c.take_up.ensures.kept
    c.in_ok-take_up.ensures.taken c.in_ok-take_up.ensures.costs

-- it maps a row
in_row : (c : goal.In_ok-push-in-Row) → IsTopTaken c.args.self.now c.take_up.new.self c.push.new.self.items c.args.n c.args.end c.in-Some.depth (Row c.in-Row.label)
in_row c =
    top_came c.in_ok-take_up.field-0 (Row c.in-Row.label) c.in-Row.is c.requires.begun c.in-Some.ensures (c.in_ok-push-in-Row.ensures.items ∙ ap (λ z. z ++ c.in-Row.label ∷ []) c.truncate.ensures.items) c.take_up.ensures.kept
    c.in_ok-take_up.ensures.taken c.in_ok-take_up.ensures.costs

pub returns-in-Full-clause-taken : goal.returns-in-Full-clause-taken
returns-in-Full-clause-taken c = top_taken_as c.args.self.now _ _ _ _ c.requires.begun refl Full (in_full c)

pub returns-in-Open-clause-taken : goal.returns-in-Open-clause-taken
returns-in-Open-clause-taken c = top_taken_as c.args.self.now _ _ _ _ c.requires.begun refl Open (in_open c)

pub returns-in_ok-push-in-Row-clause-taken : goal.returns-in_ok-push-in-Row-clause-taken
returns-in_ok-push-in-Row-clause-taken c = top_taken_as c.args.self.now _ _ _ _ c.requires.begun refl (Row c.in-Row.label) (in_row c)

pub returns-in-Split-clause-taken : goal.returns-in-Split-clause-taken
returns-in-Split-clause-taken c = top_taken_as c.args.self.now _ _ _ _ c.requires.begun refl Split (in_split c)

pub returns-in_err-take_up-clause-keeps : goal.returns-in_err-take_up-clause-keeps
returns-in_err-take_up-clause-keeps c = same_kept c.args.self.now _ c.take_up.ensures.kept

pub returns-in_err-push-in-Row-clause-keeps : goal.returns-in_err-push-in-Row-clause-keeps
returns-in_err-push-in-Row-clause-keeps c = same_kept c.args.self.now _ c.take_up.ensures.kept

pub returns-in-Full-clause-keeps : goal.returns-in-Full-clause-keeps
returns-in-Full-clause-keeps c = same_kept c.args.self.now _ c.take_up.ensures.kept

pub returns-in_ok-push-in-Row-clause-keeps : goal.returns-in_ok-push-in-Row-clause-keeps
returns-in_ok-push-in-Row-clause-keeps c = same_kept c.args.self.now _ c.take_up.ensures.kept

pub returns-in-Open-clause-keeps : goal.returns-in-Open-clause-keeps
returns-in-Open-clause-keeps c = same_kept c.args.self.now _ c.take_up.ensures.kept

pub returns-in-Split-clause-keeps : goal.returns-in-Split-clause-keeps
returns-in-Split-clause-keeps c = same_kept c.args.self.now _ c.take_up.ensures.kept

pub returns-in_default-clause-under : goal.returns-in_default-clause-under
returns-in_default-clause-under c =
    let old = c.args.self.now in
    none_under old _ old.start old.labels.items (record { begun = c.requires.begun; start = refl; labels = refl; choices = c.in_default.ensures })

pub returns-in_default-clause-costs : goal.returns-in_default-clause-costs
returns-in_default-clause-costs c =
    let old = c.args.self.now in (
      same_spends old _ c.requires.begun c.requires.begun refl,
      height_is old old.start old.labels.items [] (record { begun = c.requires.begun; start = refl; labels = refl; choices = c.in_default.ensures }),
    )

pub returns-in-Full-clause-under : goal.returns-in-Full-clause-under
returns-in-Full-clause-under c = top_under c.args.self.now _ _ _ _ c.requires.begun refl Full (in_full c)

pub returns-in-Full-clause-costs : goal.returns-in-Full-clause-costs
returns-in-Full-clause-costs c = top_spends c.args.self.now _ _ _ _ c.requires.begun refl Full (in_full c)

pub returns-in-Open-clause-under : goal.returns-in-Open-clause-under
returns-in-Open-clause-under c = top_under c.args.self.now _ _ _ _ c.requires.begun refl Open (in_open c)

pub returns-in-Open-clause-costs : goal.returns-in-Open-clause-costs
returns-in-Open-clause-costs c = top_spends c.args.self.now _ _ _ _ c.requires.begun refl Open (in_open c)

pub returns-in_ok-push-in-Row-clause-under : goal.returns-in_ok-push-in-Row-clause-under
returns-in_ok-push-in-Row-clause-under c = top_under c.args.self.now _ _ _ _ c.requires.begun refl (Row c.in-Row.label) (in_row c)

pub returns-in_ok-push-in-Row-clause-costs : goal.returns-in_ok-push-in-Row-clause-costs
returns-in_ok-push-in-Row-clause-costs c = top_spends c.args.self.now _ _ _ _ c.requires.begun refl (Row c.in-Row.label) (in_row c)

pub returns-in-Split-clause-under : goal.returns-in-Split-clause-under
returns-in-Split-clause-under c = top_under c.args.self.now _ _ _ _ c.requires.begun refl Split (in_split c)

pub returns-in-Split-clause-costs : goal.returns-in-Split-clause-costs
returns-in-Split-clause-costs c = top_spends c.args.self.now _ _ _ _ c.requires.begun refl Split (in_split c)
