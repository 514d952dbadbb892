use Rattle.std.proofs.Common.{◌∷◌, refl, drop}
use Rattle.rp_pattern.specs.Rests.{Way}
use Rattle.rp_pattern.specs.Ways.{stack_of}
use Rattle.rp_pattern.proofs.ChoiceStacks.{Stack, same_whole, same_spared, top_begun, no_top, given_up_remaining, given_up_left, given_up_height, given_up_above, given_up_rest, given_up_passed, cut_front, cut_off}
use Rattle.rp_pattern.proofs.Costs.{dropped_less, keeps_under, same_kept}
use Rattle.rp_pattern.proofs.choices.Choices.give_up.Goals as goal

pub returns-in-Some-clause-whole : goal.returns-in-Some-clause-whole
returns-in-Some-clause-whole c = same_whole _ _ refl c.drop_top.ensures.kept

pub returns-in-Some-clause-remaining : goal.returns-in-Some-clause-remaining
returns-in-Some-clause-remaining c = λ n e.
    let old = c.args.self.now in
    let t : Way = record { depth = c.in-Some.depth; rest = c.in-Some.ensures.rest } in
    let cs = drop 1 (stack_of old.ways) in
    let k : Stack old old.start old.labels.items (t ∷ cs) = record { begun = top_begun old c.requires; start = refl; labels = refl; choices = c.in-Some.ensures.is } in
    given_up_remaining old _ t cs n e k (record { begun = top_begun old c.requires; start = refl; labels = c.truncate.ensures.items; choices = c.drop_top.ensures.dropped }) (same_spared old _ refl c.drop_top.ensures.kept)

pub returns-in-Some-clause-left : goal.returns-in-Some-clause-left
returns-in-Some-clause-left c = λ n e.
    let old = c.args.self.now in
    let t : Way = record { depth = c.in-Some.depth; rest = c.in-Some.ensures.rest } in
    let cs = drop 1 (stack_of old.ways) in
    let k : Stack old old.start old.labels.items (t ∷ cs) = record { begun = top_begun old c.requires; start = refl; labels = refl; choices = c.in-Some.ensures.is } in
    given_up_left old _ t cs n e k (record { begun = top_begun old c.requires; start = refl; labels = c.truncate.ensures.items; choices = c.drop_top.ensures.dropped }) (same_spared old _ refl c.drop_top.ensures.kept)

pub returns-in-Some-clause-labels : goal.returns-in-Some-clause-labels
returns-in-Some-clause-labels c = cut_front c.args.self.now _ c.in-Some.depth c.truncate.ensures.items

pub returns-in-Some-clause-cut_off : goal.returns-in-Some-clause-cut_off
returns-in-Some-clause-cut_off c = cut_off c.args.self.now _ (record { depth = c.in-Some.depth; rest = c.in-Some.ensures.rest }) (drop 1 (stack_of c.args.self.now.ways)) c.in-Some.ensures.is c.truncate.ensures.items

pub returns-in_default-clause-whole : goal.returns-in_default-clause-whole
returns-in_default-clause-whole c = same_whole _ _ refl refl

pub returns-in_default-clause-remaining : goal.returns-in_default-clause-remaining
returns-in_default-clause-remaining c = absurd (no_top c.args.self.now c.in_default.ensures c.requires)

pub returns-in_default-clause-left : goal.returns-in_default-clause-left
returns-in_default-clause-left c = absurd (no_top c.args.self.now c.in_default.ensures c.requires)

pub returns-in_default-clause-labels : goal.returns-in_default-clause-labels
returns-in_default-clause-labels c = absurd (no_top c.args.self.now c.in_default.ensures c.requires)

pub returns-in_default-clause-cut_off : goal.returns-in_default-clause-cut_off
returns-in_default-clause-cut_off c = absurd (no_top c.args.self.now c.in_default.ensures c.requires)

pub returns-in-Some-clause-height : goal.returns-in-Some-clause-height
returns-in-Some-clause-height c =
    let old = c.args.self.now in
    let t : Way = record { depth = c.in-Some.depth; rest = c.in-Some.ensures.rest } in
    let cs = drop 1 (stack_of old.ways) in
    let k : Stack old old.start old.labels.items (t ∷ cs) = record { begun = top_begun old c.requires; start = refl; labels = refl; choices = c.in-Some.ensures.is } in
    given_up_height old _ t cs k (record { begun = top_begun old c.requires; start = refl; labels = c.truncate.ensures.items; choices = c.drop_top.ensures.dropped }) (same_spared old _ refl c.drop_top.ensures.kept)

pub returns-in_default-clause-height : goal.returns-in_default-clause-height
returns-in_default-clause-height c = absurd (no_top c.args.self.now c.in_default.ensures c.requires)

pub returns-in-Some-clause-above : goal.returns-in-Some-clause-above
returns-in-Some-clause-above c =
    let old = c.args.self.now in
    let t : Way = record { depth = c.in-Some.depth; rest = c.in-Some.ensures.rest } in
    let cs = drop 1 (stack_of old.ways) in
    let k : Stack old old.start old.labels.items (t ∷ cs) = record { begun = top_begun old c.requires; start = refl; labels = refl; choices = c.in-Some.ensures.is } in
    λ h n e lt. given_up_above old _ t cs k (record { begun = top_begun old c.requires; start = refl; labels = c.truncate.ensures.items; choices = c.drop_top.ensures.dropped }) (same_spared old _ refl c.drop_top.ensures.kept) h n e lt

pub returns-in_default-clause-above : goal.returns-in_default-clause-above
returns-in_default-clause-above c = absurd (no_top c.args.self.now c.in_default.ensures c.requires)

pub returns-in-Some-clause-rest : goal.returns-in-Some-clause-rest
returns-in-Some-clause-rest c =
    let old = c.args.self.now in
    let t : Way = record { depth = c.in-Some.depth; rest = c.in-Some.ensures.rest } in
    let cs = drop 1 (stack_of old.ways) in
    let k : Stack old old.start old.labels.items (t ∷ cs) = record { begun = top_begun old c.requires; start = refl; labels = refl; choices = c.in-Some.ensures.is } in
    λ h n e. given_up_rest old _ t cs k (record { begun = top_begun old c.requires; start = refl; labels = c.truncate.ensures.items; choices = c.drop_top.ensures.dropped }) (same_spared old _ refl c.drop_top.ensures.kept) h n e

pub returns-in_default-clause-rest : goal.returns-in_default-clause-rest
returns-in_default-clause-rest c = absurd (no_top c.args.self.now c.in_default.ensures c.requires)

pub returns-in-Some-clause-passed : goal.returns-in-Some-clause-passed
returns-in-Some-clause-passed c =
    let old = c.args.self.now in
    let t : Way = record { depth = c.in-Some.depth; rest = c.in-Some.ensures.rest } in
    let cs = drop 1 (stack_of old.ways) in
    let k : Stack old old.start old.labels.items (t ∷ cs) = record { begun = top_begun old c.requires; start = refl; labels = refl; choices = c.in-Some.ensures.is } in
    λ n e. given_up_passed old _ t cs k (record { begun = top_begun old c.requires; start = refl; labels = c.truncate.ensures.items; choices = c.drop_top.ensures.dropped }) (same_spared old _ refl c.drop_top.ensures.kept) n e

pub returns-in_default-clause-passed : goal.returns-in_default-clause-passed
returns-in_default-clause-passed c = absurd (no_top c.args.self.now c.in_default.ensures c.requires)

pub returns-in-Some-clause-keeps : goal.returns-in-Some-clause-keeps
returns-in-Some-clause-keeps c = same_kept c.args.self.now _ c.drop_top.ensures.kept

pub returns-in-Some-clause-under : goal.returns-in-Some-clause-under
returns-in-Some-clause-under c =
    let old = c.args.self.now in
    let t : Way = record { depth = c.in-Some.depth; rest = c.in-Some.ensures.rest } in
    let cs = drop 1 (stack_of old.ways) in
    let k : Stack old old.start old.labels.items (t ∷ cs) = record { begun = top_begun old c.requires; start = refl; labels = refl; choices = c.in-Some.ensures.is } in
    λ h n e lt. keeps_under old _ old.start old.labels.items _ t cs cs k (record { begun = top_begun old c.requires; start = refl; labels = c.truncate.ensures.items; choices = c.drop_top.ensures.dropped }) (same_spared old _ refl c.drop_top.ensures.kept) (λ h le. refl) h n e lt

pub returns-in-Some-clause-costs : goal.returns-in-Some-clause-costs
returns-in-Some-clause-costs c =
    let old = c.args.self.now in
    dropped_less old _ (top_begun old c.requires) (top_begun old c.requires) (record { depth = c.in-Some.depth; rest = c.in-Some.ensures.rest }) c.in-Some.ensures.is c.drop_top.ensures.dropped

pub returns-in_default-clause-under : goal.returns-in_default-clause-under
returns-in_default-clause-under c = absurd (no_top c.args.self.now c.in_default.ensures c.requires)

pub returns-in_default-clause-costs : goal.returns-in_default-clause-costs
returns-in_default-clause-costs c = absurd (no_top c.args.self.now c.in_default.ensures c.requires)
