use Rattle.std.proofs.Common.{◌≡◌, ◌+◌, OnOk, refl, sym, subst, length, drop, IsTrue, arith}
use Rattle.rp_pattern.specs.Choices.{entered}
use Rattle.rp_pattern.specs.Rests.{rises, IsPut, first_later}
use Rattle.rp_pattern.specs.Ways.{stack_of}
use Rattle.rp_pattern.proofs.ChoiceStacks.{Stack, same_whole, same_spared, row_begun, row_some, rises_below, admitted_remaining, admitted_above, admitted_height, admitted_left}
use Rattle.rp_pattern.proofs.Rising.{rises_put, on_ok, always}
use Rattle.rp_pattern.proofs.Costs.{admitted_costs, row_under, same_kept}
use Rattle.rp_pattern.proofs.choices.Choices.admit.Goals as goal

pub follow-requires : goal.follow-requires
follow-requires c = row_some c.args.self.now c.requires

pub invariant_of-self : goal.invariant_of-self
invariant_of-self c =
    let old = c.args.self.now in
    let d = length old.labels.items in
    let long : c.len-depth.result ≡ d = omega (arith, c.len-depth.ensures, old.labels.ok.0) in
    let below = subst (λ z. IsTrue (rises z (drop 1 (stack_of old.ways)))) (sym long) (rises_below d (stack_of old.ways) old.rises) in
    record {
      rises = subst (λ z. IsTrue (rises z (stack_of c.follow.new.self))) long
          (rises_put (first_later (stack_of old.ways)) (old.start + c.len-depth.result) c.len-depth.result (drop 1 (stack_of old.ways)) (stack_of c.follow.new.self) c.follow.result
          below c.follow.ensures.put c.follow.ensures.refused);
      ends = old.ends;
    }

pub returns-clause-whole : goal.returns-clause-whole
returns-clause-whole c = same_whole _ _ refl c.follow.ensures.kept

pub returns-clause-labels : goal.returns-clause-labels
unfolding entered
returns-clause-labels c = always c.follow.result refl

pub returns-clause-remaining : goal.returns-clause-remaining
returns-clause-remaining c =
    let old = c.args.self.now in
    let d = length old.labels.items in
    let k : Stack old old.start old.labels.items (stack_of old.ways) = record { begun = row_begun old c.requires; start = refl; labels = refl; choices = refl } in
    let long : c.len-depth.result ≡ d = omega (arith, c.len-depth.ensures, old.labels.ok.0) in
    let put = subst (λ m. OnOk c.follow.result (IsPut (first_later (stack_of old.ways)) (old.start + m) m (drop 1 (stack_of old.ways)) (stack_of c.follow.new.self))) long c.follow.ensures.put in
    on_ok _ _ c.follow.result
    (λ (p : IsPut (first_later (stack_of old.ways)) (old.start + d) d (drop 1 (stack_of old.ways)) (stack_of c.follow.new.self)). λ n e. admitted_remaining old _ p.rest n e k (record { begun = row_begun old c.requires; start = refl; labels = refl; choices = p.is }) (p.stands n e) (same_spared old _ refl c.follow.ensures.kept))
    put

pub returns-clause-height : goal.returns-clause-height
returns-clause-height c =
    let old = c.args.self.now in
    let d = length old.labels.items in
    let k : Stack old old.start old.labels.items (stack_of old.ways) = record { begun = row_begun old c.requires; start = refl; labels = refl; choices = refl } in
    let long : c.len-depth.result ≡ d = omega (arith, c.len-depth.ensures, old.labels.ok.0) in
    let put = subst (λ m. OnOk c.follow.result (IsPut (first_later (stack_of old.ways)) (old.start + m) m (drop 1 (stack_of old.ways)) (stack_of c.follow.new.self))) long c.follow.ensures.put in
    on_ok _ _ c.follow.result
    (λ (p : IsPut (first_later (stack_of old.ways)) (old.start + d) d (drop 1 (stack_of old.ways)) (stack_of c.follow.new.self)). admitted_height old _ p.rest k (record { begun = row_begun old c.requires; start = refl; labels = refl; choices = p.is }))
    put

pub returns-clause-above : goal.returns-clause-above
returns-clause-above c =
    let old = c.args.self.now in
    let d = length old.labels.items in
    let k : Stack old old.start old.labels.items (stack_of old.ways) = record { begun = row_begun old c.requires; start = refl; labels = refl; choices = refl } in
    let long : c.len-depth.result ≡ d = omega (arith, c.len-depth.ensures, old.labels.ok.0) in
    let put = subst (λ m. OnOk c.follow.result (IsPut (first_later (stack_of old.ways)) (old.start + m) m (drop 1 (stack_of old.ways)) (stack_of c.follow.new.self))) long c.follow.ensures.put in
    on_ok _ _ c.follow.result
    (λ (p : IsPut (first_later (stack_of old.ways)) (old.start + d) d (drop 1 (stack_of old.ways)) (stack_of c.follow.new.self)). λ h n e lt. admitted_above old _ p.rest n e k (record { begun = row_begun old c.requires; start = refl; labels = refl; choices = p.is }) (p.stands n e) (same_spared old _ refl c.follow.ensures.kept) h lt)
    put

pub returns-clause-left : goal.returns-clause-left
returns-clause-left c =
    let old = c.args.self.now in
    let d = length old.labels.items in
    let k : Stack old old.start old.labels.items (stack_of old.ways) = record { begun = row_begun old c.requires; start = refl; labels = refl; choices = refl } in
    let long : c.len-depth.result ≡ d = omega (arith, c.len-depth.ensures, old.labels.ok.0) in
    let put = subst (λ m. OnOk c.follow.result (IsPut (first_later (stack_of old.ways)) (old.start + m) m (drop 1 (stack_of old.ways)) (stack_of c.follow.new.self))) long c.follow.ensures.put in
    on_ok _ _ c.follow.result
    (λ (p : IsPut (first_later (stack_of old.ways)) (old.start + d) d (drop 1 (stack_of old.ways)) (stack_of c.follow.new.self)). λ n e. admitted_left old _ p.rest n e k (record { begun = row_begun old c.requires; start = refl; labels = refl; choices = p.is }) (p.stands n e) (same_spared old _ refl c.follow.ensures.kept))
    put

pub returns-clause-keeps : goal.returns-clause-keeps
returns-clause-keeps c = same_kept c.args.self.now _ c.follow.ensures.kept

pub returns-clause-under : goal.returns-clause-under
returns-clause-under c =
    let old = c.args.self.now in
    let d = length old.labels.items in
    let long : c.len-depth.result ≡ d = omega (arith, c.len-depth.ensures, old.labels.ok.0) in
    let put = subst (λ m. OnOk c.follow.result (IsPut (first_later (stack_of old.ways)) (old.start + m) m (drop 1 (stack_of old.ways)) (stack_of c.follow.new.self))) long c.follow.ensures.put in
    on_ok _ _ c.follow.result
    (λ (p : IsPut (first_later (stack_of old.ways)) (old.start + d) d (drop 1 (stack_of old.ways)) (stack_of c.follow.new.self)). row_under old _ p.rest (row_begun old c.requires) (row_begun old c.requires) refl p.is (row_some old c.requires) (same_spared old _ refl c.follow.ensures.kept))
    put

pub returns-clause-costs : goal.returns-clause-costs
returns-clause-costs c =
    let old = c.args.self.now in
    admitted_costs old _ (row_begun old c.requires) (row_begun old c.requires) c.follow.result c.follow.ensures.costs
