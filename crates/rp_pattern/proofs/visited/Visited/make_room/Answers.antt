use Rattle.std.proofs.Common.{◌∙◌, slice_get, ap}
use Rattle.rp_pattern.specs.Visited.{has_in, was_at}
use Rattle.rp_pattern.proofs.Visits.{push_same}
use Rattle.rp_pattern.proofs.visited.Visited.make_room.Goals as goal

pub loop-self-preserved : goal.loop-self-preserved
unfolding was_at
loop-self-preserved c = (
  c.loop-self.invariant.0,
  c.loop-self.invariant.1,
  λ q d.
      ap (λ places. has_in (slice_get places d) q) c.in_ok-push.ensures.items ∙ push_same (λ places. has_in places q) c.loop-self.self.depths.items c.new.result d (c.new.ensures q) ∙ c.loop-self.invariant.2 q d,
)

pub returns-in_err-push-clause-same : goal.returns-in_err-push-clause-same
unfolding was_at
returns-in_err-push-clause-same c = λ q d. ap (λ places. has_in (slice_get places d) q) c.in_err-push.ensures.items ∙ c.loop-self.invariant.2 q d
