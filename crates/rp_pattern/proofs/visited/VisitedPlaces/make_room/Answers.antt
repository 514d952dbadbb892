use Rattle.std.proofs.Common.{◌∙◌, slice_get, refl, ap}
use Rattle.rp_pattern.specs.Visited.{is_set}
use Rattle.rp_pattern.proofs.Visits.{push_same}
use Rattle.rp_pattern.proofs.visited.VisitedPlaces.make_room.Goals as goal

pub loop-self-preserved : goal.loop-self-preserved
loop-self-preserved c q = ap (λ flags. is_set (slice_get flags q)) c.in_ok-push.ensures.items ∙ push_same is_set c.loop-self.self.flags.items _ q refl ∙ c.loop-self.invariant q

pub returns-in_err-push-clause-same : goal.returns-in_err-push-clause-same
returns-in_err-push-clause-same c q = ap (λ flags. is_set (slice_get flags q)) c.in_err-push.ensures.items ∙ c.loop-self.invariant q
