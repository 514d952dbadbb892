use Rattle.std.proofs.Common.{subst}
use Rattle.rp_pattern.specs.declared.ways.Ways.{Ways}
use Rattle.rp_pattern.specs.Ways.{Keeps, kept_of}
use Rattle.rp_pattern.proofs.KeptWays.{keeps_linked}
use Rattle.rp_pattern.proofs.ways.Ways.share.Goals as goal

pub returns-in_ok-share-in-Linked-clause-keeps : goal.returns-in_ok-share-in-Linked-clause-keeps
returns-in_ok-share-in-Linked-clause-keeps c = λ f keeps.
    keeps_linked f c.in-Linked.linked.origin c.in_ok-share-in-Linked.field-0.origin c.in_ok-share-in-Linked.ensures.origin
    (subst (λ (w : Ways). Keeps f (kept_of w)) c.in-Linked.is keeps)
