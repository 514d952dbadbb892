use Rattle.rp_walker.proofs.Agreeing.{turned}
use Rattle.rp_walker.proofs.Fitting.{within_kept, meant}
use Rattle.rp_walker.proofs.laws.law_steps.Goals as goal

pub returns : goal.returns
returns c = λ q old new k p sound one are fits. (
  within_kept c.law_known.ensures.leg c.law_legs.ensures.lead q sound old new k p one (turned are) fits,
  λ m. meant c.law_known.ensures.leg c.law_legs.ensures.lead q sound old new k p one (turned are) fits m,
)
