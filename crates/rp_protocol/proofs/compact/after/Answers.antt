use Rattle.rp_protocol.proofs.PlainTexts.{if_prefix}
use Rattle.rp_protocol.proofs.compact.after.Goals as goal

pub returns : goal.returns
returns c = if_prefix (λ r. r.now) c.args.text.now c.args.mark.now c.strip_prefix.result _ _ c.strip_prefix.ensures.cases
