use Rattle.rp_eval.proofs.Local.{rows_decide, spans_decide, leaders_decide}
use Rattle.rp_eval.proofs.laws.law_locality.Goals as goal

pub returns : goal.returns
returns c = record { rows = rows_decide; spans = spans_decide; led = leaders_decide }
