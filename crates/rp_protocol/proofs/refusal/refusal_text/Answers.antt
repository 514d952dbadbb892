use Rattle.std.proofs.Common.{sym, ◌∙◌}
use Rattle.std.proofs.lemmas.Result.{IfOk-weaker}
use Rattle.rp_protocol.proofs.Plain.{plain-text}
use Rattle.rp_protocol.proofs.refusal.refusal_text.Goals as goal

pub returns-in_default : goal.returns-in_default
returns-in_default c = IfOk-weaker c.from_str.result _ _ (λ s h. h ∙ c.word.ensures ∙ sym (plain-text c.args.refusal c.in_default.not-BadRowKind)) c.from_str.ensures.ok
