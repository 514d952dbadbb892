use Rattle.std.proofs.Common.{[], ◌∷◌, ◌++◌, ◌∙◌, ap, append_assoc}
use Rattle.rp_words.specs.PatternForm.{form_of}
use Rattle.rp_trace.specs.Replies.{reply_text}
use Rattle.rp_trace.proofs.trace.push_reply.Goals as goal

pub returns-clause-added : goal.returns-clause-added
returns-clause-added c =
    c.in_ok-push.ensures.items ∙ ap (λ text. text ++ 10 ∷ []) c.in_ok-push_answer.ensures.added
    ∙ append_assoc c.args.text.now.items (reply_text (form_of c.args.pattern.now) c.args.line.now) (10 ∷ [])
