use Rattle.std.proofs.Common.{rules, ◌≡◌, ◌++◌, [], ◌∙◌, ap, ap₂}
use Rattle.json.specs.Print.{print}
use Rattle.rp_protocol.specs.Tokens.{reply_tokens}
use Rattle.rp_protocol.proofs.Texts.{reply_print}
use Rattle.rp_protocol.proofs.line.reply_bytes.Goals as goal

pub returns-clause-text : goal.returns-clause-text
returns-clause-text c =
    let given = c.args.reply.now in
    let before : c.write_reply.new.writer.before ≡ [] = search rules in
    let tokens : c.write_reply.new.writer.tokens ≡ reply_tokens given = c.in_ok-write_reply.ensures.ok ∙ ap (λ ts. ts ++ reply_tokens given) c.new-writer.ensures.tokens in
    c.into_inner.ensures.items ∙ ap₂ ◌++◌ before (ap print tokens ∙ reply_print given c.in_ok-write_reply.ensures.within)
