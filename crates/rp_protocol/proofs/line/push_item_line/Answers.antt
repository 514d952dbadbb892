use Rattle.std.proofs.Common.{◌≡◌, ◌++◌, ◌<◌, ◌∙◌, ap, ap₂, arith}
use Rattle.std.specs.Prelude.{◌^◌}
use Rattle.json.specs.Print.{print}
use Rattle.rp_protocol.specs.Tokens.{item_tokens}
use Rattle.rp_protocol.proofs.Texts.{item_print}
use Rattle.rp_protocol.proofs.Onto.{on_ok}
use Rattle.rp_protocol.proofs.line.push_item_line.Goals as goal

pub returns-clause-ok : goal.returns-clause-ok
returns-clause-ok c =
    let at = c.args.key.now in
    let given = c.args.item.now in
    let small : c.args.place < 10 ^ 64 = omega arith in
    let before : c.write_item-written.new.writer.before ≡ c.args.text.now.items = c.write_item-written.ensures.before ∙ c.new-writer.ensures.before ∙ ap (λ v. v.items) c.replace-earlier.ensures.value in
    on_ok _ (λ written.
    let tokens : c.write_item-written.new.writer.tokens ≡ item_tokens at c.args.place given = written ∙ ap (λ ts. ts ++ item_tokens at c.args.place given) c.new-writer.ensures.tokens in
    c.into_inner.ensures.items ∙ ap₂ ◌++◌ before (ap print tokens ∙ item_print at c.args.place given small)) c.write_item-written.ensures.ok

pub returns-clause-kept : goal.returns-clause-kept
returns-clause-kept c =
    let before : c.write_item-written.new.writer.before ≡ c.args.text.now.items = c.write_item-written.ensures.before ∙ c.new-writer.ensures.before ∙ ap (λ v. v.items) c.replace-earlier.ensures.value in
    (print c.write_item-written.new.writer.tokens, c.into_inner.ensures.items ∙ ap (λ b. b ++ print c.write_item-written.new.writer.tokens) before)
