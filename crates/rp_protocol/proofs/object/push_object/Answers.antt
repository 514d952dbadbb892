use Rattle.std.proofs.Common.{◌≡◌, ◌++◌, ◌∙◌, ap, ap₂}
use Rattle.json.specs.Print.{print}
use Rattle.rp_protocol.specs.Tokens.{object_tokens}
use Rattle.rp_protocol.proofs.Objects.{object_print}
use Rattle.rp_protocol.proofs.Onto.{on_ok}
use Rattle.rp_protocol.proofs.object.push_object.Goals as goal

pub returns : goal.returns
returns c =
    let columns = c.args.columns.now in
    let cells = c.args.cells.now in
    let before : c.write_object-written.new.writer.before ≡ c.args.text.now.items = c.write_object-written.ensures.before ∙ c.new-writer.ensures.before ∙ ap (λ v. v.items) c.replace-earlier.ensures.value in
    on_ok _ (λ written.
    let tokens : c.write_object-written.new.writer.tokens ≡ object_tokens columns cells = written ∙ ap (λ ts. ts ++ object_tokens columns cells) c.new-writer.ensures.tokens in
    c.into_inner.ensures.items ∙ ap₂ ◌++◌ before (ap print tokens ∙ object_print columns cells)) c.write_object-written.ensures.ok
