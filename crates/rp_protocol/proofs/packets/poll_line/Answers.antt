use Rattle.std.proofs.Common.{rules, ◌≡◌, ◌++◌, [], ◌∙◌, ap, ap₂}
use Rattle.json.specs.Print.{print}
use Rattle.rp_protocol.specs.PacketTokens.{poll_tokens}
use Rattle.rp_protocol.proofs.PacketTexts.{poll_print}
use Rattle.rp_protocol.proofs.packets.poll_line.Goals as goal

pub returns : goal.returns
returns c =
    let of = c.args.key.now in
    let budget = c.args.budget in
    let before : c.write_poll.new.writer.before ≡ [] = search rules in
    let tokens : c.write_poll.new.writer.tokens ≡ poll_tokens of budget = c.in_ok-write_poll.ensures.ok ∙ ap (λ ts. ts ++ poll_tokens of budget) c.new-writer.ensures.tokens in
    c.into_inner.ensures.items ∙ ap₂ ◌++◌ before (ap print tokens ∙ poll_print of budget)
