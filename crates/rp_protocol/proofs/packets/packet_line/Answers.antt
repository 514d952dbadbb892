use Rattle.std.proofs.Common.{rules, ◌≡◌, ◌++◌, [], ◌∙◌, ap, ap₂}
use Rattle.json.specs.Print.{print}
use Rattle.rp_protocol.specs.PacketTokens.{packet_tokens}
use Rattle.rp_protocol.proofs.PacketTexts.{packet_print}
use Rattle.rp_protocol.proofs.packets.packet_line.Goals as goal

pub returns : goal.returns
returns c =
    let sent = c.args.packet.now in
    let before : c.write_packet.new.writer.before ≡ [] = search rules in
    let tokens : c.write_packet.new.writer.tokens ≡ packet_tokens sent = c.in_ok-write_packet.ensures.ok ∙ ap (λ ts. ts ++ packet_tokens sent) c.new-writer.ensures.tokens in
    c.into_inner.ensures.items ∙ ap₂ ◌++◌ before (ap print tokens ∙ packet_print sent)
