use Rattle.rp_protocol.proofs.PlainTexts.{plain_byte}
use Rattle.rp_protocol.proofs.compact.is_plain.Goals as goal

pub returns : goal.returns
returns c = λ _. plain_byte c.args.byte c.if-byte-lt32.false c.if-byte-eq34.false c.if-byte-eq92.false
