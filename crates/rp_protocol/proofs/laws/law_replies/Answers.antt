use Rattle.std.proofs.Common.{refl}
use Rattle.rp_protocol.specs.ReplyLines.{reply_text}
use Rattle.rp_protocol.specs.Lines.{longest_line}
use Rattle.rp_protocol.proofs.Back.{answered_text}
use Rattle.rp_protocol.proofs.laws.law_replies.Goals as goal

pub returns : goal.returns
returns c = λ reply within named utf8 short. answered_text longest_line (reply_text reply) reply utf8 refl within short named
