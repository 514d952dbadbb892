use Rattle.std.proofs.Common.{◌≡◌, drop}
use Rattle.rp_protocol.specs.Refusals.{refusal_word}
use Rattle.rp_json.specs.Forms.{named}
use Rattle.rp_protocol.proofs.read_refusal.first_named.Given as goal

abbrev pub invariant-loop-refusal : goal.invariant-loop-refusal
invariant-loop-refusal l = named refusal_word l.all l.text ≡ named refusal_word (drop l.refusal-index l.all) l.text
