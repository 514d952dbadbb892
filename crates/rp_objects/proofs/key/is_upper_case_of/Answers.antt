use Rattle.std.proofs.Common.{◌∙◌, arith}
use Rattle.std.specs.Char.{to_ascii_uppercase}
use Rattle.rp_objects.proofs.UpperKeys.{differ_at, same_all}
use Rattle.rp_objects.proofs.key.is_upper_case_of.Goals as goal

pub returns-then-to_ascii_uppercase-part : goal.returns-then-to_ascii_uppercase-part
returns-then-to_ascii_uppercase-part c = differ_at to_ascii_uppercase c.args.key.now c.args.part.now c.loop-index.index c.loop-index-test.true (λ same. c.if-to_ascii_uppercase-part.true (c.to_ascii_uppercase.ensures.value ∙ same))

pub returns : goal.returns
returns c = same_all to_ascii_uppercase c.args.key.now c.args.part.now c.if-part-key.false (λ k low. c.loop-index.invariant k (omega (arith, low)))
