use Rattle.std.proofs.Common.{get_or, arith}
use Rattle.rp_lexer.proofs.Numbers.{digit_bounds, value_more, value_above}
use Rattle.rp_lexer.proofs.scan.value_of.Goals as goal

pub returns-then-value-digit : goal.returns-then-value-digit
returns-then-value-digit c =
    let i = c.loop-byte.byte-index in
    value_above c.args.digits.now i c.loop-byte.value c.from-digit.result c.loop-byte-test.true (c.requires i 0 c.loop-byte-test.true) c.loop-byte.invariant.value c.from-digit.ensures c.if-value-digit.true

pub loop-byte-preserved : goal.loop-byte-preserved
loop-byte-preserved c =
    let i = c.loop-byte.byte-index in
    record {
      value = value_more c.args.digits.now i c.loop-byte.value c.from-digit.result c.loop-byte-test.true (c.requires i 0 c.loop-byte-test.true) c.loop-byte.invariant.value c.from-digit.ensures;
      in_range = let bounds = digit_bounds (get_or c.args.digits.now i 0) (c.requires i 0 c.loop-byte-test.true) in omega arith;
    }
