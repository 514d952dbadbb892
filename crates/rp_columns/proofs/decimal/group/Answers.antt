use Rattle.std.proofs.Common.{◌≡◌, ◌≤◌, ◌-◌, true, length, get_or, drop, arith, length-take, length-drop}
use Rattle.std.specs.Char.{is_ascii_digit}
use Rattle.rp_columns.proofs.Numbers.{digit_is, group_is}
use Rattle.rp_columns.proofs.decimal.group.Goals as goal

pub returns-in-48-to-57 : goal.returns-in-48-to-57
returns-in-48-to-57 c =
    let bytes = c.args.bytes.now in
    let long : 4 ≤ length bytes = omega arith in
    let one : is_ascii_digit (get_or bytes 1 0) ≡ true = digit_is (get_or bytes 1 0) (omega arith) (omega arith) in
    let two : is_ascii_digit (get_or bytes 2 0) ≡ true = digit_is (get_or bytes 2 0) (omega arith) (omega arith) in
    let three : is_ascii_digit (get_or bytes 3 0) ≡ true = digit_is (get_or bytes 3 0) (omega arith) (omega arith) in
    record {
      a = get_or bytes 1 0 - 48;
      b = get_or bytes 2 0 - 48;
      c = get_or bytes 3 0 - 48;
      is = group_is c.args.mark bytes long c.if-first-mark.true one two three;
      pushed = λ n h. c.pushed-in-48-to-57-2.ensures _ (c.pushed-in-48-to-57.ensures _ (c.pushed.ensures n h));
      shorter = omega (arith, length-take (length bytes - 4) (drop 4 bytes), length-drop 4 bytes);
    }
