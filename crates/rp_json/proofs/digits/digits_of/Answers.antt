use Rattle.std.proofs.Common.{refl, rules}
use Rattle.rp_json.proofs.Parsed.{digits_parsed}
use Rattle.rp_json.proofs.digits.digits_of.Goals as goal

pub returns-in_default : goal.returns-in_default
returns-in_default c = rw (digits_parsed c.args.text.now c.parse.result c.parse.ensures.value.0, c.in_default.is) (search rules)

pub returns-then-eq : goal.returns-then-eq
returns-then-eq c = rw (digits_parsed c.args.text.now c.parse.result c.parse.ensures.value.0, c.in-Ok.is) (rw (← c.format.ensures.text, ← c.eq.ensures, c.if-eq.true) refl)

pub returns-else-eq : goal.returns-else-eq
returns-else-eq c = rw (digits_parsed c.args.text.now c.parse.result c.parse.ensures.value.0, c.in-Ok.is) (rw (← c.format.ensures.text, ← c.eq.ensures, c.if-eq.false) refl)
