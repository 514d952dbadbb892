use Rattle.std.proofs.Common.{rules}
use Rattle.rp_json.proofs.Parsed.{digits_utf8}
use Rattle.rp_json.proofs.digits.short_digits_of.Goals as goal

pub returns-in_default : goal.returns-in_default
returns-in_default c = rw (digits_utf8 c.args.text.now c.in_default.ensures.cases.0) (search rules)
