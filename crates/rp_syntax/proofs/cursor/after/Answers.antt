use Rattle.std.proofs.Common.{rules, refl}
use Rattle.rp_syntax.proofs.cursor.after.Goals as goal

pub returns-in-Some : goal.returns-in-Some
returns-in-Some c = record {
  token = c.in-Some.first.now;
  kind = rw (← c.if-eq.ensures) refl;
  tokens_are = c.in-Some.ensures.cases.0;
  means = search rules;
}
