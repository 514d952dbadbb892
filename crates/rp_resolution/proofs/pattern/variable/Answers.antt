use Rattle.std.proofs.Common.{rules, refl}
use Rattle.rp_resolution.proofs.Telling.{telling}
use Rattle.rp_resolution.proofs.Parts.{reads_old, reads_new}
use Rattle.rp_resolution.proofs.pattern.variable.Goals as goal

pub returns-then-number-len : goal.returns-then-number-len
returns-then-number-len c = (refl, reads_old c.args.names.now.items c.args.name.now c.number_of-number.result (search rules) (search rules))

pub returns-in_err-text : goal.returns-in_err-text
returns-in_err-text c = search (rules, telling)

pub returns-in_err-push : goal.returns-in_err-push
returns-in_err-push c = search (rules, telling)

pub returns : goal.returns
returns c = (refl, reads_new c.args.names.now.items c.args.name.now c.number_of-number.result c.push.new.self.items (search rules) (search rules) (search rules))
