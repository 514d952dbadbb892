use Rattle.std.proofs.Common.{◌≡◌, map, take}
use Rattle.rp_words.specs.declared.form.Form.TheVariants.{Variable}
use Rattle.rp_program.proofs.sets.variables.Given as goal

abbrev pub invariant-loop-part : goal.invariant-loop-part
invariant-loop-part l = map Variable l.vars.items ≡ map (λ p. p.value) (take l.part-index l.parts)
