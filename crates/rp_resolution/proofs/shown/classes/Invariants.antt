use Rattle.std.proofs.Common.{◌≡◌, map, take}
use Rattle.rp_value.specs.declared.value.Value.TheVariants as value
use Rattle.rp_resolution.proofs.shown.classes.Given as goal

abbrev pub invariant-loop-name : goal.invariant-loop-name
invariant-loop-name l = l.classes.items ≡ map value.Text (take l.name-index l.variables)
