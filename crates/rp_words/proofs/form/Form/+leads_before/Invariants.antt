use Rattle.std.proofs.Common.{◌≡◌, drop, map, true}
use Rattle.rp_words.specs.Variables.{all_true}
use Rattle.rp_words.specs.Leading.{leads_before}
use Rattle.rp_words.proofs.form.Form.+leads_before.Given as goal

abbrev pub invariant-loop-part : goal.invariant-loop-part
invariant-loop-part l = all_true (map (λ p. leads_before l.variable p.value true) (drop l.part-index l.part-items)) ≡ leads_before l.variable l.self l.rest
