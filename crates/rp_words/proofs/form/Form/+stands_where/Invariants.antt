use Rattle.std.proofs.Common.{◌≡◌, drop, map, false}
use Rattle.rp_words.specs.Variables.{all_true}
use Rattle.rp_words.specs.Leading.{stands_where}
use Rattle.rp_words.proofs.form.Form.+stands_where.Given as goal

abbrev pub invariant-loop-part : goal.invariant-loop-part
invariant-loop-part l = all_true (map (λ p. stands_where l.variable p.value false) (drop l.part-index l.part-items)) ≡ stands_where l.variable l.self l.may
