use Rattle.std.proofs.Common.{◌∙◌}
use Rattle.rp_resolution.proofs.Permuting.{permuted_shape, permuted_allowed}
use Rattle.rp_resolution.proofs.pattern.in_any_order.Goals as goal

pub returns-clause-shape : goal.returns-clause-shape
returns-clause-shape c = permuted_shape c.in_ok-owners.owners c.args.parts.items (c.in_ok-owners.ensures ∙ c.in_ok-some.ensures)

pub returns-clause-allowed : goal.returns-clause-allowed
returns-clause-allowed c = λ holds. permuted_allowed c.in_ok-owners.owners c.args.parts.items (c.in_ok-owners.ensures ∙ c.in_ok-some.ensures) c.requires holds
