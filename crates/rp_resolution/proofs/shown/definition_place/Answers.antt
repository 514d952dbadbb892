use Rattle.std.proofs.Common.{◌∙◌}
use Rattle.rp_tree.specs.Clauses.{definition_tree}
use Rattle.rp_resolution.specs.Context.{is_name}
use Rattle.rp_resolution.proofs.Each.{position_seen}
use Rattle.rp_resolution.proofs.shown.definition_place.Goals as goal

pub returns : goal.returns
returns c = c.place_of_definition.ensures ∙ position_seen definition_tree (λ d. is_name c.args.name.now d.name.text) c.args.definitions.now
