use Rattle.std.proofs.Common.{◌∙◌, map}
use Rattle.rp_resolution.specs.Context.{is_name}
use Rattle.rp_resolution.proofs.Each.{among_seen}
use Rattle.rp_tree.specs.Clauses.{definition_tree}
use Rattle.rp_resolution.proofs.lists.is_defined.Goals as goal

pub returns : goal.returns
returns c =
    let name = c.args.name.now in
    c.has_definition.ensures ∙ (among_seen definition_tree (λ t. is_name name (t.name.text)) c.args.definitions.now ∙ among_seen (λ n. n.name.text) (λ other. is_name name other) (map definition_tree c.args.definitions.now))
