use Rattle.std.proofs.Common.{◌∙◌, map}
use Rattle.rp_resolution.specs.Context.{is_name}
use Rattle.rp_resolution.proofs.Each.{among_seen}
use Rattle.rp_tree.specs.Clauses.{measure_tree}
use Rattle.rp_resolution.proofs.lists.is_measure.Goals as goal

pub returns : goal.returns
returns c =
    let name = c.args.name.now in
    c.has_measure.ensures ∙ (among_seen measure_tree (λ t. is_name name (t.name.text)) c.args.measures.now ∙ among_seen (λ n. n.name.text) (λ other. is_name name other) (map measure_tree c.args.measures.now))
