use Rattle.std.proofs.Common.{◌∙◌, map}
use Rattle.rp_resolution.specs.Context.{is_name}
use Rattle.rp_resolution.proofs.Each.{among_seen}
use Rattle.rp_tree.specs.Clauses.{union_tree}
use Rattle.rp_resolution.proofs.lists.is_union.Goals as goal

pub returns : goal.returns
returns c =
    let name = c.args.name.now in
    c.has_union.ensures ∙ (among_seen union_tree (λ t. is_name name (t.name.text)) c.args.unions.now ∙ among_seen (λ n. n.name.text) (λ other. is_name name other) (map union_tree c.args.unions.now))
