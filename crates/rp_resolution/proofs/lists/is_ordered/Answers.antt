use Rattle.std.proofs.Common.{◌∙◌, map}
use Rattle.rp_resolution.specs.Context.{is_name}
use Rattle.rp_resolution.proofs.Each.{among_seen}
use Rattle.rp_resolution.proofs.lists.is_ordered.Goals as goal

pub returns : goal.returns
returns c =
    let name = c.args.name.now in
    c.has_order.ensures ∙ (among_seen (λ o. o.name) (λ t. is_name name (t.text)) c.args.order.now ∙ among_seen (λ n. n.text) (λ other. is_name name other) (map (λ o. o.name) c.args.order.now))
