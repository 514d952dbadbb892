use Rattle.std.proofs.Common.{◌∙◌}
use Rattle.rp_resolution.specs.Context.{is_name}
use Rattle.rp_resolution.proofs.Each.{among_seen}
use Rattle.rp_resolution.proofs.lists.is_column.Goals as goal

pub returns : goal.returns
returns c = c.has_column.ensures ∙ among_seen (λ n. n.name) (λ other. is_name c.args.name.now other) c.args.columns.now
