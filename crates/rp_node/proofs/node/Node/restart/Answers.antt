use Rattle.rp_node.proofs.Nodes.{all_bounded}
use Rattle.rp_node.proofs.node.Node.restart.Goals as goal

pub returns-in-Ok-clause-bounded : goal.returns-in-Ok-clause-bounded
returns-in-Ok-clause-bounded c = all_bounded c.law_left.ensures.bounded c.args.query c.in-Ok.partitions.entries c.in-Ok.ensures.ok.1
