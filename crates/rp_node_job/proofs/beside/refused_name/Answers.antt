use Rattle.std.proofs.Common.{rules, string_bytes}
use Rattle.rp_node_job.proofs.Ends.{later_beside}
use Rattle.rp_node_job.proofs.beside.refused_name.Goals as goal

pub returns-clause-beside : goal.returns-clause-beside
returns-clause-beside c = later_beside c.args.path.now (string_bytes c.push_str-3.new.self) c.args.number (search rules) (search rules)
