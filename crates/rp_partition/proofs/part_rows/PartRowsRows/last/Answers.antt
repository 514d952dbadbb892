use Rattle.std.proofs.Common.{sym, ◌∙◌}
use Rattle.rp_partition.specs.PartRows.{known_count}
use Rattle.rp_partition.proofs.part_rows.PartRowsRows.last.Goals as goal

pub returns : goal.returns
returns c = c.front.ensures.front ∙ sym (known_count c.args.self.now.feed.now c.args.self.now.least)
