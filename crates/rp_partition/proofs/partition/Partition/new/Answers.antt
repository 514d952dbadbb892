use Rattle.rp_partition.specs.PartRows.{known_by}
use Rattle.rp_partition.proofs.partition.Partition.new.Goals as goal

pub returns-clause-entered : goal.returns-clause-entered
returns-clause-entered c = λ q. c.new-walker.ensures.entered

pub returns-clause-no_search : goal.returns-clause-no_search
returns-clause-no_search c = λ q. c.new-walker.ensures.no_search q (known_by c.new-feed.result)
