use Rattle.rp_table.proofs.Written.{reads_back}
use Rattle.rp_table.proofs.laws.law_reads_back.Goals as goal

pub returns : goal.returns
returns c = reads_back
