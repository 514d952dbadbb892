use Rattle.rp_command.proofs.reading.job_found.Goals as goal

pub trace_found-requires : goal.trace_found-requires
trace_found-requires c = rw c.in-Trace.is at c.requires

pub whole_found-requires : goal.whole_found-requires
whole_found-requires c = rw c.in-Whole.is at c.requires

pub node_found-requires : goal.node_found-requires
node_found-requires c = rw c.in-Node.is at c.requires

pub source_found-requires : goal.source_found-requires
source_found-requires c = rw c.in-Source.is at c.requires

pub check_found-requires : goal.check_found-requires
check_found-requires c = rw c.in-Check.is at c.requires

pub why_found-requires : goal.why_found-requires
why_found-requires c = rw c.in-Why.is at c.requires
