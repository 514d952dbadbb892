use Rattle.rp_whole.proofs.Named.{header_names, header_names_of, objects_name}
use Rattle.rp_whole.proofs.laws.law_header.Goals as goal

pub returns-clause-rows : goal.returns-clause-rows
returns-clause-rows c = header_names c.law_named.ensures.named c.law_named.ensures.typed c.law_reads_back.ensures

pub returns-clause-text : goal.returns-clause-text
returns-clause-text c = header_names_of c.law_named.ensures.named c.law_named.ensures.typed c.law_fitting.ensures c.law_reads_back.ensures

pub returns-clause-objects : goal.returns-clause-objects
returns-clause-objects c = objects_name c.law_named.ensures.named c.law_named.ensures.typed c.law_objects.ensures.read c.law_objects.ensures.found
