use Rattle.rp_protocol.proofs.ObjectsFound.{objects_have, objects_read}
use Rattle.rp_protocol.proofs.laws.law_objects.Goals as goal

pub returns-clause-read : goal.returns-clause-read
returns-clause-read c = objects_read

pub returns-clause-found : goal.returns-clause-found
returns-clause-found c = objects_have
