use Rattle.rp_protocol.proofs.RequestLaw.{asked_line_of}
use Rattle.rp_protocol.proofs.compact.compact_request.Goals as goal

pub returns-in-Some : goal.returns-in-Some
returns-in-Some c = asked_line_of c.args.line.now _ c.row_line.result c.in-Ok.ensures.cases.1 c.in-Some.ensures c.row_line.ensures

pub returns-in-Some-after : goal.returns-in-Some-after
returns-in-Some-after c = asked_line_of c.args.line.now _ c.close_line.result c.in-Ok.ensures.cases.1 c.in-Some-after.ensures c.close_line.ensures

pub returns-in-Some-after-2 : goal.returns-in-Some-after-2
returns-in-Some-after-2 c = asked_line_of c.args.line.now _ c.poll_line.result c.in-Ok.ensures.cases.1 c.in-Some-after-2.ensures c.poll_line.ensures
