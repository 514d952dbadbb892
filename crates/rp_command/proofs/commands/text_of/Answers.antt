use Rattle.std.proofs.Common.{refl}
use Rattle.rp_command.specs.Commands.{check_app, node_app, source_app, trace_app, whole_app, why_app}
use Rattle.rp_command.proofs.commands.text_of.Goals as goal

pub returns-in-Trace : goal.returns-in-Trace
unfolding trace_app
returns-in-Trace c = rw c.in-Trace.is refl

pub returns-in-Whole : goal.returns-in-Whole
unfolding whole_app
returns-in-Whole c = rw c.in-Whole.is refl

pub returns-in-Node : goal.returns-in-Node
unfolding node_app
returns-in-Node c = rw c.in-Node.is refl

pub returns-in-Source : goal.returns-in-Source
unfolding source_app
returns-in-Source c = rw c.in-Source.is refl

pub returns-in-Check : goal.returns-in-Check
unfolding check_app
returns-in-Check c = rw c.in-Check.is refl

pub returns-in-Why : goal.returns-in-Why
unfolding why_app
returns-in-Why c = rw c.in-Why.is refl
