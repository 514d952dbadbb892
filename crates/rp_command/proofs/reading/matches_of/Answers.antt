use Rattle.std.proofs.lemmas.Result.{IfOk-weaker}
use Rattle.rp_command.proofs.Apps.{meets, ruled, simple}
use Rattle.rp_command.proofs.reading.matches_of.Goals as goal

pub matched-requires : goal.matched-requires
matched-requires c = simple c.args.command _ c.in_ok-command.ensures

pub returns-clause-rules : goal.returns-clause-rules
returns-clause-rules c =
    IfOk-weaker c.matched.result _ _ (λ matches parsed. meets c.args.command _ matches c.in_ok-command.ensures parsed) c.matched.ensures.parsed

pub returns-clause-faultless : goal.returns-clause-faultless
returns-clause-faultless c = rw c.in_ok-command.ensures at c.matched.ensures.faultless (ruled c.args.command)

pub returns-clause-cause : goal.returns-clause-cause
returns-clause-cause c = λ error is. rw c.in_ok-command.ensures at c.matched.ensures.cause (ruled c.args.command) error is
