use Rattle.std.proofs.Common.{◌∙◌, ap, inl, inr, map, rules, string_bytes, subst, sym}
use Rattle.std.proofs.lemmas.Result.{IfOk-weaker}
use Rattle.rp_command.specs.Commands.{faults_by, rows_by}
use Rattle.rp_command.specs.Jobs.{HasNoSuchWord, HasValues, app_by}
use Rattle.rp_command.proofs.reading.read_job.Goals as goal

pub returns-clause-named : goal.returns-clause-named
returns-clause-named c = IfOk-weaker c.job_found.result _ _ (λ job is. is.0) c.job_found.ensures.value

pub returns-clause-value : goal.returns-clause-value
returns-clause-value c =
    let words = map string_bytes c.args.words.now in
    IfOk-weaker c.job_found.result _ _
    (λ job is. subst (λ rows. HasValues rows job) (c.in_ok-matches.ensures.rows ∙ ap (λ command. rows_by (app_by command) words) (sym is.0)) is.1)
    c.job_found.ensures.value

pub returns-clause-taken : goal.returns-clause-taken
returns-clause-taken c =
    let words = map string_bytes c.args.words.now in
    IfOk-weaker c.job_found.result _ _
    (λ job is. ap (λ command. faults_by (app_by command) words) is.0 ∙ c.in_ok-matches.ensures.faultless)
    c.job_found.ensures.value

pub returns-clause-cause : goal.returns-clause-cause
returns-clause-cause c = λ error is.
    let fault = c.job_found.ensures.other error is in
    inr (fault.0, subst (HasNoSuchWord c.args.command) c.in_ok-matches.ensures.rows fault.1)

pub returns-clause-line : goal.returns-clause-line
returns-clause-line c = λ error is understood.
    let fault = c.job_found.ensures.other error is in
    understood.1 (subst (HasNoSuchWord c.args.command) c.in_ok-matches.ensures.rows fault.1)

pub returns-in_err-matches-clause-cause : goal.returns-in_err-matches-clause-cause
returns-in_err-matches-clause-cause c = λ error is. inl (c.in_err-matches.ensures.cause error (search rules))
