use Rattle.std.proofs.Common.{rules}
use Rattle.rp_trace.proofs.ReadForms.{form_one_sequence, form_one_factor, form_one_primary, form_letter, form_group, stop_factor, stop_second_factor, stop_unclosed}
use Rattle.rp_trace.proofs.grammar.+grammar.Goals as goal

pub alternatives-returns-in-None-clause-read : goal.alternatives-returns-in-None-clause-read
alternatives-returns-in-None-clause-read t c =
    form_one_sequence c.args.symbols.now c.in_ok-first.rest.now c.in_ok-first.first c.in_ok-first.ensures.read c.in-None.ensures.none

pub factor-returns-in-None-clause-read : goal.factor-returns-in-None-clause-read
factor-returns-in-None-clause-read t c =
    form_one_primary c.args.symbols.now c.in_ok-body.rest.now c.in_ok-body.body c.in_ok-body.ensures.read c.in-None.ensures.none

pub primary-returns-in-Some-clause-read : goal.primary-returns-in-Some-clause-read
primary-returns-in-Some-clause-read t c =
    form_letter c.args.symbols.now c.in-Some.rest.now c.in-Some.var c.in-Some.ensures.some c.in-Some.ensures.range

pub primary-returns-in-Some-after_mark-3-clause-read : goal.primary-returns-in-Some-after_mark-3-clause-read
primary-returns-in-Some-after_mark-3-clause-read t c =
    form_group c.args.symbols.now c.in-Some-after_mark.inner.now c.in_ok-form.rest.now c.in-Some-after_mark-3.rest.now c.in_ok-form.form
    c.in-Some-after_mark.ensures.some (search rules) c.in_ok-form.ensures.read c.in-Some-after_mark-3.ensures.some

pub primary-returns-in-None-clause-stop : goal.primary-returns-in-None-clause-stop
primary-returns-in-None-clause-stop t c = λ left is.
    stop_unclosed c.args.symbols.now c.in-Some-after_mark.inner.now c.in_ok-form.rest.now c.in_ok-form.form left (search rules)
    c.in-Some-after_mark.ensures.some (search rules) c.in_ok-form.ensures.read c.in-None.ensures.none

pub sequence-returns-in_err-first-clause-stop : goal.sequence-returns-in_err-first-clause-stop
sequence-returns-in_err-first-clause-stop t c = λ left is. stop_factor c.args.symbols.now left (c.in_err-first.ensures.stop left (search rules))

pub sequence-returns-then-not-begins_primary-clause-read : goal.sequence-returns-then-not-begins_primary-clause-read
sequence-returns-then-not-begins_primary-clause-read t c =
    form_one_factor c.args.symbols.now c.in_ok-first.rest.now c.in_ok-first.first c.in_ok-first.ensures.read (search rules)

pub sequence-returns-in_err-second-clause-stop : goal.sequence-returns-in_err-second-clause-stop
sequence-returns-in_err-second-clause-stop t c = λ left is.
    stop_second_factor c.args.symbols.now c.in_ok-first.rest.now c.in_ok-first.first left c.in_ok-first.ensures.read (search rules)
    (c.in_err-second.ensures.stop left (search rules))
