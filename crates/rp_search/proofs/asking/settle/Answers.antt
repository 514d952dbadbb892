use Rattle.std.proofs.Common.{◌≡◌, ◌∙◌, refl, sym, subst}
use Rattle.rp_words.specs.declared.word.Seen.TheVariants.{True, NotTrue}
use Rattle.rp_pattern.specs.Choices.{start_of, entered}
use Rattle.rp_search.specs.Asked.{Asked, AreBelow}
use Rattle.rp_search.proofs.ChoiceSteps.{goes_admitted, goes_refused}
use Rattle.rp_search.proofs.Marks.{told_passes}
use Rattle.rp_search.proofs.TurnEnds.{goes_on, below_front}
use Rattle.rp_search.proofs.Spending.{admitted_sinks, gave_sinks, row_fewer, same_sinks}
use Rattle.rp_search.proofs.asking.settle.Goals as goal

pub returns-in_ok-admit-in-True-clause-settled : goal.returns-in_ok-admit-in-True-clause-settled
returns-in_ok-admit-in-True-clause-settled g c =
    let asked : Asked = g.T.Tests.asked (g.T.Tests.subject c.args.tests.now) in
    let seen : asked.outcome (start_of c.args.choices.now) (entered c.args.choices.now) ≡ True = cc (c.in-True.ensures, c.start.ensures, c.labels.ensures) in
    let taken = c.in_ok-admit-in-True.ensures in
    goes_on c.args.choices.now c.admit.new.self asked taken.whole.start
    (goes_admitted c.args.choices.now c.admit.new.self _ _ _ c.requires.can_ask.stands c.requires.can_ask.row seen taken.whole (record { fall = taken.height; over = taken.above }) taken.labels taken.remaining taken.left)
    (subst (λ ls. AreBelow asked.variables ls) (sym taken.labels) c.requires.can_ask.below)

pub returns-in-NotTrue-clause-settled : goal.returns-in-NotTrue-clause-settled
returns-in-NotTrue-clause-settled g c =
    let asked : Asked = g.T.Tests.asked (g.T.Tests.subject c.args.tests.now) in
    let seen : asked.outcome (start_of c.args.choices.now) (entered c.args.choices.now) ≡ NotTrue = cc (c.in-NotTrue.ensures, c.start.ensures, c.labels.ensures) in
    goes_on c.args.choices.now c.give_up.new.self asked c.give_up.ensures.whole.start
    (goes_refused c.args.choices.now c.give_up.new.self _ _ _ c.requires.can_ask.stands c.requires.can_ask.row seen c.give_up.ensures.whole (record { cut = c.give_up.ensures.labels; cut_off = c.give_up.ensures.cut_off; words = c.give_up.ensures.remaining; turns = c.give_up.ensures.left; fall = c.give_up.ensures.height; over = c.give_up.ensures.rest }))
    (below_front asked.variables (entered c.give_up.new.self) (entered c.args.choices.now) c.give_up.ensures.labels c.requires.can_ask.below)

pub returns-in_ok-admit-in-True-clause-until : goal.returns-in_ok-admit-in-True-clause-until
returns-in_ok-admit-in-True-clause-until g c =
    let taken = c.in_ok-admit-in-True.ensures in
    λ h lt n e later. taken.above h n e lt ∙ sym (c.requires.can_ask.row.divides.over h lt n e later)

pub returns-in-NotTrue-clause-until : goal.returns-in-NotTrue-clause-until
returns-in-NotTrue-clause-until g c =
    let asked : Asked = g.T.Tests.asked (g.T.Tests.subject c.args.tests.now) in
    let gave = c.give_up.ensures in
    λ lt. told_passes asked.pattern c.args.choices.now c.give_up.new.self asked c.lasts.result c.requires.pattern c.requires.can_ask.stands c.requires.can_ask.row
    (record { cut = gave.labels; cut_off = gave.cut_off; words = gave.remaining; turns = gave.left; fall = gave.height; over = gave.rest })
    (c.lasts.ensures.lasts lt)

pub returns-in_ok-admit-in-True-clause-sinks : goal.returns-in_ok-admit-in-True-clause-sinks
returns-in_ok-admit-in-True-clause-sinks g c =
    let taken = c.in_ok-admit-in-True.ensures in
    admitted_sinks c.args.choices.now c.admit.new.self _ _ taken.keeps taken.under taken.left c.requires.can_ask.row.divides

pub returns-in_ok-admit-in-True-clause-costs : goal.returns-in_ok-admit-in-True-clause-costs
returns-in_ok-admit-in-True-clause-costs g c = c.in_ok-admit-in-True.ensures.costs

pub returns-in-NotTrue-clause-sinks : goal.returns-in-NotTrue-clause-sinks
returns-in-NotTrue-clause-sinks g c =
    let gave = c.give_up.ensures in
    gave_sinks c.args.choices.now c.give_up.new.self _ _ gave.keeps gave.under gave.left (row_fewer c.args.choices.now _ _ c.requires.can_ask.row.divides)

pub returns-in-NotTrue-clause-costs : goal.returns-in-NotTrue-clause-costs
returns-in-NotTrue-clause-costs g c = λ numbered. c.give_up.ensures.costs

pub returns-in-Open-clause-sinks : goal.returns-in-Open-clause-sinks
returns-in-Open-clause-sinks g c = same_sinks c.args.choices.now c.args.choices.now _ _ refl
