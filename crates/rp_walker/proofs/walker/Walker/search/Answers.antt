use Rattle.std.proofs.Common.{◌≡◌, sym, ap, ◌∙◌, subst, arith}
use Rattle.rp_search.specs.declared.search.Outcome.TheVariants.{Paused, Waits}
use Rattle.rp_search.specs.Search.{turns_of_run}
use Rattle.rp_known.specs.Known.{known_in}
use Rattle.rp_walker.specs.Runs.{CameTo, Ran}
use Rattle.rp_walker.proofs.Begins.{searches_on, search_waits}
use Rattle.rp_walker.specs.Bound.{RunSpends}
use Rattle.rp_walker.proofs.Working.{search_spends, match_begins, no_match_begins}
use Rattle.rp_walker.proofs.walker.Walker.search.Goals as goal

pub returns-in-Paused-clause-keeps : goal.returns-in-Paused-clause-keeps
returns-in-Paused-clause-keeps g c =
    let w = c.args.self.now in
    let ran = c.in_ok-outcome.ensures.ran in
    let taken : c.turns_taken-taken.result ≡ turns_of_run c.in_ok-outcome.run'.search.value = c.turns_taken-taken.ensures ∙ ap turns_of_run c.deref.ensures in
    searches_on c.args.query.now (known_in g.R.Rows.known g.R.Rows.ending c.args.rows.now) w c.args.run c.in_ok-outcome.run' c.turns_taken-taken.result c.requires.going ran.searches
    (omega (arith, taken, ran.paused c.in-Paused.is))

pub returns-in-Waits-clause-keeps : goal.returns-in-Waits-clause-keeps
returns-in-Waits-clause-keeps g c =
    let w = c.args.self.now in
    let q = c.args.query.now in
    let p = known_in g.R.Rows.known g.R.Rows.ending c.args.rows.now in
    let ran = subst (λ o. Ran q p w.state.at c.args.run c.in_ok-outcome.run' o) c.in-Waits.is c.in_ok-outcome.ensures.ran in
    search_waits q p w c.args.run c.in_ok-outcome.run' c.turns_taken-taken.result c.requires.going ran.searches ran.came ran.left

pub returns-in-Match-clause-keeps : goal.returns-in-Match-clause-keeps
returns-in-Match-clause-keeps g c =
    let taken : c.turns_taken-taken.result ≡ turns_of_run c.in_ok-outcome.run'.search.value = c.turns_taken-taken.ensures ∙ ap turns_of_run c.deref.ensures in
    c.begin_giving.ensures.keeps c.args.run c.turns_taken-taken.result (omega (arith, taken, c.in_ok-outcome.ensures.ran.falls))

pub returns-in-NoMatch-clause-keeps : goal.returns-in-NoMatch-clause-keeps
returns-in-NoMatch-clause-keeps g c =
    let taken : c.turns_taken-taken.result ≡ turns_of_run c.in_ok-outcome.run'.search.value = c.turns_taken-taken.ensures ∙ ap turns_of_run c.deref.ensures in
    c.begin_giving-in-NoMatch.ensures.keeps c.args.run c.turns_taken-taken.result (omega (arith, taken, c.in_ok-outcome.ensures.ran.falls))

pub returns-in-Paused-clause-works : goal.returns-in-Paused-clause-works
returns-in-Paused-clause-works g c =
    let w = c.args.self.now in
    let q = c.args.query.now in
    let p = known_in g.R.Rows.known g.R.Rows.ending c.args.rows.now in
    let run = c.in_ok-outcome.run' in
    let taken : c.turns_taken-taken.result ≡ turns_of_run run.search.value = c.turns_taken-taken.ensures ∙ ap turns_of_run c.deref.ensures in
    let same = c.in_ok-outcome.ensures.ran.searches.begins ∙ sym c.requires.searches.begins in
    let spends = subst (λ o. RunSpends q p c.args.run run o) c.in-Paused.is c.in_ok-outcome.ensures.works in
    search_spends q p w.state c.args.run run Paused c.turns_taken-taken.result c.requires.going.going taken same spends

pub returns-in-Waits-clause-works : goal.returns-in-Waits-clause-works
returns-in-Waits-clause-works g c =
    let w = c.args.self.now in
    let q = c.args.query.now in
    let p = known_in g.R.Rows.known g.R.Rows.ending c.args.rows.now in
    let run = c.in_ok-outcome.run' in
    let taken : c.turns_taken-taken.result ≡ turns_of_run run.search.value = c.turns_taken-taken.ensures ∙ ap turns_of_run c.deref.ensures in
    let same = c.in_ok-outcome.ensures.ran.searches.begins ∙ sym c.requires.searches.begins in
    let spends = subst (λ o. RunSpends q p c.args.run run o) c.in-Waits.is c.in_ok-outcome.ensures.works in
    search_spends q p w.state c.args.run run Waits c.turns_taken-taken.result c.requires.going.going taken same spends

pub returns-in-Match-clause-works : goal.returns-in-Match-clause-works
returns-in-Match-clause-works g c =
    let w = c.args.self.now in
    let q = c.args.query.now in
    let p = known_in g.R.Rows.known g.R.Rows.ending c.args.rows.now in
    let run = c.in_ok-outcome.run' in
    let taken : c.turns_taken-taken.result ≡ turns_of_run run.search.value = c.turns_taken-taken.ensures ∙ ap turns_of_run c.deref.ensures in
    let same = c.in_ok-outcome.ensures.ran.searches.begins ∙ sym c.requires.searches.begins in
    let spends = subst (λ o. RunSpends q p c.args.run run o) c.in-Match.is c.in_ok-outcome.ensures.works in
    match_begins q p w c.begin_giving.new.self c.args.run run c.turns_taken-taken.result c.begin_giving.result c.requires.going.going taken same c.begin_giving.ensures.went spends c.begin_giving.ensures.gives

pub returns-in-NoMatch-clause-works : goal.returns-in-NoMatch-clause-works
returns-in-NoMatch-clause-works g c =
    let w = c.args.self.now in
    let q = c.args.query.now in
    let p = known_in g.R.Rows.known g.R.Rows.ending c.args.rows.now in
    let run = c.in_ok-outcome.run' in
    let taken : c.turns_taken-taken.result ≡ turns_of_run run.search.value = c.turns_taken-taken.ensures ∙ ap turns_of_run c.deref.ensures in
    let same = c.in_ok-outcome.ensures.ran.searches.begins ∙ sym c.requires.searches.begins in
    let spends = subst (λ o. RunSpends q p c.args.run run o) c.in-NoMatch.is c.in_ok-outcome.ensures.works in
    no_match_begins q p w c.begin_giving-in-NoMatch.new.self c.args.run run c.turns_taken-taken.result c.begin_giving-in-NoMatch.result c.requires.going.going taken same c.begin_giving-in-NoMatch.ensures.went spends c.begin_giving-in-NoMatch.ensures.gives

pub run_on-requires-clause-searches : goal.run_on-requires-clause-searches
run_on-requires-clause-searches g c = c.requires.searches

pub begin_giving-requires-clause-going : goal.begin_giving-requires-clause-going
begin_giving-requires-clause-going g c = c.requires.going

pub begin_giving-requires-clause-known : goal.begin_giving-requires-clause-known
begin_giving-requires-clause-known g c = c.requires.searches.known

pub begin_giving-requires-clause-found : goal.begin_giving-requires-clause-found
begin_giving-requires-clause-found g c =
    let p = known_in g.R.Rows.known g.R.Rows.ending c.args.rows.now in
    subst (CameTo c.args.query.now p c.args.self.now.state.at c.in_ok-outcome.run') c.in-Match.is c.in_ok-outcome.ensures.ran.came

pub begin_giving-requires-clause-totals : goal.begin_giving-requires-clause-totals
begin_giving-requires-clause-totals g c = c.in_ok-outcome.ensures.ran.searches.totalled

pub begin_giving-requires-clause-serves : goal.begin_giving-requires-clause-serves
begin_giving-requires-clause-serves g c =
    let searches = c.in_ok-outcome.ensures.ran.searches in
    record { begins = searches.begins; pattern = searches.pattern; fits = searches.fits; plan = searches.totalled.plan }

pub begin_giving-requires-in-NoMatch-clause-going : goal.begin_giving-requires-in-NoMatch-clause-going
begin_giving-requires-in-NoMatch-clause-going g c = c.requires.going

pub begin_giving-requires-in-NoMatch-clause-known : goal.begin_giving-requires-in-NoMatch-clause-known
begin_giving-requires-in-NoMatch-clause-known g c = c.requires.searches.known

pub begin_giving-requires-in-NoMatch-clause-found : goal.begin_giving-requires-in-NoMatch-clause-found
begin_giving-requires-in-NoMatch-clause-found g c =
    let p = known_in g.R.Rows.known g.R.Rows.ending c.args.rows.now in
    subst (CameTo c.args.query.now p c.args.self.now.state.at c.in_ok-outcome.run') c.in-NoMatch.is c.in_ok-outcome.ensures.ran.came

pub begin_giving-requires-in-NoMatch-clause-serves : goal.begin_giving-requires-in-NoMatch-clause-serves
begin_giving-requires-in-NoMatch-clause-serves g c =
    let searches = c.in_ok-outcome.ensures.ran.searches in
    record { begins = searches.begins; pattern = searches.pattern; fits = searches.fits; plan = searches.totalled.plan }

pub returns-in-Paused-clause-taken : goal.returns-in-Paused-clause-taken
returns-in-Paused-clause-taken g c =
    let ensures = c.in_ok-outcome.ensures in
    let taken : c.turns_taken-taken.result ≡ turns_of_run c.in_ok-outcome.run'.search.value = c.turns_taken-taken.ensures ∙ ap turns_of_run c.deref.ensures in
    (omega (arith, taken, ensures.taken, ensures.some), omega (arith, taken, ensures.taken))

pub returns-in-Paused-clause-turns : goal.returns-in-Paused-clause-turns
returns-in-Paused-clause-turns g c = c.run_on.ensures.turns

pub returns-in-Waits-clause-taken : goal.returns-in-Waits-clause-taken
returns-in-Waits-clause-taken g c =
    let ensures = c.in_ok-outcome.ensures in
    let taken : c.turns_taken-taken.result ≡ turns_of_run c.in_ok-outcome.run'.search.value = c.turns_taken-taken.ensures ∙ ap turns_of_run c.deref.ensures in
    (omega (arith, taken, ensures.taken, ensures.some), omega (arith, taken, ensures.taken))

pub returns-in-Waits-clause-turns : goal.returns-in-Waits-clause-turns
returns-in-Waits-clause-turns g c = c.run_on.ensures.turns

pub returns-in-Match-clause-taken : goal.returns-in-Match-clause-taken
returns-in-Match-clause-taken g c =
    let ensures = c.in_ok-outcome.ensures in
    let taken : c.turns_taken-taken.result ≡ turns_of_run c.in_ok-outcome.run'.search.value = c.turns_taken-taken.ensures ∙ ap turns_of_run c.deref.ensures in
    (omega (arith, taken, ensures.taken, ensures.some), omega (arith, taken, ensures.taken))

pub returns-in-Match-clause-turns : goal.returns-in-Match-clause-turns
returns-in-Match-clause-turns g c = c.run_on.ensures.turns

pub returns-in-NoMatch-clause-taken : goal.returns-in-NoMatch-clause-taken
returns-in-NoMatch-clause-taken g c =
    let ensures = c.in_ok-outcome.ensures in
    let taken : c.turns_taken-taken.result ≡ turns_of_run c.in_ok-outcome.run'.search.value = c.turns_taken-taken.ensures ∙ ap turns_of_run c.deref.ensures in
    (omega (arith, taken, ensures.taken, ensures.some), omega (arith, taken, ensures.taken))

pub returns-in-NoMatch-clause-turns : goal.returns-in-NoMatch-clause-turns
returns-in-NoMatch-clause-turns g c = c.run_on.ensures.turns
