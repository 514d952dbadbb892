use Rattle.std.proofs.Common.{arith}
use Rattle.rp_known.specs.Known.{known_in}
use Rattle.rp_walker.specs.declared.stage.Stage.TheVariants.{Begin, Searching}
use Rattle.rp_walker.specs.Bound.{StepSpends, last_step}
use Rattle.rp_walker.specs.Walking.{KeepsGoing}
use Rattle.rp_walker.proofs.Begins.{from_more, search_begins, if_ok_map}
use Rattle.rp_walker.proofs.Working.{begin_spends}
use Rattle.rp_walker.proofs.walker.Walker.begin_row.Goals as goal

pub returns-clause-keeps : goal.returns-clause-keeps
returns-clause-keeps g c =
    let w = c.args.self.now in
    let q = c.args.query.now in
    let p = known_in g.R.Rows.known g.R.Rows.ending c.args.rows.now in
    let run = c.in_ok-run.run' in
    if_ok_map (λ r. KeepsGoing r.1 q p w.state (Searching run) c.search.new.self r.0) (λ r. KeepsGoing r.1 q p w.state (Begin c.args.spare) c.search.new.self r.0) c.search.result
    (λ r k. from_more r.1 q p w.state c.search.new.self (Searching run) (Begin c.args.spare) r.0 (search_begins c.law_search.ensures.bounded q p w.state run c.args.spare c.requires.going c.in_ok-run.ensures.searches) k) c.search.ensures.keeps

pub returns-clause-works : goal.returns-clause-works
returns-clause-works g c =
    let w = c.args.self.now in
    let q = c.args.query.now in
    let p = known_in g.R.Rows.known g.R.Rows.ending c.args.rows.now in
    let run = c.in_ok-run.run' in
    let new = c.search.new.self in
    if_ok_map (λ r. StepSpends r.1 q p w.state (Searching run) new r.0) (λ r. StepSpends r.1 q p w.state (Begin c.args.spare) new r.0) c.search.result
    (λ r s. begin_spends r.1 (last_step r.0) q p w.state c.args.spare run new.state new.stage c.requires.going.going c.in_ok-run.ensures.searches.begins c.in_ok-run.ensures.works s) c.search.ensures.works

pub search-requires-clause-going : goal.search-requires-clause-going
search-requires-clause-going g c = c.requires.going

pub search-requires-clause-searches : goal.search-requires-clause-searches
search-requires-clause-searches g c = c.in_ok-run.ensures.searches

pub returns-clause-kept : goal.returns-clause-kept
returns-clause-kept g c = c.search.ensures.kept

pub returns-clause-taken : goal.returns-clause-taken
returns-clause-taken g c = c.search.ensures.taken

pub returns-clause-turns : goal.returns-clause-turns
returns-clause-turns g c = c.search.ensures.turns

pub begin-requires-clause-one : goal.begin-requires-clause-one
begin-requires-clause-one g c = c.requires.going.from_one

pub begin-requires-clause-spare : goal.begin-requires-clause-spare
begin-requires-clause-spare g c = c.requires.spare

pub returns-then-last-self-clause-keeps : goal.returns-then-last-self-clause-keeps
returns-then-last-self-clause-keeps g c = c.at_last.ensures.keeps

pub returns-then-last-self-clause-works : goal.returns-then-last-self-clause-works
returns-then-last-self-clause-works g c = c.at_last.ensures.works

pub returns-then-last-self-clause-turns : goal.returns-then-last-self-clause-turns
returns-then-last-self-clause-turns g c = (omega (arith, c.requires.some, c.tick.ensures), omega (arith, c.tick.ensures), omega arith)

pub at_last-requires-clause-stands : goal.at_last-requires-clause-stands
at_last-requires-clause-stands g c = c.requires.spare

pub at_last-requires-clause-going : goal.at_last-requires-clause-going
at_last-requires-clause-going g c = c.requires.going
