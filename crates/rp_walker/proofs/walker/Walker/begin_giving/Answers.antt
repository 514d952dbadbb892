use Rattle.std.proofs.Common.{◌≡◌, sym, ap, ◌∙◌, subst, arith}
use Rattle.rp_known.specs.declared.place.Place.{Place}
use Rattle.rp_known.specs.Known.{known_in, count}
use Rattle.rp_known.specs.Walk.{found_at}
use Rattle.rp_known.specs.WalkLaws.{AreKnown}
use Rattle.rp_walker.specs.Given.{result_of}
use Rattle.rp_walker.specs.Stages.{Gives}
use Rattle.rp_walker.proofs.Begins.{gives_first, begins_giving}
use Rattle.rp_walker.proofs.Working.{begins_giving_rows}
use Rattle.rp_walker.proofs.walker.Walker.begin_giving.Goals as goal

pub ahead_of-ahead-requires-clause-in_rows : goal.ahead_of-ahead-requires-clause-in_rows
ahead_of-ahead-requires-clause-in_rows g c =
    let q = c.args.query.now in
    let p = known_in g.R.Rows.known g.R.Rows.ending c.args.rows.now in
    let r = c.args.self.now.state in
    let known : AreKnown r.at (count p) (result_of c.args.found) = subst (AreKnown r.at (count p)) c.requires.found (c.law_legs.ensures.known q p r.at c.requires.known) in
    subst (λ (place : Place). AreKnown place.start c.last.result (result_of c.args.found)) (sym c.place_of-place.ensures) (subst (λ n. AreKnown r.at n (result_of c.args.found)) (sym c.last.ensures) known)

pub returns-clause-keeps : goal.returns-clause-keeps
returns-clause-keeps g c = λ run taken few.
    let q = c.args.query.now in
    let p = known_in g.R.Rows.known g.R.Rows.ending c.args.rows.now in
    let w = c.args.self.now in
    let known : AreKnown w.state.at (count p) (result_of c.args.found) = subst (AreKnown w.state.at (count p)) c.requires.found (c.law_legs.ensures.known q p w.state.at c.requires.known) in
    let a = c.ahead_of-ahead.result in
    let e = c.ahead_of-ahead.ensures in
    let here = c.place_of-place.ensures in
    let start : c.place_of-place.result.start ≡ w.state.at = ap (λ (x : Place). x.start) here in
    let found = ap (found_at q p) start ∙ c.requires.found in
    let in_rows : AreKnown c.place_of-place.result.start (count p) (result_of c.args.found) = subst (λ i. AreKnown i (count p) (result_of c.args.found)) (sym start) known in
    begins_giving q p w c.args.found a run taken few c.requires.going
    (subst (λ (x : Place). Gives q p x (result_of c.args.found) a) here
    (gives_first q p c.place_of-place.result (result_of c.args.found) a (omega (arith, start, c.requires.known)) found in_rows e.seen e.low e.ordered (omega (arith, e.high, c.last.ensures)) e.rows))
    e.seen c.requires.totals c.requires.serves

pub returns-clause-gives : goal.returns-clause-gives
returns-clause-gives g c =
    let p = known_in g.R.Rows.known g.R.Rows.ending c.args.rows.now in
    let w = c.args.self.now in
    let e = c.ahead_of-ahead.ensures in
    let start : c.place_of-place.result.start ≡ w.state.at = ap (λ (x : Place). x.start) c.place_of-place.ensures in
    begins_giving_rows p c.args.found w c.ahead_of-ahead.result (omega (arith, start, e.low)) (omega (arith, e.high, c.last.ensures)) e.short
