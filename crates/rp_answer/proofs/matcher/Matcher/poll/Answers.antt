use Rattle.std.proofs.Common.{sym, subst, ◌∙◌}
use Rattle.rp_walker.specs.FitLaws.{AgreesFrom}
use Rattle.rp_walker.specs.Polls.{left_in, PollLowers}
use Rattle.rp_walker.specs.Walking.{record_of}
use Rattle.rp_answer.specs.Matching.{known_by}
use Rattle.rp_answer.proofs.Dropping.{along_dropped, comes_dropped, stays_along, still_agree, on_err_of}
use Rattle.rp_answer.proofs.matcher.Matcher.poll.Goals as goal

pub returns-then-budget-eq0-clause-moves : goal.returns-then-budget-eq0-clause-moves
returns-then-budget-eq0-clause-moves g c = let m = c.args.self.now in stays_along m.query m.known m.state

pub invariant_of-self : goal.invariant_of-self
invariant_of-self g c = record { stands = c.poll.ensures.stands; first = c.poll.ensures.stays.first ∙ c.self.invariant.first }

pub returns-in_err-answer-clause-rows : goal.returns-in_err-answer-clause-rows
returns-in_err-answer-clause-rows g c =
    rw (← c.self.view_is) (λ p are. subst (λ i. AgreesFrom i (known_by c.self.inside.rows) p) (sym c.poll.ensures.stays.first) are)

pub returns-in_err-answer-clause-out_of_memory : goal.returns-in_err-answer-clause-out_of_memory
returns-in_err-answer-clause-out_of_memory g c =
    rw (← c.self.view_is) (on_err_of _ c.from_residual.result c.in_err-answer.ensures.out_of_memory)

pub drop_rows-requires : goal.drop_rows-requires
drop_rows-requires g c = record { stands = c.poll.ensures.stands; first = c.poll.ensures.stays.first ∙ c.self.invariant.first }

pub returns-clause-answers : goal.returns-clause-answers
returns-clause-answers g c =
    let m = c.self.inside in
    let q = m.query in
    let n = c.drop_rows.new.rows in
    let w = c.drop_rows.new.walker in
    let e = c.drop_rows.ensures in
    let a = c.in_ok-answer.ensures in
    rw (← c.self.view_is) (comes_dropped q (known_by m.rows) (record_of m.walker) (record_of c.poll.new.self) (record_of w) n.first e.«record» (c.law_walkers.ensures.can q (known_by n) w e.ready.stands) c.in_ok-answer.answer
    (record { answers = a.answers; given = a.given; stops = a.stops }))

pub returns-clause-moves : goal.returns-clause-moves
returns-clause-moves g c =
    let m = c.self.inside in
    let q = m.query in
    let n = c.drop_rows.new.rows in
    let w = c.drop_rows.new.walker in
    let e = c.drop_rows.ensures in
    rw (← c.self.view_is) (along_dropped q (known_by m.rows) (record_of m.walker) (record_of c.poll.new.self) (record_of w) n.first e.«record» (c.law_walkers.ensures.can q (known_by n) w e.ready.stands) c.poll.ensures.moves)

pub returns-clause-rows : goal.returns-clause-rows
returns-clause-rows g c =
    let m = c.self.inside in
    let e = c.drop_rows.ensures in
    rw (← c.self.view_is) (still_agree m.rows c.drop_rows.new.rows (record_of m.walker) (record_of c.poll.new.self) (record_of c.drop_rows.new.walker) c.self.invariant.first e.«record» e.low e.agrees)

pub returns-clause-lowers : goal.returns-clause-lowers
returns-clause-lowers g c =
    let m = c.self.inside in
    rw (← c.self.view_is) (subst (λ i. PollLowers c.args.budget (left_in m.query (known_by m.rows) m.walker) i c.in_ok-answer.answer) (sym c.drop_rows.ensures.left) c.in_ok-answer.ensures.lowers)
