use Rattle.std.proofs.Common.{◌≡◌, ◌∙◌, refl, ap, subst}
use Rattle.rp_io.proofs.Cutting.{on_err_from}
use Rattle.rp_walker.specs.Records.{first_state}
use Rattle.rp_walker.specs.Walking.{record_of}
use Rattle.rp_whole.specs.Answers.{IsByLimit, closed, limit_of}
use Rattle.rp_whole.specs.Writing.{part_of}
use Rattle.rp_whole.proofs.Items.{none_written, part_given_up, part_written, written_front, written_more}
use Rattle.rp_whole.proofs.Nexts.{polled_first}
use Rattle.rp_whole.proofs.part.write_part.Goals as goal

pub items-init : goal.items-init
items-init g c =
    let q = c.args.query.now in
    let p = closed c.args.part.now.rows.items in
    let first : record_of c.new-walker.result ≡ first_state = c.new-walker.ensures.record in
    record {
      can_be_polled = polled_first c.law_left.ensures.bounded q (part_of c.args.part.now) c.new-walker.result c.begin_part.new.self.row c.begin_part.new.self.taken
          (c.new-walker.ensures.stands q p) (c.law_records.ensures.first q p) first c.begin_part.ensures.row c.begin_part.ensures.taken;
      writes = none_written (ap (λ r. r.given) first);
      limit = c.begin_part.ensures.limit;
      failures = refl;
    }

pub returns-in_err-write_next-clause-front : goal.returns-in_err-write_next-clause-front
returns-in_err-write_next-clause-front g c = on_err_from _ (written_front c.items.invariant.writes (g.W.Outlet.contents c.write_next.new.writer) c.in_err-write_next.ensures.front)

pub items-preserved : goal.items-preserved
items-preserved g c =
    let next = rw c.in-More.is at c.in_ok-write_next.ensures.next in
    record {
      can_be_polled = next.0;
      writes = written_more c.items.invariant.writes c.in_ok-write_next.ensures.written;
      limit = c.in_ok-write_next.ensures.limit ∙ c.items.invariant.limit;
      failures = c.in_ok-write_next.ensures.failures ∙ c.items.invariant.failures;
    }

pub items-smaller : goal.items-smaller
items-smaller g c = let next = rw c.in-More.is at c.in_ok-write_next.ensures.next in next.1

pub returns-in-All-clause-written : goal.returns-in-All-clause-written
returns-in-All-clause-written g c =
    let none = rw c.in-All.is at c.in_ok-write_next.ensures.next in
    part_written (written_more c.items.invariant.writes c.in_ok-write_next.ensures.written) none

pub returns-in-GivenUp-clause-written : goal.returns-in-GivenUp-clause-written
returns-in-GivenUp-clause-written g c =
    let here = rw c.in-GivenUp.is at c.in_ok-write_next.ensures.next in
    let by_limit = subst (λ limit. IsByLimit (limit_of limit) c.args.query.now c.args.part.now.rows.items (record_of c.write_next.new.walker).given c.in-GivenUp.row) c.items.invariant.limit here in
    part_given_up (written_more c.items.invariant.writes c.in_ok-write_next.ensures.written) c.in-GivenUp.row by_limit
