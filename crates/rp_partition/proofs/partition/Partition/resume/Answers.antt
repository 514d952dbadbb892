use Rattle.std.proofs.Common.{subst}
use Rattle.rp_walker.specs.Walking.{CanGoOn}
use Rattle.rp_partition.specs.PartRows.{known_by}
use Rattle.rp_partition.proofs.partition.Partition.resume.Goals as goal

pub returns-clause-held : goal.returns-clause-held
returns-clause-held c = λ i. record { feed = c.args.feed; state = c.resume-walker.ensures.«record» i }

pub returns-clause-joined : goal.returns-clause-joined
returns-clause-joined c = λ q can. record {
  feed = c.front-front.ensures.feed;
  stands = c.resume-walker.ensures.stands q (known_by c.args.feed) (subst (λ r. CanGoOn q r) c.resume-walker.ensures.«record» can.can);
  first = can.first;
  in_rows = can.in_rows;
}

pub returns-clause-no_search : goal.returns-clause-no_search
returns-clause-no_search c = λ q. c.resume-walker.ensures.no_search q (known_by c.args.feed)
