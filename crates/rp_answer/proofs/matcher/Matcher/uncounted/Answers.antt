use Rattle.std.proofs.Common.{rules}
use Rattle.rp_answer.proofs.matcher.Matcher.uncounted.Goals as goal

pub returns : goal.returns
returns g c =
    let polled = c.poll.ensures in
    record {
      query = polled.query;
      count = polled.count;
      end = polled.end;
      answers = polled.answers;
      moves = polled.moves;
      out_of_memory = polled.out_of_memory;
      lowers = polled.lowers;
      rows = polled.rows;
      held = polled.held;
      kept = polled.kept;
      enters = search rules;
      nothing = search rules;
    }
