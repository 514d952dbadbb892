use Rattle.std.proofs.Common.{◌<◌, ◌+◌, [], ◌∷◌, ◌++◌, length, get_or, arith}
use Rattle.rp_lexer.proofs.Quotes.{inside_more, inside_closed, inside_doubled}
use Rattle.rp_lexer.proofs.scan.closing.Goals as goal
use Rattle.rp_lexer.proofs.scan.closing.Goals.{then-at-rest-via-then-at-rest, then-at-rest-via-else-at-rest+then-rest-at-2}

pub loop-at-preserved-then-rest-at : goal.loop-at-preserved-then-rest-at
loop-at-preserved-then-rest-at c =
    let i = c.loop-at.invariant in
    record {
      some = omega arith;
      within = omega arith;
      inside = i.inside ++ get_or c.args.rest.now c.loop-at.at 0 ∷ [];
      front = inside_more c.args.rest.now (get_or c.args.rest.now 0 0) c.loop-at.at i.inside i.front c.loop-at-test.true c.if-rest-at.true;
    }

pub returns-then-at-rest : goal.returns-then-at-rest
returns-then-at-rest c =
    let i = c.loop-at.invariant in
    record {
      inside = i.inside;
      front = inside_closed c.args.rest.now (get_or c.args.rest.now 0 0) c.loop-at.at i.inside i.front c.loop-at-test.true c.if-rest-at.false;
      within = omega arith;
      closed = λ more. elim c.then-at-rest.branch [
        | then-at-rest-via-then-at-rest w ↦ absurd (omega arith)
        | then-at-rest-via-else-at-rest+then-rest-at-2 w ↦ w.if-rest-at-2.true
      ];
    }

pub loop-at-preserved : goal.loop-at-preserved
loop-at-preserved c =
    let i = c.loop-at.invariant in
    let in'' : c.loop-at.at + 1 < length c.args.rest.now = omega arith in
    record {
      some = omega arith;
      within = omega arith;
      inside = i.inside ++ get_or c.args.rest.now 0 0 ∷ [];
      front = inside_doubled c.args.rest.now (get_or c.args.rest.now 0 0) c.loop-at.at i.inside i.front c.loop-at-test.true c.if-rest-at.false in'' c.if-rest-at-2.false;
    }
