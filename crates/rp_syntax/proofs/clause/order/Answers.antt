use Rattle.std.proofs.Common.{◌<◌, length, refl, arith}
use Rattle.rp_lexer.specs.Lexes.{IsToken}
use Rattle.rp_syntax.specs.ClauseGrammar.{order}
use Rattle.rp_syntax.proofs.Following.{all_after, shorter_after}
use Rattle.rp_syntax.proofs.clause.order.Goals as goal

pub returns-in-Some : goal.returns-in-Some
unfolding order
returns-in-Some c =
    let less : length c.in-Some.rest.now < length c.in_ok-name.rest.now = shorter_after c.in-Some.ensures in
    record {
      exact = rw (c.in_ok-name.ensures.exact, c.in-Some.ensures.tokens_are, c.in-Some.ensures.kind) refl;
      stands = all_after (IsToken c.args.text.now) c.in-Some.ensures c.in_ok-name.ensures.stands;
      shorter = omega (arith, c.in_ok-name.ensures.shorter);
    }

pub returns-in-Some-after : goal.returns-in-Some-after
unfolding order
returns-in-Some-after c =
    let less : length c.in-Some-after.rest.now < length c.in_ok-name.rest.now = shorter_after c.in-Some-after.ensures in
    record {
      exact = rw (c.in_ok-name.ensures.exact, c.in_default.ensures, c.in-Some-after.ensures.tokens_are, c.in-Some-after.ensures.kind) refl;
      stands = all_after (IsToken c.args.text.now) c.in-Some-after.ensures c.in_ok-name.ensures.stands;
      shorter = omega (arith, c.in_ok-name.ensures.shorter);
    }

pub returns : goal.returns
unfolding order
returns c = record {
  exact = rw (c.in_ok-name.ensures.exact, c.in_default.ensures, c.in_default-after.ensures) refl;
  stands = c.in_ok-name.ensures.stands;
  shorter = c.in_ok-name.ensures.shorter;
}
