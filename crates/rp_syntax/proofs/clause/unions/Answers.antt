use Rattle.std.proofs.Common.{◌<◌, length, arith}
use Rattle.rp_lexer.specs.Lexes.{IsToken}
use Rattle.rp_grammar.proofs.Loops.{list_ends}
use Rattle.rp_tree.specs.Clauses.{union_tree}
use Rattle.rp_syntax.specs.ClauseGrammar.{union}
use Rattle.rp_syntax.proofs.Following.{all_after, shorter_after}
use Rattle.rp_syntax.proofs.Lists.{first_due, next_due, seen_item_read}
use Rattle.rp_syntax.proofs.clause.unions.Goals as goal

pub items-init : goal.items-init
items-init c = record {
  stands = c.requires.stands;
  no_longer = omega arith;
  due = rw c.new-items.ensures.items (first_due c.args.text.now (union c.args.room) c.args.tokens.now);
}

pub items-preserved : goal.items-preserved
items-preserved c =
    let less : length c.in-Some.next.now < length c.in_ok-item.behind.now = shorter_after c.in-Some.ensures in
    record {
      stands = all_after (IsToken c.args.text.now) c.in-Some.ensures c.in_ok-item.ensures.stands;
      no_longer = omega (arith, c.in_ok-item.ensures.shorter, c.items.invariant.no_longer);
      due = next_due c.args.text.now (union c.args.room) c.in-Some.ensures (seen_item_read c.args.text.now (union c.args.room) union_tree c.items.items.items c.in_ok-item.item c.in_ok-push.ensures.items c.in_ok-item.ensures.exact c.in_ok-item.ensures.shorter c.items.invariant.due);
    }

pub returns-in-None : goal.returns-in-None
returns-in-None c = record {
  exact = list_ends c.args.text.now (union c.args.room) c.in-None.ensures (seen_item_read c.args.text.now (union c.args.room) union_tree c.items.items.items c.in_ok-item.item c.in_ok-push.ensures.items c.in_ok-item.ensures.exact c.in_ok-item.ensures.shorter c.items.invariant.due);
  stands = c.in_ok-item.ensures.stands;
  shorter = omega (arith, c.in_ok-item.ensures.shorter, c.items.invariant.no_longer);
}
