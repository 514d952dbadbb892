use Rattle.std.proofs.Common.{◌≤◌, length, All, map}
use Rattle.rp_lexer.specs.Lexes.{IsToken}
use Rattle.rp_grammar.specs.Grammar.{listed}
use Rattle.rp_tree.specs.Clauses.{measure_tree}
use Rattle.rp_syntax.specs.ClauseGrammar.{measure}
use Rattle.rp_syntax.proofs.Lists.{ItemDue}
use Rattle.rp_syntax.proofs.clause.measures.Given as goal

abbrev pub decreases-items : goal.decreases-items
decreases-items l = length l.rest

abbrev pub invariant-items : goal.invariant-items
invariant-items l = record {
  stands : All (IsToken l.text) l.rest;
  no_longer : length l.rest ≤ length l.tokens;
  due : ItemDue l.text (measure l.room) (map measure_tree l.items.items) l.rest ((listed (measure l.room)).read l.text l.tokens);
}
