use Rattle.std.proofs.Common.{◌≤◌, length, All, map}
use Rattle.rp_lexer.specs.Lexes.{IsToken}
use Rattle.rp_grammar.specs.Grammar.{listed}
use Rattle.rp_tree.specs.Clauses.{definition_tree}
use Rattle.rp_syntax.specs.ClauseGrammar.{definition}
use Rattle.rp_syntax.proofs.Lists.{ItemDue}
use Rattle.rp_syntax.proofs.clause.definitions.Given as goal

abbrev pub decreases-items : goal.decreases-items
decreases-items l = length l.rest

abbrev pub invariant-items : goal.invariant-items
invariant-items l = record {
  stands : All (IsToken l.text) l.rest;
  no_longer : length l.rest ≤ length l.tokens;
  due : ItemDue l.text (definition l.room) (map definition_tree l.items.items) l.rest ((listed (definition l.room)).read l.text l.tokens);
}
