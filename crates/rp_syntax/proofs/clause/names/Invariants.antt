use Rattle.std.proofs.Common.{◌≤◌, length, All}
use Rattle.rp_lexer.specs.Lexes.{IsToken}
use Rattle.rp_grammar.specs.Grammar.{listed}
use Rattle.rp_grammar.specs.Names.{name}
use Rattle.rp_syntax.proofs.Lists.{ItemDue}
use Rattle.rp_syntax.proofs.clause.names.Given as goal

abbrev pub decreases-items : goal.decreases-items
decreases-items l = length l.rest

abbrev pub invariant-items : goal.invariant-items
invariant-items l = record {
  stands : All (IsToken l.text) l.rest;
  no_longer : length l.rest ≤ length l.tokens;
  due : ItemDue l.text name l.items.items l.rest ((listed name).read l.text l.tokens);
}
