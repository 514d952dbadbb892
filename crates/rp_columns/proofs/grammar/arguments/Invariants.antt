use Rattle.std.proofs.Common.{◌≤◌, length, All}
use Rattle.rp_lexer.specs.Lexes.{IsToken}
use Rattle.rp_grammar.proofs.Loops.{ListGoesOn}
use Rattle.rp_columns.specs.ColumnsGrammar.{argument, arguments}
use Rattle.rp_columns.proofs.grammar.arguments.Given as goal

abbrev pub decreases-items : goal.decreases-items
decreases-items l = length l.rest

abbrev pub invariant-items : goal.invariant-items
invariant-items l = record {
  stands : All (IsToken l.text) l.rest;
  no_longer : length l.rest ≤ length l.tokens;
  reads : ListGoesOn l.text argument l.items.items l.rest (arguments.read l.text l.tokens);
}
