use Rattle.std.proofs.Common.{◌≤◌, length, All, map}
use Rattle.rp_lexer.specs.Lexes.{IsToken}
use Rattle.rp_columns.specs.ColumnsGrammar.{column, columns, written_tree}
use Rattle.rp_columns.proofs.Items.{NextItem}
use Rattle.rp_columns.proofs.grammar.columns.Given as goal

abbrev pub decreases-items : goal.decreases-items
decreases-items l = length l.rest

abbrev pub invariant-items : goal.invariant-items
invariant-items l = record {
  stands : All (IsToken l.text) l.rest;
  no_longer : length l.rest ≤ length l.tokens;
  reads : NextItem l.text column (map written_tree l.items.items) l.rest (columns.read l.text l.tokens);
}
