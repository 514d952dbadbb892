use Rattle.std.proofs.Common.{◌≡◌, ◌∷◌, ◌++◌, drop}
use Rattle.rp_protocol.specs.Within.{AreCells}
use Rattle.rp_protocol.proofs.CellTexts.{later_values}
use Rattle.rp_protocol.proofs.compact.more_cells.Given as goal

abbrev pub invariant-loop : goal.invariant-loop
invariant-loop l = record {
  first : l.cells.items ≡ l.fn.first ∷ drop 1 l.cells.items;
  text : l.text ≡ later_values (drop 1 l.cells.items) ++ l.rest;
  within : AreCells l.cells.items;
}
