use Rattle.std.proofs.Common.{◌≡◌, ◌≤◌, ◌+◌, ◌++◌, drop}
use Rattle.rp_input.specs.Placed.{fields_read, places_from}
use Rattle.rp_input.proofs.places.places_in_order.Given as goal

abbrev pub invariant-loop-column : goal.invariant-loop-column
invariant-loop-column l = record {
  places : places_from 0 l.columns ≡ l.placed.items ++ places_from l.place (drop l.column-index l.columns);
  width : fields_read l.columns ≡ l.place + fields_read (drop l.column-index l.columns);
  bound : l.place ≤ l.column-index;
}
