use Rattle.std.proofs.Common.{◌≡◌, [], ◌++◌, map, take}
use Rattle.csv.specs.Records.{fields_of, partial_of}
use Rattle.rp_table.specs.RecordTexts.{field_of}
use Rattle.rp_table.proofs.fields.push_cell_fields.Given as goal

abbrev pub invariant-loop-cell : goal.invariant-loop-cell
invariant-loop-cell l = record {
  fields : fields_of l.row ≡ fields_of l.fn.row ++ map field_of (take l.cell-index l.cells);
  whole : partial_of l.row ≡ [];
}
