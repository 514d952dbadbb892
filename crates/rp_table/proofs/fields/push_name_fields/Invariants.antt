use Rattle.std.proofs.Common.{◌≡◌, [], ◌++◌, take}
use Rattle.csv.specs.Records.{fields_of, partial_of}
use Rattle.rp_table.proofs.fields.push_name_fields.Given as goal

abbrev pub invariant-loop-name : goal.invariant-loop-name
invariant-loop-name l = record {
  fields : fields_of l.row ≡ fields_of l.fn.row ++ take l.name-index l.names;
  whole : partial_of l.row ≡ [];
}
