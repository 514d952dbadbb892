use Rattle.std.proofs.Common.{◌≡◌, ◌++◌, drop}
use Rattle.std.specs.Prelude.{zip}
use Rattle.std.specs.List.{flat_map}
use Rattle.rp_protocol.specs.Tokens.{field_tokens}
use Rattle.rp_protocol.proofs.object.write_fields.Given as goal

abbrev pub invariant-loop-index : goal.invariant-loop-index
invariant-loop-index l = record {
  written : l.writer.tokens ++ flat_map field_tokens (zip (drop l.index l.columns) (drop l.index l.cells)) ≡ l.fn.writer.tokens ++ flat_map field_tokens (zip l.columns l.cells);
  before : l.writer.before ≡ l.fn.writer.before;
}
