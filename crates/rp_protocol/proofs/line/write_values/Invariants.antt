use Rattle.std.proofs.Common.{◌≡◌, ◌++◌, ◌∷◌, map, take}
use Rattle.json.specs.Token.{begin_array}
use Rattle.rp_protocol.specs.Tokens.{value_token}
use Rattle.rp_protocol.specs.Within.{AreCells}
use Rattle.rp_protocol.proofs.line.write_values.Given as goal

abbrev pub invariant-loop-value : goal.invariant-loop-value
invariant-loop-value l = record {
  written : l.writer.tokens ≡ l.fn.writer.tokens ++ begin_array ∷ map value_token (take l.value-index l.values);
  within : AreCells (take l.value-index l.values);
  before : l.writer.before ≡ l.fn.writer.before;
}
