use Rattle.std.proofs.Common.{◌≡◌, drop}
use Rattle.std.specs.List.{list_all}
use Rattle.rp_columns.specs.Resolved.{is_in_identifier}
use Rattle.rp_columns.proofs.resolve.are_in_identifiers.Given as goal

abbrev pub invariant-loop-byte : goal.invariant-loop-byte
invariant-loop-byte l = list_all is_in_identifier l.bytes ≡ list_all is_in_identifier (drop l.byte-index l.bytes)
