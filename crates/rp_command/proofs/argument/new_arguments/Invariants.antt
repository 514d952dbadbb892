use Rattle.std.proofs.Common.{◌≡◌, map, take}
use Rattle.clap.specs.Words.{rule_of}
use Rattle.rp_command.specs.Listed.{rule_by}
use Rattle.rp_command.proofs.argument.new_arguments.Given as goal

abbrev pub invariant-loop-argument : goal.invariant-loop-argument
invariant-loop-argument l = map rule_of l.arguments.items ≡ map rule_by (take l.argument-index l.listed)
