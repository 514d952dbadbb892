-- Inside: choices whose continuations are linked parts.
use Rattle.std.specs.Prelude.{true, ℕ, List, map, Option}
use Rattle.std.specs.declared.rc.Rc.{Rc}
use Rattle.std.specs.declared.alloc.Global.{Global}
use Rattle.rp_words.specs.declared.word.End.{End}
use Rattle.rp_words.specs.Turns.{WordsAndTurns, chain_turns}
use Rattle.rp_pattern.specs.declared.machine.link.Link.{Link}
use Rattle.rp_pattern.specs.declared.machine.continuation.Continuation.{Continuation}
use Rattle.rp_pattern.specs.declared.machine.continuation.Choice.{Choice}
use Rattle.rp_pattern.specs.Continuations.{tail_parts, continuation_parts, later_parts, chain_words}
use Rattle.rp_pattern.specs.Rests.{Rest, Way}

-- parts one after another
abbrev pub chain : List WordsAndTurns → WordsAndTurns
chain ps = (chain_words ps, chain_turns ps)

-- all parts of a tail
abbrev pub tail_chain : Option (Rc Link Global) → ℕ → End → WordsAndTurns
tail_chain tail n e = chain (tail_parts n e tail)

-- The parts of a continuation, and those after the first one. It has no place by which it is remembered, so its turns aren't counted
-- ahead: one, and two more for what it gives way to.
abbrev pub linked_rest : Continuation → Rest
linked_rest r = record {
  left = λ n e. chain (continuation_parts n e r);
  later = λ n e. chain (later_parts n e r);
  cost = 1;
  weight = 2;
  single = true;
}

-- the choices, as ways to go on
abbrev pub linked_ways : List Choice → List Way
linked_ways cs = map (λ c. record { depth = c.depth; rest = linked_rest c.continuation }) cs
