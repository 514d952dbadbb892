use Rattle.std.proofs.Common.{rules, ◌≡◌, ◌≤◌, length, arith, ap, ◌∙◌}
use Rattle.rp_trace.specs.Grammar.{symbols_of, tree_of}
use Rattle.rp_trace.proofs.OnlyReadings.{rest-nothing, nothing-derived}
use Rattle.rp_trace.proofs.grammar.trace_pattern.Goals as goal

pub returns-in-Ok-clause-refused : goal.returns-in-Ok-clause-refused
returns-in-Ok-clause-refused c = λ offset is tree d.
    let symbols : c.as_slice.result.now ≡ symbols_of c.args.text.now = c.as_slice.ensures.value ∙ c.in_ok-symbols.ensures ∙ ap symbols_of c.as_bytes.ensures.value in
    let none : length c.in-Ok.rest.now ≡ 0 = ap length (rest-nothing c.as_slice.result.now (symbols_of c.args.text.now) c.in-Ok.rest.now (tree_of c.in-Ok.field-0-0) tree symbols c.in-Ok.ensures.read.only d) in
    let some : 1 ≤ length c.in-Ok.rest.now = c.in-Ok.len_at_least in
    absurd (omega arith)

pub returns-in-Err-At-clause-refused : goal.returns-in-Err-At-clause-refused
returns-in-Err-At-clause-refused c = λ offset is tree d.
    let symbols : c.as_slice.result.now ≡ symbols_of c.args.text.now = c.as_slice.ensures.value ∙ c.in_ok-symbols.ensures ∙ ap symbols_of c.as_bytes.ensures.value in
    nothing-derived c.as_slice.result.now (symbols_of c.args.text.now) tree symbols (c.in-Err-At.ensures.stop c.in-Err-At.left (search rules)).none d
