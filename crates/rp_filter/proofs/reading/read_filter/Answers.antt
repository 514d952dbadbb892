use Rattle.std.proofs.Common.{rules, ◌≡◌, subst}
use Rattle.std.specs.Prelude.{◌≢◌}
use Rattle.rp_compile.specs.Compiled.{IsCompiled, IsCompileFault}
use Rattle.rp_compile.specs.declared.compiling.CompileFault.TheVariants as compile
use Rattle.rp_filter.specs.Meets.{clause_of}
use Rattle.rp_filter.proofs.reading.read_filter.Goals as goal

pub returns-in-Ok-clause-fault : goal.returns-in-Ok-clause-fault
returns-in-Ok-clause-fault c =
    let is : IsCompiled (clause_of c.args.text.now) c.args.table.now c.in-Ok.query = search rules in
    (c.in-Ok.query, is, λ own. search rules)

pub returns : goal.returns
returns c =
    let same : c.as_str.result.now ≡ clause_of c.args.text.now = search rules in
    let is : IsCompileFault (clause_of c.args.text.now) c.args.table.now c.in-Err.fault =
    subst (λ t. IsCompileFault t c.args.table.now c.in-Err.fault) same c.in-Err.ensures.fault in
    let told : c.in-Err.fault ≢ compile.OutOfMemory = search rules in
    record {
      query = tt;
      own = tt;
      fault = record { of_clause = c.in-Err.fault; is = is; told = told; offset = c.in_condition.ensures };
    }
