use Rattle.std.proofs.Common.{◌≡◌, ℕ, List, Err, [], length, true, false, rules}
use Rattle.csv.specs.Records.{fields_of}
use Rattle.rp_input.specs.ByColumns.{IsHeaderFault}
use Rattle.rp_input.specs.Standing.{Stands}
use Rattle.rp_input.proofs.TakenByColumns.{err_is, no_header, places_fault}
use Rattle.rp_input.proofs.places.places_below.Goals as goal

pub returns-then-not-branch-clause-err : goal.returns-then-not-branch-clause-err
returns-then-not-branch-clause-err c = λ d text at.
    let found : c.in_ok-take_record.field-0 ≡ false = search rules in
    no_header d text (rw found at (c.in_ok-take_record.ensures d text [] at))

pub returns-in_err-placed-clause-err : goal.returns-in_err-placed-clause-err
returns-in_err-placed-clause-err c =
    let found : c.in_ok-take_record.field-0 ≡ true = search rules in
    let is : (d : ℕ) (text : List ℕ) → Stands d text [] c.args.reader.now → IsHeaderFault d c.args.columns.now text c.in_err-placed.field-0.0 = λ d text at.
    places_fault d c.args.columns.now text c.take_record.new.reader (fields_of c.take_record.new.fields) c.in_err-placed.field-0.0 (rw found at (c.in_ok-take_record.ensures d text [] at)) c.in_err-placed.ensures.fault in
    let gone : c.from_residual-in_err-placed.result ≡ Err c.in_err-placed.field-0.0 = search rules in
    err_is c.from_residual-in_err-placed.result c.in_err-placed.field-0.0 gone _ is

pub returns-clause-ok : goal.returns-clause-ok
returns-clause-ok c = λ d text at.
    let found : c.in_ok-take_record.field-0 ≡ true = search rules in
    let wide : c.len.result ≡ length (fields_of c.take_record.new.fields) = search rules in
    record {
      header = fields_of c.take_record.new.fields;
      stands = rw found at (c.in_ok-take_record.ensures d text [] at);
      places = c.in_ok-placed.ensures.placed;
      wide = wide;
    }
