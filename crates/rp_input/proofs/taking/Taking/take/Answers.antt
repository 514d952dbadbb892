use Rattle.std.proofs.Common.{◌≡◌, length, rules, sym, refl, true≢false}
use Rattle.std.proofs.lemmas.List.{length-map}
use Rattle.csv.specs.Records.{AllText, fields_of}
use Rattle.rp_value.specs.Tables.{kinds_of}
use Rattle.rp_input.proofs.NotText.{no_text}
use Rattle.rp_input.proofs.taking.Taking.take.Goals as goal

pub returns-in_default-clause-err : goal.returns-in_default-clause-err
returns-in_default-clause-err c =
    let kinds = kinds_of c.args.table.now in
    let fields = fields_of c.args.self.now.fields in
    let many : length fields ≡ length kinds = search (rules, length-map) in
    let same : fields_of c.replace-fields.result ≡ fields = search rules in
    let refused : AllText fields → ⊥ = λ all. true≢false (sym (c.in_default.ensures.refused (rw same all))) in
    (refl, many, no_text kinds fields many refused)
