use Rattle.std.proofs.Common.{rules, ◌≡◌, ◌∙◌, map, ap, sym}
use Rattle.rp_columns.specs.Headings.{headings}
use Rattle.rp_columns.specs.Loaded.{column_with}
use Rattle.rp_columns.proofs.LoadedColumns.{same_headings}
use Rattle.rp_columns.proofs.columns.Columns.with_rules.Goals as goal

pub invariant_of-result : goal.invariant_of-result
invariant_of-result c =
    let with : c.in_ok-columns.columns.items ≡ map (column_with c.args.name.now c.in_ok-rules.rules) c.args.self = search rules in
    let table : c.self.inside.table ≡ headings c.args.self = search rules in
    table ∙ sym (ap headings with ∙ same_headings c.args.name.now c.in_ok-rules.rules c.args.self)

pub returns-clause-ok : goal.returns-clause-ok
returns-clause-ok c = record {
  table = c.in_ok-rules.rules;
  rules = c.in_ok-rules.ensures.ok;
  are = search rules;
}
