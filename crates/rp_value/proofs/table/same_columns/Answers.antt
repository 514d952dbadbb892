use Rattle.std.proofs.Common.{◌≡◌, rules}
use Rattle.std.specs.Bool.{Decides}
use Rattle.std.proofs.lemmas.Slice.Eq.{slice_eq-Decides}
use Rattle.rp_value.specs.declared.table.Column.{Column}
use Rattle.rp_value.proofs.table.same_columns.Goals as goal

pub returns : goal.returns
returns c =
    let same : Decides c.eq.result (c.args.left.now ≡ c.args.right.now) = slice_eq-Decides (λ (a b : Column). search rules) _ _ _ c.eq.ensures in
    search rules
