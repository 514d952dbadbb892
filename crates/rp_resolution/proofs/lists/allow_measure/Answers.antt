use Rattle.std.proofs.Common.{◌≡◌, ◌||◌, true, map, [], refl}
use Rattle.std.specs.Prelude.{not}
use Rattle.rp_tree.specs.Clauses.{measure_tree}
use Rattle.rp_resolution.specs.declared.fault.CheckKind.TheVariants.{DoubleName}
use Rattle.rp_resolution.specs.ExprFaults.{unless}
use Rattle.rp_resolution.specs.PartFaults.{shown_names}
use Rattle.rp_resolution.specs.Variables.{is_among}
use Rattle.rp_resolution.proofs.Telling.{allowed}
use Rattle.rp_resolution.proofs.lists.allow_measure.Goals as goal

pub returns : goal.returns
returns c =
    let name = c.args.measure.now.name in
    let is_double = is_among name.text (shown_names c.args.rows c.args.partition.now c.args.columns.now) || is_among name.text (map (λ m. m.name.text) (map measure_tree c.args.earlier.now)) in
    let once = rw c.is_given-is_double.ensures at c.require.ensures in
    allowed [] (unless (not is_double) DoubleName name.at) (λ u. not is_double ≡ true) c.require.result refl once
