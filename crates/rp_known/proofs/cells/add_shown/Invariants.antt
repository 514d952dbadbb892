use Rattle.std.proofs.Common.{◌≡◌, ◌++◌, drop}
use Rattle.std.specs.Prelude.{option_map}
use Rattle.rp_eval.specs.Looks.{setting_of}
use Rattle.rp_known.specs.Plans.{cells_in}
use Rattle.rp_known.proofs.cells.add_shown.Given as goal

abbrev pub invariant-loop-column : goal.invariant-loop-column
invariant-loop-column g l =
    option_map (λ vs. l.fn.cells.items ++ vs) (cells_in l.query (setting_of g.R.Rows.known g.R.Rows.ending l.view) l.columns)
    ≡ option_map (λ vs. l.cells.items ++ vs) (cells_in l.query (setting_of g.R.Rows.known g.R.Rows.ending l.view) (drop l.column-index l.columns))
