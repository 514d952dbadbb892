use Rattle.std.proofs.Common.{◌≡◌, drop}
use Rattle.rp_node.specs.Resuming.{fits_all}
use Rattle.rp_node.proofs.resume.fits_all.Given as goal

abbrev pub invariant-loop-row : goal.invariant-loop-row
invariant-loop-row l = fits_all l.query l.kept.key l.kept.rows ≡ fits_all l.query l.kept.key (drop l.row-index l.kept.rows)
