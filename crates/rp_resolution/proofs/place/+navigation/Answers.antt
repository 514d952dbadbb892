use Rattle.std.proofs.Common.{rules}
use Rattle.rp_resolution.proofs.Telling.{telling}
use Rattle.rp_resolution.proofs.place.+navigation.Goals as goal

pub moved_path-returns-in_err-allow_scope : goal.moved_path-returns-in_err-allow_scope
moved_path-returns-in_err-allow_scope t c = search (rules, telling)

pub moved_path-returns-in_err-allow_nesting : goal.moved_path-returns-in_err-allow_nesting
moved_path-returns-in_err-allow_nesting t c = search (rules, telling)

pub moved_path-returns-in_err-inner : goal.moved_path-returns-in_err-inner
moved_path-returns-in_err-inner t c = search (rules, telling)
