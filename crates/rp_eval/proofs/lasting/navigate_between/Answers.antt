use Rattle.std.proofs.Common.{rules}
use Rattle.rp_eval.specs.Found.{found_cell}
use Rattle.rp_eval.proofs.Refusing.{own_between, first_between}
use Rattle.rp_eval.proofs.lasting.navigate_between.Goals as goal

pub returns-then-goes_from_own_row : goal.returns-then-goes_from_own_row
returns-then-goes_from_own_row g c =
    own_between g.R.Rows.known g.R.Rows.ending c.args.ends.now (found_cell c.go.result) c.args.navigation.now (search rules) c.go.ensures

pub returns-then-goes_from_leader : goal.returns-then-goes_from_leader
returns-then-goes_from_leader g c =
    first_between g.R.Rows.known g.R.Rows.ending c.args.ends.now (found_cell c.go-then-goes_from_leader.result) c.args.navigation.now (search rules) c.go-then-goes_from_leader.ensures
