use Rattle.std.proofs.Common.{◌≡◌, ◌+◌, ◌-◌, ◌≤◌, false}
use Rattle.rp_known.specs.Known.{known_in}
use Rattle.rp_walker.specs.Bound.{Spends}
use Rattle.rp_walker.specs.Records.{IsWithin, PlaceStays}
use Rattle.rp_walker.specs.Steps.{Moves}
use Rattle.rp_walker.specs.Walking.{stands_by}
use Rattle.rp_walker.specs.Stages.{left_with}
use Rattle.rp_walker.proofs.walker.Walker.go_on.Given as goal

abbrev pub invariant-loop-left : goal.invariant-loop-left
invariant-loop-left g l = record {
  stands : stands_by l.self.state.over l.query (known_in g.R.Rows.known g.R.Rows.ending l.rows) l.self;
  in_rows : PlaceStays (known_in g.R.Rows.known g.R.Rows.ending l.rows) l.fn.self.state l.self.state;
  first : l.self.state.first ≡ l.fn.self.state.first;
  given : l.self.state.given ≡ l.fn.self.state.given;
  lowered : left_with l.query (known_in g.R.Rows.known g.R.Rows.ending l.rows) l.self.state l.self.stage + (l.fn.budget - l.left)
      ≤ left_with l.query (known_in g.R.Rows.known g.R.Rows.ending l.rows) l.fn.self.state l.fn.self.stage;
  moved : IsWithin l.query (known_in g.R.Rows.known g.R.Rows.ending l.rows) l.fn.self.state →
      Moves l.query (known_in g.R.Rows.known g.R.Rows.ending l.rows) l.fn.self.state l.self.state;
  worked : Spends (l.fn.budget - l.left) 0 l.query (known_in g.R.Rows.known g.R.Rows.ending l.rows) l.fn.self.state l.fn.self.stage l.self.state l.self.stage;
  within : l.left ≤ l.fn.budget;
  counted : l.steps + l.left ≡ l.fn.steps + l.fn.budget;
  entered : l.entered + l.left ≤ l.fn.entered + l.fn.budget;
  grows : l.fn.entered ≤ l.entered;
  begins : l.left ≡ l.fn.budget → l.self.state.over ≡ false;
}

abbrev pub decreases-loop-left : goal.decreases-loop-left
decreases-loop-left g l = l.left
